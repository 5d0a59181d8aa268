use Rattle.lanes.proofs.Bits.{has_bits}
use Rattle.lanes.proofs.masks.mask_count.Goals as goal

pub returns : goal.returns
returns c = has_bits c.args.a c.element_fits.fits c.element_fits2.fits c.element_fits3.fits c.element_fits4.fits
