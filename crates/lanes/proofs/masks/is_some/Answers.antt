use Rattle.std.proofs.Common.{arith}
use Rattle.lanes.proofs.Bits.{fits_at, has_some}
use Rattle.lanes.proofs.masks.is_some.Goals as goal

pub returns : goal.returns
returns c = has_some c.args.a c.fits-a.0 (λ k l. fits_at c.args.a c.fits-a.1 k (omega arith))
