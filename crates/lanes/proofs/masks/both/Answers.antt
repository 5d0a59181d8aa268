use Rattle.std.proofs.Common.{sym, ◌∙◌}
use Rattle.lanes.proofs.Bits.{both_have}
use Rattle.lanes.proofs.masks.both.Goals as goal

pub returns : goal.returns
returns c = both_have c.args.a c.args.b (c.fits-a.0 ∙ sym c.fits-b.0)
