use Rattle.std.proofs.Common.{refl}
use Rattle.l1_cache.proofs.Views.{copy_there}
use Rattle.l1_cache.proofs.l1.L1.has_near.Goals as goal

pub returns : goal.returns
returns c near = let (place, at) = c.has_near.ensures near in rw (← c.self.view_is, copy_there c.self.invariant c.args.line place at) refl
