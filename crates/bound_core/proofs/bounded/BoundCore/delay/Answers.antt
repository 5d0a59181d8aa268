use Rattle.std.proofs.Common.{refl}
use Rattle.bound_core.proofs.bounded.BoundCore.delay.Goals as goal

pub returns-clause-timed : goal.returns-clause-timed
returns-clause-timed c = rw (← c.self.view_is) refl
