use Rattle.std.proofs.Common.{arith}
use Rattle.std.proofs.lemmas.Grind.{common_steps}
use Rattle.reference.specs.TimedCore.{core_after_access}
use Rattle.bound_core.proofs.bounded.BoundCore.make.Goals as goal

pub returns-clause-given : goal.returns-clause-given
returns-clause-given g c = rw (← c.self.view_is) c.access-entry.ensures.gives

pub returns-clause-start : goal.returns-clause-start
returns-clause-start g c = rw (← c.self.view_is) c.access-entry.ensures.start

pub returns-clause-left : goal.returns-clause-left
unfolding core_after_access
returns-clause-left g c = grind (arith, common_steps)
