-- the legs behind the last access that come before this one are untold now
use Rattle.std.proofs.Common.{◌≡◌, ◌++◌, drop}
use Rattle.trace.proofs.telling.tell_made.Given as goal

abbrev pub invariant-loop-leg : goal.invariant-loop-leg
invariant-loop-leg g l = l.untold.items ++ drop l.leg-index l.leg-items ≡ l.initial.untold.items ++ l.leg-items
