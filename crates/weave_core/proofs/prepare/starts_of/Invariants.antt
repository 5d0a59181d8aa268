-- The starts so far.
use Rattle.std.proofs.Common.{◌≡◌, map, take}
use Rattle.weave_core.proofs.prepare.starts_of.Given as goal

abbrev pub invariant-loop-event : goal.invariant-loop-event
invariant-loop-event l = l.starts.items ≡ map (λ e. e.min_start) (take l.event-index l.here)
