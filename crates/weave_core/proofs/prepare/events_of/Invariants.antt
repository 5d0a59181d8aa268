-- The events so far.
use Rattle.std.proofs.Common.{◌≡◌, map, take}
use Rattle.std.specs.Prelude.{slice_index_or}
use Rattle.weave_core.specs.Layout.{no_event}
use Rattle.weave_core.proofs.prepare.events_of.Given as goal

abbrev pub invariant-loop-number : goal.invariant-loop-number
invariant-loop-number l = l.here.items ≡ map (λ n. slice_index_or l.events n no_event) (take l.number-index l.numbers)
