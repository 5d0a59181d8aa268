-- The place, if there is one, is between the two.
use Rattle.std.proofs.Common.{ℕ, ◌≡◌, ◌<◌, ◌≤◌, ◌-◌, length, slice_get, Some}
use Rattle.event_graph.specs.declared.event.Event.{Event}
use Rattle.weave_core.proofs.prepare.place_of.Given as goal

abbrev pub invariant-loop-low : goal.invariant-loop-low
invariant-loop-low l = record {
  between : (place : ℕ) (e : Event) → slice_get l.here place ≡ Some e → e.number ≡ l.number → (l.low ≤ place) × (place < l.high);
  within : l.high ≤ length l.here;
}

abbrev pub decreases-loop-low : goal.decreases-loop-low
decreases-loop-low l = l.high - l.low
