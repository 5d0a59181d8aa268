-- The children from here on are told, and this is the next one.
use Rattle.std.proofs.Common.{◌≡◌, ◌<◌, ◌≤◌, ℕ, true, false, length, Some}
use Rattle.std.specs.Prelude.{slice_get}
use Rattle.event_graph.specs.declared.event.Event.{Event}
use Rattle.event_graph.specs.declared.event.Parent.{Parent}
use Rattle.weave_seq.specs.Chains.{IsParent, parents_in}
use Rattle.weave_seq.specs.Known.{finish_at, known_time, known_to_first, known_to_second, known_waits}
use Rattle.weave_seq.proofs.tell.tell_children.Given as goal

abbrev pub invariant-loop-next : goal.invariant-loop-next
invariant-loop-next l = record {
  is_child : 0 < l.next → (p : Parent) × (IsParent (parents_in l.children.slot l.events) l.next p × (p.number ≡ l.fired.number));
  times_size : length l.state.times ≡ length l.events;
  waits_size : length l.state.waits ≡ length l.events;
  told : (j : ℕ) (e : Event) → slice_get l.events j ≡ Some e → l.next < j
      → (slice_get l.state.times j ≡ Some (known_time (known_to_first l.children.slot true l.fired.number (finish_at l.fn.state.times)) (known_to_second l.children.slot true l.fired.number (finish_at l.fn.state.times)) (finish_at l.fn.state.times) e))
      × (slice_get l.state.waits j ≡ Some (known_waits (known_to_first l.children.slot true l.fired.number (finish_at l.fn.state.times)) (known_to_second l.children.slot true l.fired.number (finish_at l.fn.state.times)) (finish_at l.fn.state.times) e));
  untold : (j : ℕ) (e : Event) → slice_get l.events j ≡ Some e → j ≤ l.next
      → (slice_get l.state.times j ≡ Some (known_time (known_to_first l.children.slot false l.fired.number (finish_at l.fn.state.times)) (known_to_second l.children.slot false l.fired.number (finish_at l.fn.state.times)) (finish_at l.fn.state.times) e))
      × (slice_get l.state.waits j ≡ Some (known_waits (known_to_first l.children.slot false l.fired.number (finish_at l.fn.state.times)) (known_to_second l.children.slot false l.fired.number (finish_at l.fn.state.times)) (finish_at l.fn.state.times) e));
}

abbrev pub decreases-loop-next : goal.decreases-loop-next
decreases-loop-next l = l.next
