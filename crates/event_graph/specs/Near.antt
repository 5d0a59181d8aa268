-- How late the events of an interval can begin before they wait for each other.
use Rattle.std.specs.Prelude.{◌≡◌, ◌≤◌, ℕ, List, slice_get, Some}
use Rattle.event_graph.specs.declared.event.Event.{Event}
use Rattle.event_graph.specs.declared.event.Parent.{Parent}

-- the event's earliest start is at most `base`, and its delays are at most `delay`
pub record IsNear (base delay : ℕ) (e : Event) : Type 0 where
  pub min_start : e.min_start ≤ base
  pub first : (p : Parent) → e.first ≡ Some p → p.delay ≤ delay
  pub second : (p : Parent) → e.second ≡ Some p → p.delay ≤ delay

abbrev pub AreNear : ℕ → ℕ → List Event → Type 0
AreNear base delay events = (i : ℕ) (e : Event) → slice_get events i ≡ Some e → IsNear base delay e
