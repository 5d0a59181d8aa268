-- How the events of an interval are numbered.
use Rattle.std.specs.Prelude.{◌≡◌, ◌<◌, ℕ, List, slice_get, Some}
use Rattle.event_graph.specs.declared.event.Event.{Event}
use Rattle.event_graph.specs.declared.event.Parent.{Parent}

-- event i has number i, and its parents have smaller numbers
pub record IsNumbered (events : List Event) : Type 0 where
  pub number : (i : ℕ) (e : Event) → slice_get events i ≡ Some e → e.number ≡ i
  pub first : (i : ℕ) (e : Event) (p : Parent) → slice_get events i ≡ Some e → e.first ≡ Some p → p.number < i
  pub second : (i : ℕ) (e : Event) (p : Parent) → slice_get events i ≡ Some e → e.second ≡ Some p → p.number < i
