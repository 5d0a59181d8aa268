-- The timing rules with an order for the events of each component alone. Two events of different components need none.
use Rattle.std.specs.Prelude.{◌≡◌, ◌↔◌, ℕ, List, map, slice_get, Some}
use Rattle.std.specs.List.{Contains}
use Rattle.component.specs.declared.kind.Kind.{Kind}
use Rattle.event_graph.specs.declared.event.Event.{Event}
use Rattle.event_graph.specs.OneListWeave.{FiredEvent, finish_in, start_of}
use Rattle.event_graph.specs.ServedEvents.{of_component}
use Rattle.event_graph.specs.TimingSolution.{IsInOrder, ServesInTurn}

module _ {C : Type 0} (stepped : C → Kind → ℕ → C × ℕ) where
  -- the component serves its events one after the other, in order of (start, number)
  pub record ServesItsEvents (component : C) (number : ℕ) (timed : List FiredEvent) : Type 0 where
    pub sorted : List FiredEvent
    pub in_order : IsInOrder sorted
    pub same : (x : FiredEvent) → Contains sorted x ↔ Contains (of_component number timed) x
    pub finishes : ServesInTurn stepped component sorted

  -- A start and a finish for each event: each start is that of the start rule, and each component serves its events.
  pub record IsSolutionByComponents (events : List Event) (comps : List C) (timed : List FiredEvent) : Type 0 where
    pub events_are : map (λ x. x.event) timed ≡ events
    pub starts : (x : FiredEvent) → Contains timed x → x.start ≡ start_of (finish_in timed) x.event
    pub serves : (number : ℕ) (c : C) → slice_get comps number ≡ Some c → ServesItsEvents c number timed
