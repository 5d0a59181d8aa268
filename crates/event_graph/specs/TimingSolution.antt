-- The solutions of the timing rules, which say nothing of an order of execution.
use Rattle.std.specs.Prelude.{◌≡◌, ◌↔◌, ℕ, IsTrue, List, [], ◌∷◌, map, slice_get, Some}
use Rattle.std.specs.List.{AllPairs, Contains}
use Rattle.component.specs.declared.kind.Kind.{Kind}
use Rattle.event_graph.specs.declared.event.Event.{Event}
use Rattle.event_graph.specs.ServedEvents.{of_component}
use Rattle.event_graph.specs.OneListWeave.{FiredEvent, finish_in, is_event_before, start_of}

-- each comes before those after it, so none is there twice
abbrev pub IsInOrder : List FiredEvent → Type 0
IsInOrder xs = AllPairs (λ x y. IsTrue (is_event_before x.event x.start y.event y.start)) xs

module _ {C : Type 0} (stepped : C → Kind → ℕ → C × ℕ) where
  -- the finishes are those of a component that serves one event after the other
  abbrev pub ServesInTurn : C → List FiredEvent → Type 0
  ServesInTurn c [] = Unit {0}
  ServesInTurn c (x ∷ xs) =
      (x.finish ≡ (stepped c x.event.kind x.start).1) × ServesInTurn (stepped c x.event.kind x.start).0 xs

  -- A start and a finish for each event, by the rules alone: each start is that of the start rule, and each component
  -- serves its events in order of (start, number).
  pub record IsSolution (events : List Event) (comps : List C) (timed : List FiredEvent) : Type 0 where
    pub events_are : map (λ x. x.event) timed ≡ events
    pub starts : (x : FiredEvent) → Contains timed x → x.start ≡ start_of (finish_in timed) x.event
    -- the same, in order of (start, number)
    pub sorted : List FiredEvent
    pub in_order : IsInOrder sorted
    pub same : (x : FiredEvent) → Contains sorted x ↔ Contains timed x
    pub finishes : (number : ℕ) (c : C) → slice_get comps number ≡ Some c → ServesInTurn c (of_component number sorted)
