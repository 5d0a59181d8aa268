-- A domain whose words and floor are sound for a solution of the timing rules.
use Rattle.std.specs.Prelude.{◌≡◌, ℕ, Bool, true, List, length, Some, slice_get}
use Rattle.component.specs.declared.kind.Kind.{Kind}
use Rattle.event_graph.specs.declared.event.Event.{Event}
use Rattle.event_graph.specs.OneListWeave.{FiredEvent}
use Rattle.event_graph.specs.ServedEvents.{after_serving, of_component}
use Rattle.event_graph.specs.TimingSolution.{IsSolution}
use Rattle.domain_map.specs.Domains.{Partition}
use Rattle.weave_core.specs.DomainMachine.{DomainState, is_clear, next_in}
use Rattle.weave_core.specs.Interleavings.{IsPartitioned, IsFront, of_domain}
use Rattle.weave_core.specs.Soundness.{AreSoundBounds, AreSoundWords, IsSoundFloor}

module _ {C : Type 0} (stepped : C → Kind → ℕ → C × ℕ) (events : List Event) (p : Partition) (comps : List C) (timed : List FiredEvent) (solution : IsSolution stepped events comps timed) where
  -- it fired the first of its events in that solution, and what it was told is sound
  pub record IsSoundDomain (domain : ℕ) (own : DomainState) : Type 0 where
    pub fired : IsFront own.fired (of_domain p.places domain solution.sorted)
    pub known : AreSoundWords timed p own.known
    pub bounds : AreSoundBounds events timed p domain own

  -- the firing is the domain's next in that solution: that event, at that start, with the finish that its component
  -- computes after the domain's other events on it
  pub record IsNextFiring (domain : ℕ) (own : DomainState) (next : Event × ℕ) (x : FiredEvent) : Type 0 where
    pub firing : slice_get (of_domain p.places domain solution.sorted) (length own.fired) ≡ Some x
    pub event : x.event ≡ next.0
    pub start : x.start ≡ next.1
    pub component : C
    pub there : slice_get comps x.event.component ≡ Some component
    pub finish : x.finish ≡ (stepped (after_serving stepped component (of_component x.event.component own.fired)) x.event.kind x.start).1

-- what such a domain takes for its next event, where the unresolved crossings allow it, is its next in the solution
abbrev pub SoundDomainsFollow : {C : Type 0} (serves : C → Kind → Bool) (floor : C → Kind → ℕ) (stepped : C → Kind → ℕ → C × ℕ) → Type 0
SoundDomainsFollow {C} serves floor stepped =
    (events : List Event) (p : Partition) (comps : List C) (timed : List FiredEvent) (solution : IsSolution stepped events comps timed)
    (domain : ℕ) (own : DomainState) (next : Event × ℕ) → IsPartitioned serves floor events p comps
    → IsSoundDomain stepped events p comps timed solution domain own
    → next_in events p domain own ≡ Some next → is_clear events p domain own next.1 ≡ true
    → (x : FiredEvent) × IsNextFiring stepped events p comps timed solution domain own next x

-- sound words and a sound floor make sound bounds
abbrev pub SoundFloorsBound : {C : Type 0} (serves : C → Kind → Bool) (floor : C → Kind → ℕ) (stepped : C → Kind → ℕ → C × ℕ) → Type 0
SoundFloorsBound {C} serves floor stepped =
    (events : List Event) (p : Partition) (comps : List C) (timed : List FiredEvent) (solution : IsSolution stepped events comps timed)
    (domain : ℕ) (own : DomainState) → IsPartitioned serves floor events p comps
    → AreSoundWords timed p own.known → IsSoundFloor timed p domain own → AreSoundBounds events timed p domain own
