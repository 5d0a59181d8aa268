-- What a domain may say of an event that it has yet to fire is true, whatever the other domains do.
use Rattle.std.specs.Prelude.{◌≡◌, ◌≤◌, ℕ, Bool, true, false, List, Some, slice_get}
use Rattle.component.specs.declared.kind.Kind.{Kind}
use Rattle.event_graph.specs.declared.event.Event.{Event}
use Rattle.event_graph.specs.OneListWeave.{FiredEvent, finish_in, is_fired}
use Rattle.event_graph.specs.TimingSolution.{IsSolution}
use Rattle.domain_map.specs.declared.crossing.Crossing.{Crossing}
use Rattle.domain_map.specs.Domains.{Partition}
use Rattle.weave_core.specs.DomainMachine.{DomainState, allows_bound}
use Rattle.weave_core.specs.Interleavings.{IsPartitioned}
use Rattle.weave_core.specs.SoundDomain.{IsSoundDomain}

-- The crossing leads out of the domain, which has yet to fire its parent, and allows a raise to the bound.
pub record MayRaise (events : List Event) (p : Partition) (domain : ℕ) (own : DomainState) (x : Crossing) (bound : ℕ) : Type 0 where
  pub number : ℕ
  pub there : slice_get p.crossings number ≡ Some x
  pub source : x.source ≡ domain
  pub unfired : is_fired own.fired x.parent ≡ false
  pub allowed : allows_bound events p domain own x bound ≡ true

-- where the domain fired the first of its events in a solution, and what it was told is sound for it, the parent finishes
-- there at the bound or later
abbrev pub RaisedBoundsHold : {C : Type 0} (serves : C → Kind → Bool) (floor : C → Kind → ℕ) (stepped : C → Kind → ℕ → C × ℕ) → Type 0
RaisedBoundsHold {C} serves floor stepped =
    (events : List Event) (p : Partition) (comps : List C) (timed : List FiredEvent) (solution : IsSolution stepped events comps timed)
    (domain : ℕ) (own : DomainState) (x : Crossing) (bound : ℕ) → IsPartitioned serves floor events p comps
    → IsSoundDomain stepped events p comps timed solution domain own
    → MayRaise events p domain own x bound → bound ≤ finish_in timed x.parent
