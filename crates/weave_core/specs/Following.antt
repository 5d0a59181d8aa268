-- What keeps a domain to the solutions of the timing rules for which what it was told is sound.
use Rattle.std.specs.Prelude.{◌≡◌, ◌≤◌, ◌++◌, ◌∷◌, [], ℕ, Bool, true, List, slice_set}
use Rattle.zs_num.specs.declared.time.Word.{Word}
use Rattle.component.specs.declared.kind.Kind.{Kind}
use Rattle.event_graph.specs.declared.event.Event.{Event}
use Rattle.event_graph.specs.declared.fired.Fired.{Fired}
use Rattle.event_graph.specs.OneListWeave.{FiredEvent}
use Rattle.event_graph.specs.TimingSolution.{IsSolution}
use Rattle.domain_map.specs.Domains.{Partition}
use Rattle.weave_core.specs.DomainCalls.{DomainValue, Follows, IsFire, MayTell, at_first, comps_in, with_known}
use Rattle.weave_core.specs.DomainMachine.{is_clear, with_floor}
use Rattle.weave_core.specs.Interleavings.{IsPartitioned}
use Rattle.weave_core.specs.Layout.{place_in}

-- the domain after this event fired
abbrev pub fired_value : {C : Type 0} (stepped : C → Kind → ℕ → C × ℕ) → DomainValue C → Event → (start : ℕ) → C → DomainValue C
fired_value stepped old event start component = record old {
  own = record old.own {
    fired = old.own.fired ++ (record { event = event; start = start; finish = (stepped component event.kind start).1 }) ∷ [];
  };
  comps = slice_set old.comps (place_in old.partition.places old.domain event.component) (stepped component event.kind start).0;
}

-- a domain that has fired nothing and knows nothing
pub record FirstFollows {C : Type 0} (stepped : C → Kind → ℕ → C × ℕ) : Type 0 where
  pub each : (events : List Event) (p : Partition) (domain : ℕ) (all : List C) (timed : List FiredEvent) (solution : IsSolution stepped events all timed)
      → Follows stepped all timed (record { domain = domain; events = events; partition = p; own = at_first p; comps = comps_in p.places domain all }) solution

-- a word that a domain may be told: what is sound after it was sound before
pub record LooksFollow {C : Type 0} (stepped : C → Kind → ℕ → C × ℕ) : Type 0 where
  pub each : (all : List C) (timed : List FiredEvent) (v : DomainValue C) (solution : IsSolution stepped v.events all timed) (number : ℕ) (word : Word)
      → MayTell v.events v.partition v.domain v.own number word → Follows stepped all timed v solution
      → Follows stepped all timed (record v { own = with_known v.own number word }) solution

-- a floor that doesn't fall
pub record FloorsFollow {C : Type 0} (stepped : C → Kind → ℕ → C × ℕ) : Type 0 where
  pub each : (all : List C) (timed : List FiredEvent) (v : DomainValue C) (solution : IsSolution stepped v.events all timed) (floor : ℕ)
      → v.own.floor ≤ floor → Follows stepped all timed v solution → Follows stepped all timed (record v { own = with_floor floor v.own }) solution

-- a fire that the unresolved crossings allow
pub record FiresFollow {C : Type 0} (serves : C → Kind → Bool) (floor : C → Kind → ℕ) (stepped : C → Kind → ℕ → C × ℕ) : Type 0 where
  pub each : (all : List C) (timed : List FiredEvent) (old new : DomainValue C) (solution : IsSolution stepped old.events all timed) (result : Fired) (f : IsFire stepped old new result)
      → IsPartitioned serves floor old.events old.partition all → is_clear old.events old.partition old.domain old.own f.start ≡ true → Follows stepped all timed old solution
      → Follows stepped all timed (fired_value stepped old f.event f.start f.component) solution
