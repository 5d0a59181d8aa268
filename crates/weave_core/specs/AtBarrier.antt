-- What a barrier gives to domains that keep to a solution of the timing rules, by whatever steps they came there.
use Rattle.std.specs.Prelude.{◌≡◌, ◌<◌, ℕ, Bool, true, false, List, length, Option, Some, slice_get}
use Rattle.std.specs.List.{enumerate_from, slice_index_or}
use Rattle.component.specs.declared.kind.Kind.{Kind}
use Rattle.event_graph.specs.declared.event.Event.{Event}
use Rattle.event_graph.specs.OneListWeave.{FiredEvent, is_fired, weave}
use Rattle.event_graph.specs.TimingSolution.{IsSolution}
use Rattle.domain_map.specs.declared.crossing.Crossing.{Crossing}
use Rattle.domain_map.specs.Domains.{Partition, domain_of_event}
use Rattle.weave_core.specs.DomainMachine.{DomainState, fresh_domain, is_clear, is_exact, least, next_in, ready_starts, with_floor, word_at}
use Rattle.weave_core.specs.Interleavings.{IsPartitioned, IsFront, of_domain}
use Rattle.weave_core.specs.Soundness.{AreSoundWords, IsSoundFloor}

-- what the domain of a number keeps
abbrev pub own_at : List DomainState → (domain : ℕ) → DomainState
own_at owns domain = slice_index_or owns domain fresh_domain

module _ {C : Type 0} (stepped : C → Kind → ℕ → C × ℕ) (events : List Event) (p : Partition) (comps : List C) (timed : List FiredEvent) (solution : IsSolution stepped events comps timed) where
  -- each domain fired the first of its events in that solution, and what it was told is sound
  pub record AreSoundDomains (owns : List DomainState) : Type 0 where
    pub count : length owns ≡ length p.events
    pub fired : (domain : ℕ) → IsFront (own_at owns domain).fired (of_domain p.places domain solution.sorted)
    pub known : (domain : ℕ) → AreSoundWords timed p (own_at owns domain).known
    pub floors : (domain : ℕ) → IsSoundFloor timed p domain (own_at owns domain)

-- each domain knows the finish of every parent that another one fired
pub record KnowFiredParents (p : Partition) (owns : List DomainState) : Type 0 where
  pub each : (number : ℕ) (x : Crossing) → slice_get p.crossings number ≡ Some x → is_fired (own_at owns x.source).fired x.parent ≡ true
      → is_exact (word_at (own_at owns x.target).known number) ≡ true

-- the least start of a ready event of any domain
abbrev pub least_start_of : List Event → Partition → List DomainState → Option ℕ
least_start_of events p owns = least (ready_starts events p (enumerate_from 0 owns))

abbrev pub BarrierFloorsHold : {C : Type 0} (serves : C → Kind → Bool) (floor : C → Kind → ℕ) (stepped : C → Kind → ℕ → C × ℕ) → Type 0
BarrierFloorsHold {C} serves floor stepped =
    (events : List Event) (p : Partition) (comps : List C) (timed : List FiredEvent) (solution : IsSolution stepped events comps timed) (owns : List DomainState) (start : ℕ)
    → IsPartitioned serves floor events p comps → AreSoundDomains stepped events p comps timed solution owns → KnowFiredParents p owns
    → least_start_of events p owns ≡ Some start → (domain : ℕ) → IsSoundFloor timed p domain (with_floor start (own_at owns domain))

-- x stands there in the order of the one-list weave, and is the first that its domain hasn't fired
pub record IsFirstLeft {C : Type 0} (stepped : C → Kind → ℕ → C × ℕ) (events : List Event) (p : Partition) (comps : List C) (owns : List DomainState) (index : ℕ) (x : FiredEvent) : Type 0 where
  pub there : slice_get (weave stepped events comps).fired index ≡ Some x
  pub unfired : is_fired (own_at owns (domain_of_event p.places x.event)).fired x.event.number ≡ false
  pub before : (earlier : ℕ) (y : FiredEvent) → earlier < index → slice_get (weave stepped events comps).fired earlier ≡ Some y
      → is_fired (own_at owns (domain_of_event p.places y.event)).fired y.event.number ≡ true

-- some domain has an event ready, and at the floor which that gives x may fire
pub record MayGoOn (events : List Event) (p : Partition) (owns : List DomainState) (x : FiredEvent) : Type 0 where
  pub start : ℕ
  pub least_is : least_start_of events p owns ≡ Some start
  pub next : next_in events p (domain_of_event p.places x.event) (with_floor start (own_at owns (domain_of_event p.places x.event))) ≡ Some (x.event, x.start)
  pub clear : is_clear events p (domain_of_event p.places x.event) (with_floor start (own_at owns (domain_of_event p.places x.event))) x.start ≡ true

abbrev pub BarriersAdvance : {C : Type 0} (serves : C → Kind → Bool) (floor : C → Kind → ℕ) (stepped : C → Kind → ℕ → C × ℕ) → Type 0
BarriersAdvance {C} serves floor stepped =
    (events : List Event) (p : Partition) (comps : List C) (timed : List FiredEvent) (solution : IsSolution stepped events comps timed) (owns : List DomainState) (index : ℕ) (x : FiredEvent)
    → IsPartitioned serves floor events p comps → AreSoundDomains stepped events p comps timed solution owns → KnowFiredParents p owns
    → IsFirstLeft stepped events p comps owns index x → MayGoOn events p owns x
