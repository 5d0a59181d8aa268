-- The events of each core in order of their numbers, of which the first unfired one fires next.
use Rattle.std.specs.Prelude.{◌≡◌, ◌<◌, ◌≤◌, ◌==◌, ℕ, true, false, List, length, count_by, slice_get, slice_index, slice_index_or, Option, Some, None}
use Rattle.std.specs.List.{Contains}
use Rattle.zs_num.specs.declared.time.Key.{Key}
use Rattle.component.specs.declared.kind.Kind.{Kind}
use Rattle.event_graph.specs.declared.event.Event.{Event}
use Rattle.event_graph.specs.declared.event.Parent.{Parent}
use Rattle.event_graph.specs.OneListWeave.{FiredEvent, after_firings, finish_in, is_fired, start_of}

module _ (events : List Event) where
  -- the event of this number is one of this core
  pub record IsOfCore (number core : ℕ) : Type 0 where
    pub event : Event
    pub there : slice_get events number ≡ Some event
    pub of : event.core ≡ core

  -- a parent is an event of the same core
  abbrev pub HaveParentsOfTheirCore : Type 0
  HaveParentsOfTheirCore = (number : ℕ) (e : Event) (p : Parent) → slice_get events number ≡ Some e
      → (e.first ≡ Some p → IsOfCore p.number e.core) × (e.second ≡ Some p → IsOfCore p.number e.core)

  -- Where `next` is not 0, it is the number of the next event of the core. With 0 the core has no more.
  pub record IsFollowedBy (number core next : ℕ) : Type 0 where
    pub behind : 0 < next → number < next
    pub of_core : 0 < next → IsOfCore next core
    pub nearest : (k : ℕ) → IsOfCore k core → number < k → (0 < next) × (next ≤ k)

  -- each event from this number on is followed so
  abbrev pub AreFollowedFrom : ℕ → List ℕ → Type 0
  AreFollowedFrom from following = (number : ℕ) (e : Event) → slice_get events number ≡ Some e → from ≤ number → IsFollowedBy number e.core (slice_index following number)

  -- the first event of a core from this number on
  abbrev pub IsFirstFrom : (from core : ℕ) → Option ℕ → Type 0
  IsFirstFrom from core None = (k : ℕ) → IsOfCore k core → k < from
  IsFirstFrom from core (Some number) = (from ≤ number) × (IsOfCore number core × ((k : ℕ) → IsOfCore k core → from ≤ k → number ≤ k))

  abbrev pub AreFirstFrom : ℕ → List (Option ℕ) → Type 0
  AreFirstFrom from firsts = (core : ℕ) → core < length firsts → IsFirstFrom from core (slice_index_or firsts core None)

  -- each event of the core below this number has fired
  abbrev pub HaveFiredBelow : List FiredEvent → (number core : ℕ) → Type 0
  HaveFiredBelow fired number core = (k : ℕ) → IsOfCore k core → k < number → is_fired fired k ≡ true

  -- the key of the first unfired event of a core
  pub record IsFirstKey (fired : List FiredEvent) (key : Key) : Type 0 where
    pub event : Event
    pub there : slice_get events key.number ≡ Some event
    pub start : key.start ≡ start_of (finish_in fired) event
    pub unfired : is_fired fired key.number ≡ false
    pub below : HaveFiredBelow fired key.number event.core

  -- the keys of the first unfired events of all cores
  pub record AreFirstKeys (fired : List FiredEvent) (keys : List Key) : Type 0 where
    pub each : (key : Key) → Contains keys key → IsFirstKey fired key
    pub all : (number : ℕ) (e : Event) → slice_get events number ≡ Some e → is_fired fired number ≡ false → HaveFiredBelow fired number e.core
        → Contains keys (record { start = start_of (finish_in fired) e; number = number })
    pub once : (number : ℕ) → count_by (λ key. key.number == number) keys ≤ 1

-- the events of a core fire in order of their numbers
abbrev pub FireInOrderByCore : {C : Type 0} → (C → Kind → ℕ → C × ℕ) → List Event → List C → Type 0
FireInOrderByCore stepped events comps = (firings : ℕ) (d e : Event) → Contains events d → Contains events e → d.core ≡ e.core → d.number < e.number
    → is_fired (after_firings stepped events comps firings).fired e.number ≡ true → is_fired (after_firings stepped events comps firings).fired d.number ≡ true
