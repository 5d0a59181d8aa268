-- What is counted of each component while its events fire.
use Rattle.std.specs.Prelude.{◌≡◌, ◌+◌, ◌*◌, ◌==◌, ◌&&◌, ◌<◌, ◌≤◌, ◌^◌, ◌++◌, ◌∷◌, [], ℕ, Bool, false, not, List, length, map, Option, None, Some, slice_get}
use Rattle.std.specs.List.{Contains}
use Rattle.component.specs.declared.kind.Kind.{Kind}
use Rattle.zs_num.specs.declared.entry.Entry.{Entry}
use Rattle.zs_num.specs.declared.time.Key.{Key}
use Rattle.event_graph.specs.declared.piece.Piece.{Piece}
use Rattle.event_graph.specs.EventGraph.{all_events}
use Rattle.event_graph.specs.OneListWeave.{FiredEvent, after_firings, fired_of}
use Rattle.event_graph.specs.ServedEvents.{of_component}
use Rattle.stats.specs.declared.counts.CompCount.{CompCount}
use Rattle.stats.specs.Counted.{comp_sum, event_count, wait_of}
use Rattle.weave_chains.specs.States.{ChainState}
use Rattle.weave_chains.specs.declared.tally.Served.{Served}
use Rattle.weave_chains.specs.declared.tally.Tally.{Tally}
use Rattle.weave_chains.specs.Rounds.{HasCome}
use Rattle.weave_chains.specs.Ties.{HaveNoTie}

-- ---- a tally

-- with one event more
abbrev pub taken : Tally → Served → Tally
taken t s = record { count = record t.count { events = t.count.events + 1; waited = t.count.waited + s.waited }; last = Some s }

-- of another core, and in the same cycle as the last one
abbrev pub ties : Option Served → Served → Bool
ties None s = false
ties (Some last) s = last.start == s.start && not (last.core == s.core)

-- ---- the events that it is of

abbrev pub served_of : FiredEvent → Served
served_of x = record { core = x.event.core; component = x.event.component; start = x.start; waited = wait_of x.event (fired_of x) }

-- what they count for this component
abbrev pub counted : (component : ℕ) → List FiredEvent → CompCount
counted component fired = comp_sum (map (λ x. event_count (x.event, fired_of x)) (of_component component fired))

-- the last event of the component that fired: no other started later
pub record IsLastOf (fired : List FiredEvent) (component : ℕ) (last : Served) : Type 0 where
  pub event : FiredEvent
  pub there : Contains fired event
  pub here : event.event.component ≡ component
  pub is : last ≡ served_of event
  pub latest : (x : FiredEvent) → Contains fired x → x.event.component ≡ component → x.start ≤ event.start

pub record IsTallied (fired : List FiredEvent) (component : ℕ) (t : Tally) : Type 0 where
  pub count : t.count ≡ counted component fired
  pub none : t.last ≡ None → (x : FiredEvent) → Contains fired x → x.event.component ≡ component → ⊥
  pub last : (s : Served) → t.last ≡ Some s → IsLastOf fired component s

-- by the numbers of the components
abbrev pub AreTallied : List FiredEvent → List Tally → Type 0
AreTallied fired tallies = (component : ℕ) (t : Tally) → slice_get tallies component ≡ Some t → IsTallied fired component t

-- sums of so many events
abbrev pub AreSmall : (events : ℕ) → List Tally → Type 0
AreSmall events tallies = (component : ℕ) (t : Tally) → slice_get tallies component ≡ Some t → (t.count.events ≤ events) × (t.count.waited ≤ 2 ^ 64 * events)

-- ---- the rounds

-- after so many firings there was one more, of an event that is served so
pub record HasFiredNext {C : Type 0} (stepped : C → Kind → ℕ → C × ℕ) (pieces : Entry → List Piece) (entries : List Entry) (first : List C) (firings : ℕ) (chains : List ChainState) (keys : List Key) (comps : List C) (served : Served) : Type 0 where
  pub more : firings < length (all_events pieces entries)
  pub come : HasCome stepped pieces entries first (firings + 1) chains keys comps
  pub event : FiredEvent
  pub fired : (after_firings stepped (all_events pieces entries) first (firings + 1)).fired ≡ (after_firings stepped (all_events pieces entries) first firings).fired ++ event ∷ []
  pub served_is : served ≡ served_of event

-- so many events have fired and are counted, and no two of different cores have met
pub record HaveFired {C : Type 0} (stepped : C → Kind → ℕ → C × ℕ) (pieces : Entry → List Piece) (entries : List Entry) (first : List C) (firings : ℕ) (chains : List ChainState) (keys : List Key) (comps : List C) (tallies : List Tally) : Type 0 where
  pub come : HasCome stepped pieces entries first firings chains keys comps
  pub tallied : AreTallied (after_firings stepped (all_events pieces entries) first firings).fired tallies
  pub no_tie : HaveNoTie (after_firings stepped (all_events pieces entries) first firings).fired
