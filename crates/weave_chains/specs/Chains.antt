-- How far the chains of all cores have come, where some events have fired.
use Rattle.std.specs.Prelude.{◌≡◌, ◌+◌, ◌-◌, ◌<◌, ◌≤◌, ◌==◌, ℕ, true, false, if◌then◌else◌, nat_lt, max, List, length, Option, None, Some, slice_get, slice_set}
use Rattle.std.specs.List.{Contains}
use Rattle.std.specs.Option.{option_and_then, option_map, option_map_or}
use Rattle.zs_num.specs.declared.entry.Entry.{Entry}
use Rattle.zs_num.specs.declared.time.Key.{Key}
use Rattle.event_graph.specs.declared.event.Event.{Event}
use Rattle.event_graph.specs.declared.piece.Piece.{Piece}
use Rattle.event_graph.specs.Critical.{last_critical}
use Rattle.event_graph.specs.EventGraph.{all_events}
use Rattle.event_graph.specs.OneListWeave.{FiredEvent, finish_in, is_fired, start_of}
use Rattle.event_graph.specs.PlacedEvents.{events_before, first_number}
use Rattle.weave_chains.specs.declared.chain.Ended.{Ended}
use Rattle.weave_chains.specs.States.{ChainState}

abbrev pub Nothing : Type 0
Nothing = Unit {0}

-- the accesses of a core stand together, and the cores in ascending order
abbrev pub AreGrouped : List Entry → Type 0
AreGrouped entries = (i j : ℕ) (d e : Entry) → i < j → slice_get entries i ≡ Some d → slice_get entries j ≡ Some e → d.core ≤ e.core

abbrev pub ended_of : (finish : ℕ → ℕ) → Event → Ended
ended_of finish e = record { finish = finish e.number; at_zero_load = e.min_finish }

module _ (pieces : Entry → List Piece) (entries : List Entry) where
  -- the number of the event with which the chain goes on
  abbrev pub next_number : ChainState → ℕ
  next_number c = first_number pieces entries c.access + c.place

  -- the chain of a core, where these have fired
  pub record IsChain (fired : List FiredEvent) (core : ℕ) (c : ChainState) : Type 0 where
    -- its accesses are those up to its end
    pub from : c.access ≤ c.end
    pub within : c.end ≤ length entries
    pub own : (i : ℕ) (e : Entry) → slice_get entries i ≡ Some e → c.access ≤ i → i < c.end → e.core ≡ core
    pub all : (i : ℕ) (e : Entry) → slice_get entries i ≡ Some e → e.core ≡ core → i < c.end
    pub place : (e : Entry) → c.access < c.end → slice_get entries c.access ≡ Some e → c.place < length (pieces e)
    pub over : c.access ≡ c.end → c.place ≡ 0
    pub sized : length c.ended ≡ 64
    -- those of its events that have fired are those before the next one
    pub behind : (n : ℕ) (e : Event) → slice_get (all_events pieces entries) n ≡ Some e → e.core ≡ core → n < next_number c → is_fired fired n ≡ true
    pub ahead : (n : ℕ) (e : Event) → slice_get (all_events pieces entries) n ≡ Some e → e.core ≡ core → next_number c ≤ n → is_fired fired n ≡ false
    -- when they did
    pub ended : (i : ℕ) (e : Event) → i < c.place → slice_get (all_events pieces entries) (first_number pieces entries c.access + i) ≡ Some e
        → slice_get c.ended i ≡ Some (ended_of (finish_in fired) e)
    pub last : c.last ≡ option_map (ended_of (finish_in fired)) (last_critical core (events_before pieces entries c.access))

  -- what the queue says of a chain that goes on: its core, and when its next event starts
  pub record IsReady (fired : List FiredEvent) (chains : List ChainState) (k : Key) : Type 0 where
    pub chain : ChainState
    pub there : slice_get chains k.number ≡ Some chain
    pub goes_on : chain.access < chain.end
    pub event : Event
    pub next : slice_get (all_events pieces entries) (next_number chain) ≡ Some event
    pub start : k.start ≡ start_of (finish_in fired) event

  -- the queue has a key for each chain that goes on
  pub record AreReady (fired : List FiredEvent) (chains : List ChainState) (keys : List Key) : Type 0 where
    pub each : (k : Key) → Contains keys k → IsReady fired chains k
    pub all : (core : ℕ) (c : ChainState) → slice_get chains core ≡ Some c → c.access < c.end → (k : Key) × (Contains keys k × (k.number ≡ core))

  -- these have fired, and nothing else
  pub record AreUnderWay (fired : List FiredEvent) (chains : List ChainState) (keys : List Key) : Type 0 where
    pub chain : (core : ℕ) (c : ChainState) → slice_get chains core ≡ Some c → IsChain fired core c
    pub ready : AreReady fired chains keys

-- ---- a round

-- the chain after its next event has fired, of an access with so many
abbrev pub moved_on : (count : ℕ) → Ended → ChainState → ChainState
moved_on count done c =
    if nat_lt (c.place + 1) count
    then record c { place = c.place + 1; ended = slice_set c.ended c.place done }
    else record c { access = c.access + 1; place = 0; last = Some done }

-- after an event that has ended so, no earlier than so long behind it as at zero load
abbrev pub after_ended : (start : ℕ) → Option Ended → ℕ
after_ended start None = 0
after_ended start (Some d) = d.finish + (start - d.at_zero_load)

-- which event of the chain is waited for first: for the first of an access the last one before it
abbrev pub waited_for : ChainState → (place : Option ℕ) → Option Ended
waited_for c place = option_and_then (λ i. slice_get c.ended i) place

-- a chain of which no more is known than what its next event waits for
abbrev pub behind : (place : ℕ) → List Ended → (last : Option Ended) → ChainState
behind place ended last = record { access = 0; end = 0; place = place; ended = ended; last = last }

abbrev pub start_by : ChainState → (start : ℕ) → Piece → ℕ
start_by c start p = max start (max (after_ended start (if c.place == 0 then c.last else waited_for c p.first)) (after_ended start (waited_for c p.second)))

-- ---- the end

-- how much later than at zero load the last event behind which the core waited has finished
abbrev pub delay_by : ChainState → ℕ
delay_by c = option_map_or (λ last. last.finish - last.at_zero_load) c.last 0
