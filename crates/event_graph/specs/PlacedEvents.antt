-- Where the events of an access stand among those of all accesses.
use Rattle.std.specs.Prelude.{◌≡◌, ◌+◌, ℕ, List, Option, length, slice_get, take, Some}
use Rattle.zs_num.specs.declared.entry.Entry.{Entry}
use Rattle.event_graph.specs.declared.event.Event.{Event}
use Rattle.event_graph.specs.declared.event.Parent.{Parent}
use Rattle.event_graph.specs.declared.piece.Piece.{Piece}
use Rattle.event_graph.specs.EventGraph.{all_events, event_at}

module _ (pieces : Entry → List Piece) (entries : List Entry) where
  -- the events of the accesses before this one, and so the number of its first event
  abbrev pub events_before : (access : ℕ) → List Event
  events_before access = all_events pieces (take access entries)

  abbrev pub first_number : (access : ℕ) → ℕ
  first_number access = length (events_before access)

  -- the event of this number is one of this access
  pub record IsEventOf (number : ℕ) (event : Event) : Type 0 where
    pub access : ℕ
    pub entry : Entry
    pub there : slice_get entries access ≡ Some entry
    pub place : ℕ
    pub piece : Piece
    pub made : slice_get (pieces entry) place ≡ Some piece
    pub number_is : number ≡ first_number access + place
    pub is : event ≡ event_at (events_before access) entry (pieces entry) place piece

  -- a parent is an event of the same core
  abbrev pub IsOfSameCore : Event → Option Parent → Type 0
  IsOfSameCore event parent = (p : Parent) → parent ≡ Some p → (d : Event) × ((slice_get (all_events pieces entries) p.number ≡ Some d) × (d.core ≡ event.core))
