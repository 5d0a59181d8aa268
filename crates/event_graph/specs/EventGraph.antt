-- The events of an interval. They are numbered from 0 in the recorded order of the accesses, and
-- then in the order of the places in an access.
use Rattle.std.specs.Prelude.{◌+◌, ◌-◌, ℕ, ◌==◌, if◌then◌else◌, List, [], ◌++◌, length, map, fold, Option, slice_get}
use Rattle.std.specs.List.{enumerate_from}
use Rattle.std.specs.Option.{option_map, option_and_then}
use Rattle.zs_num.specs.declared.entry.Entry.{Entry}
use Rattle.event_graph.specs.declared.event.Event.{Event}
use Rattle.event_graph.specs.declared.event.Parent.{Parent}
use Rattle.event_graph.specs.declared.piece.Piece.{Piece}
use Rattle.event_graph.specs.Critical.{last_critical}

-- the start and the finish of an event at zero load
abbrev pub zero_load_start : Entry → Piece → ℕ
zero_load_start e p = e.start + p.offset

abbrev pub zero_load_finish : Entry → Piece → ℕ
zero_load_finish e p = e.start + p.offset + p.time

-- a parent of an event that starts then at zero load. The delay is what the event starts later than
-- its parent finishes, at zero load, and 0 where it starts earlier
abbrev pub parent_of : (number finish start : ℕ) → Parent
parent_of number finish start = record { number = number; delay = start - finish }

-- the core's last critical event among those before the access
abbrev pub earlier_parent : List Event → (core start : ℕ) → Option Parent
earlier_parent before core start =
    option_map (λ e. parent_of e.number e.min_finish start) (last_critical core before)

-- the event at a place of the same access, whose event 0 has the number `base`
abbrev pub inner_parent : (base : ℕ) → Entry → List Piece → (start : ℕ) → (place : Option ℕ) → Option Parent
inner_parent base e pieces start place =
    option_and_then (λ i. option_map (λ q. parent_of (base + i) (zero_load_finish e q) start) (slice_get pieces i)) place

-- the event at a place of an access. The last event is critical. Event 0 waits for the core's last
-- critical event, and the others for the events that their pieces name
abbrev pub event_at : List Event → Entry → List Piece → (place : ℕ) → Piece → Event
event_at before e pieces place p = record {
  number = length before + place;
  core = e.core;
  component = p.component;
  kind = p.kind;
  min_start = zero_load_start e p;
  min_finish = zero_load_finish e p;
  critical = place + 1 == length pieces;
  first = (if place == 0
      then earlier_parent before e.core (zero_load_start e p)
      else inner_parent (length before) e pieces (zero_load_start e p) p.first);
  second = inner_parent (length before) e pieces (zero_load_start e p) p.second;
}

-- the events of an access, after those of the accesses before it
abbrev pub access_events : List Event → Entry → List Piece → List Event
access_events before e pieces = map (λ at. event_at before e pieces at.0 at.1) (enumerate_from 0 pieces)

-- the events of all accesses
abbrev pub all_events : (pieces : Entry → List Piece) → List Entry → List Event
all_events pieces entries = fold (λ before e. before ++ access_events before e (pieces e)) [] entries
