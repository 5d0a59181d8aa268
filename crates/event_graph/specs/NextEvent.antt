-- An event, as it follows from the events before it and from what is kept of them.
use Rattle.std.specs.Prelude.{◌≡◌, ◌+◌, ◌<◌, ℕ, Bool, ◌==◌, if◌then◌else◌, List, length, Option, None}
use Rattle.std.specs.List.{slice_index_or, slice_get}
use Rattle.std.specs.Option.{option_map, option_and_then}
use Rattle.zs_num.specs.declared.entry.Entry.{Entry}
use Rattle.event_graph.specs.declared.builder.Critical.{Critical}
use Rattle.event_graph.specs.declared.event.Event.{Event}
use Rattle.event_graph.specs.declared.event.Parent.{Parent}
use Rattle.event_graph.specs.declared.piece.Piece.{Piece}
use Rattle.event_graph.specs.Critical.{last_critical}
use Rattle.event_graph.specs.EventGraph.{parent_of, zero_load_start, zero_load_finish}

-- what is kept of a core's last critical event
abbrev pub critical_of : Event → Critical
critical_of e = record { number = e.number; finish = e.min_finish }

-- the list has, by core, what is kept of the core's last critical event
pub record HasLast (last : List (Option Critical)) (events : List Event) : Type 0 where
  pub at : (core : ℕ) → core < length last → slice_index_or last core None ≡ option_map critical_of (last_critical core events)

-- the event of the access at a place, as a parent
abbrev pub parent_among : List Event → (base start : ℕ) → (place : Option ℕ) → Option Parent
parent_among events base start place =
    option_and_then (λ i. option_map (λ q. parent_of q.number q.min_finish start) (slice_get events (base + i))) place

abbrev pub next_event : List Event → Option Critical → Entry → (base place : ℕ) → (critical : Bool) → Piece → Event
next_event events last e base place critical p = record {
  number = base + place;
  core = e.core;
  component = p.component;
  kind = p.kind;
  min_start = zero_load_start e p;
  min_finish = zero_load_finish e p;
  critical = critical;
  first = (if place == 0
      then option_map (λ c. parent_of c.number c.finish (zero_load_start e p)) last
      else parent_among events base (zero_load_start e p) p.first);
  second = parent_among events base (zero_load_start e p) p.second;
}
