-- The critical events of a core. The last event of an access is critical: the core waits for it.
use Rattle.std.specs.Prelude.{ℕ, Bool, ◌&&◌, ◌==◌, List, Option, None, filter}
use Rattle.std.specs.List.{last_or}
use Rattle.event_graph.specs.declared.event.Event.{Event}

-- a critical event of this core
abbrev pub is_critical_of : (core : ℕ) → Event → Bool
is_critical_of core e = e.critical && (e.core == core)

-- the last of a core's critical events among these
abbrev pub last_critical : (core : ℕ) → List Event → Option Event
last_critical core events = last_or None (filter (is_critical_of core) events)
