-- What one pass over the accesses, the delays or the events of an interval leaves of a count.
use Rattle.std.specs.Prelude.{ℕ, ◌==◌, List, filter, fold}
use Rattle.zs_num.specs.declared.entry.Entry.{Entry}
use Rattle.event_graph.specs.declared.event.Event.{Event}
use Rattle.event_graph.specs.declared.fired.Fired.{Fired}
use Rattle.stats.specs.declared.counts.CoreCount.{CoreCount}
use Rattle.stats.specs.declared.counts.CompCount.{CompCount}
use Rattle.stats.specs.Counted.{entry_count, delay_count, core_plus, event_count, comp_plus}

-- a core's count after an access of the core, and after all its accesses among these
abbrev pub with_access : CoreCount → Entry → CoreCount
with_access c e = core_plus c (entry_count e)

unfoldable pub with_accesses : CoreCount → (core : ℕ) → List Entry → CoreCount
with_accesses c core entries = fold with_access c (filter (λ e. e.core == core) entries)

-- after a delay
abbrev pub with_delay : CoreCount → (delay : ℕ) → CoreCount
with_delay c delay = core_plus c (delay_count delay)

-- after a delay and all accesses of an interval, which count so much
abbrev pub with_counted : CoreCount → (delay : ℕ) → CoreCount → CoreCount
with_counted c delay accesses = core_plus (with_delay c delay) accesses

-- a component's count after an event of the component, and after all its events among these
abbrev pub with_event : CompCount → Event × Fired → CompCount
with_event c x = comp_plus c (event_count x)

unfoldable pub with_events : CompCount → (comp : ℕ) → List (Event × Fired) → CompCount
with_events c comp events = fold with_event c (filter (λ x. x.0.component == comp) events)

-- with the cycle from which on the component is free
abbrev pub with_free : CompCount → (free : ℕ) → CompCount
with_free c free = record c { free = free }
