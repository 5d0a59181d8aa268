-- The intervals of a run, and how long their events waited.
use Rattle.std.specs.Prelude.{ℕ, List, sum_by}
use Rattle.event_graph.specs.declared.event.Event.{Event}
use Rattle.event_graph.specs.declared.fired.Fired.{Fired}
use Rattle.stats.specs.Counted.{wait_of}
pub use Rattle.trace.specs.Told.{ended_in}

-- how long events waited, all together
abbrev pub all_waits : List (Event × Fired) → ℕ
all_waits events = sum_by (λ x. wait_of x.0 x.1) events
