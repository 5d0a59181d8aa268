-- The feedback of an interval: how much later each core came out of the weave.
use Rattle.std.specs.Prelude.{◌-◌, ℕ, List, map, slice_get}
use Rattle.std.specs.List.{range_with_len}
use Rattle.std.specs.Option.{option_map_or}
use Rattle.event_graph.specs.declared.event.Event.{Event}
use Rattle.event_graph.specs.declared.fired.Fired.{Fired}
use Rattle.event_graph.specs.Critical.{last_critical}

-- the finish that the weave found for the event of this number
abbrev pub fired_finish : List Fired → (number : ℕ) → ℕ
fired_finish fired number = option_map_or (λ f. f.finish) (slice_get fired number) 0

-- a core's delay: the finish of its last critical event minus that event's zero-load finish, and 0
-- where it has none
abbrev pub delay_of : List Event → List Fired → (core : ℕ) → ℕ
delay_of events fired core =
    option_map_or (λ e. fired_finish fired e.number - e.min_finish) (last_critical core events) 0

abbrev pub feedback_delays : List Event → List Fired → (cores : ℕ) → List ℕ
feedback_delays events fired cores = map (delay_of events fired) (range_with_len 0 cores)
