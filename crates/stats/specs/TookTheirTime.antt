-- Events that took no less time than at zero load, so that how much longer they took can be counted.
use Rattle.std.specs.Prelude.{◌≡◌, ◌+◌, ◌-◌, ◌≤◌, ℕ, List, length, slice_get, Some}
use Rattle.event_graph.specs.declared.event.Event.{Event}
use Rattle.event_graph.specs.declared.fired.Fired.{Fired}

-- an event took no less in the weave than at zero load
abbrev pub TookItsTime : Event → Fired → Type 0
TookItsTime e f = f.start + (e.min_finish - e.min_start) ≤ f.finish

-- what a count of waits asks of an interval's events: each was fired, and took its time
pub record TookTheirTime (events : List Event) (fired : List Fired) : Type 0 where
  pub count : length fired ≡ length events
  pub each : (i : ℕ) (e : Event) (f : Fired) → slice_get events i ≡ Some e → slice_get fired i ≡ Some f → TookItsTime e f
