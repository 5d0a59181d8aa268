-- That no event is earlier or shorter in the weave than at zero load.
use Rattle.std.specs.Prelude.{◌≡◌, ◌+◌, ◌-◌, ◌≤◌, ◌^◌, ℕ, List, length, slice_get, Some}
use Rattle.event_graph.specs.declared.event.Event.{Event}
use Rattle.event_graph.specs.declared.fired.Fired.{Fired}

-- the event was fired: not before its zero-load start, for no less than its zero-load time, and within 2^62 cycles
pub record IsTimely (e : Event) (f : Fired) : Type 0 where
  pub number : f.number ≡ e.number
  pub start : e.min_start ≤ f.start
  pub time : f.start + (e.min_finish - e.min_start) ≤ f.finish
  pub small : f.finish ≤ 2 ^ 62

-- each event was fired once, in order of number, and timely
pub record AreTimely (events : List Event) (fired : List Fired) : Type 0 where
  pub count : length fired ≡ length events
  pub each : (i : ℕ) (e : Event) (f : Fired) → slice_get events i ≡ Some e → slice_get fired i ≡ Some f → IsTimely e f
