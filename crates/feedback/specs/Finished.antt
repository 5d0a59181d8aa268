-- What a weave gives that delays are read off.
use Rattle.std.specs.Prelude.{◌≡◌, ◌≤◌, ℕ, List, length, Some, slice_get}
use Rattle.event_graph.specs.declared.event.Event.{Event}
use Rattle.event_graph.specs.declared.fired.Fired.{Fired}

-- each event was fired once, in order of number, and none finished before its zero-load finish
pub record HaveFinished (events : List Event) (fired : List Fired) : Type 0 where
  pub count : length fired ≡ length events
  pub number : (i : ℕ) (f : Fired) → slice_get fired i ≡ Some f → f.number ≡ i
  pub finish : (i : ℕ) (e : Event) (f : Fired) → slice_get events i ≡ Some e → slice_get fired i ≡ Some f → e.min_finish ≤ f.finish
