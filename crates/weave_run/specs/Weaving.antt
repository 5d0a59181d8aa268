-- What a weave on workers gives: what the one-list weave gives, in no more rounds than there are events.
use Rattle.std.specs.Prelude.{◌≡◌, ◌≤◌, ℕ, List, length, map}
use Rattle.component.specs.declared.kind.Kind.{Kind}
use Rattle.event_graph.specs.declared.event.Event.{Event}
use Rattle.event_graph.specs.declared.fired.Fired.{Fired}
use Rattle.event_graph.specs.OneListWeave.{comps_after, fired_of, woven}

pub record IsWoven {C : Type 0} (stepped : C → Kind → ℕ → C × ℕ) (events : List Event) (comps : List C) (fired : List Fired) (after : List C) (rounds : ℕ) : Type 0 where
  pub fired_is : fired ≡ map fired_of (woven stepped events comps)
  pub comps_are : after ≡ comps_after stepped events comps
  pub rounds_are : rounds ≤ length events
