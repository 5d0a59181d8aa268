-- Events of different cores that meet at a component.
use Rattle.std.specs.Prelude.{◌≡◌, ◌≢◌, List}
use Rattle.std.specs.List.{Contains}
use Rattle.event_graph.specs.OneListWeave.{FiredEvent}

-- two events of one component, of different cores, that start in the same cycle
pub record HaveTie (timed : List FiredEvent) : Type 0 where
  pub one : FiredEvent
  pub other : FiredEvent
  pub one_there : Contains timed one
  pub other_there : Contains timed other
  pub component : one.event.component ≡ other.event.component
  pub start : one.start ≡ other.start
  pub cores : one.event.core ≢ other.event.core

-- there are no two such
abbrev pub HaveNoTie : List FiredEvent → Type 0
HaveNoTie timed = (x y : FiredEvent) → Contains timed x → Contains timed y → x.event.component ≡ y.event.component → x.start ≡ y.start → x.event.core ≡ y.event.core
