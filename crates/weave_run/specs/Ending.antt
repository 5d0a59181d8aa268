-- What a weave hands back of the events.
use Rattle.std.specs.Prelude.{◌≡◌, ℕ, List, length, map, Some, slice_get}
use Rattle.component.specs.declared.kind.Kind.{Kind}
use Rattle.event_graph.specs.declared.fired.Fired.{Fired}
use Rattle.event_graph.specs.OneListWeave.{FiredEvent, fired_of, woven}
use Rattle.weave_core.specs.DomainCalls.{DomainValue}
use Rattle.weave_run.specs.declared.plan.Plan.{Plan}

-- the event of this number has the times of the weave
abbrev pub AgreesAt : {C : Type 0} (stepped : C → Kind → ℕ → C × ℕ) → Plan C → List Fired → (number : ℕ) → Type 0
AgreesAt stepped plan times number = slice_get times number ≡ slice_get (map fired_of (woven stepped plan.graph.value plan.comps.value)) number

-- what a domain fired has its times
pub record HasFilled {C : Type 0} (stepped : C → Kind → ℕ → C × ℕ) (plan : Plan C) (old new : List Fired) (v : DomainValue C) : Type 0 where
  pub count : length new ≡ length old
  pub stays : (number : ℕ) → AgreesAt stepped plan old number → AgreesAt stepped plan new number
  pub all : (place : ℕ) (y : FiredEvent) → slice_get v.own.fired place ≡ Some y → AgreesAt stepped plan new y.event.number
