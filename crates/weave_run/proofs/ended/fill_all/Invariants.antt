use Rattle.std.proofs.Common.{◌≡◌, ◌<◌, ℕ, length, Some, slice_get}
use Rattle.event_graph.specs.OneListWeave.{FiredEvent}
use Rattle.weave_core.specs.DomainCalls.{DomainValue}
use Rattle.weave_run.specs.Ending.{AgreesAt}
use Rattle.weave_run.proofs.ended.fill_all.Given as goal

abbrev pub invariant-loop-index : goal.invariant-loop-index
invariant-loop-index g l = record {
  count : length l.times ≡ length l.fn.times;
  upto : (d : ℕ) (v : DomainValue g.row.C.Denot) (place : ℕ) (y : FiredEvent) → d < l.index → slice_get l.fn.domains d ≡ Some v → slice_get v.own.fired place ≡ Some y → AgreesAt g.C.Component.stepped l.fn.plan l.times y.event.number;
}
