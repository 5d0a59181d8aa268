use Rattle.std.proofs.Common.{◌≡◌, ◌<◌, ℕ, length, Some, slice_get}
use Rattle.event_graph.specs.OneListWeave.{FiredEvent}
use Rattle.weave_run.specs.Ending.{AgreesAt}
use Rattle.weave_run.proofs.ended.fill.Given as goal

abbrev pub invariant-loop-place : goal.invariant-loop-place
invariant-loop-place g l = record {
  count : length l.times ≡ length l.fn.times;
  stays : (number : ℕ) → AgreesAt g.C.Component.stepped l.fn.plan l.fn.times number → AgreesAt g.C.Component.stepped l.fn.plan l.times number;
  upto : (place : ℕ) (y : FiredEvent) → place < l.place → slice_get l.fn.domain.own.fired place ≡ Some y → AgreesAt g.C.Component.stepped l.fn.plan l.times y.event.number;
}
