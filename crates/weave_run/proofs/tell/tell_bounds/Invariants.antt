-- The domains were told more.
use Rattle.weave_run.specs.Rounds.{HaveLearned}
use Rattle.weave_run.proofs.tell.tell_bounds.Given as goal

abbrev pub invariant-loop-index : goal.invariant-loop-index
invariant-loop-index g l = HaveLearned g.C.Component.stepped l.fn.plan l.fn.domains l.domains
