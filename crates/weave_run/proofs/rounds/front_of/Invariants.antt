-- The least start of the domains so far.
use Rattle.weave_run.proofs.Floors.{IsFrontSo}
use Rattle.weave_run.proofs.rounds.front_of.Given as goal

abbrev pub invariant-loop-index : goal.invariant-loop-index
invariant-loop-index g l = IsFrontSo l.fn.plan l.fn.domains l.index l.front
