-- The domains below the number have run.
use Rattle.weave_run.proofs.Rounding.{HasRunUpto}
use Rattle.weave_run.proofs.rounds.run_here.Given as goal

abbrev pub invariant-loop-number : goal.invariant-loop-number
invariant-loop-number g l = HasRunUpto g.C.Component.stepped l.fn.plan l.fn.domains l.domains l.number
