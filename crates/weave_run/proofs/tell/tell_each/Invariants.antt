-- The domains below the source are told of.
use Rattle.weave_run.specs.Rounds.{HasToldRests}
use Rattle.weave_run.proofs.tell.tell_each.Given as goal

abbrev pub invariant-loop-source : goal.invariant-loop-source
invariant-loop-source g l = HasToldRests g.C.Component.stepped l.fn.plan l.fn.domains l.domains l.fn.counts l.source
