-- The crossings behind the link are told.
use Rattle.weave_run.proofs.Chains.{IsLink}
use Rattle.weave_run.proofs.Tellings.{HasToldFrom}
use Rattle.weave_run.proofs.tell.tell_all.Given as goal

abbrev pub invariant-loop-link : goal.invariant-loop-link
invariant-loop-link g l = record {
  link : IsLink l.fn.plan.parts.value.crossings l.fn.fired.number l.link;
  told : HasToldFrom g.C.Component.stepped l.fn.plan l.fn.domains l.domains l.fn.fired.number l.link;
}

abbrev pub decreases-loop-link : goal.decreases-loop-link
decreases-loop-link g l = l.link
