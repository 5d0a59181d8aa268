-- The crossings from the link on are published.
use Rattle.weave_run.proofs.Chains.{IsLink}
use Rattle.weave_run.proofs.Postings.{IsPublishing}
use Rattle.weave_run.proofs.post.publish_all.Given as goal

abbrev pub invariant-loop-link : goal.invariant-loop-link
invariant-loop-link g l = record {
  link : IsLink l.fn.plan.parts.value.crossings l.fn.fired.number l.link;
  so_far : IsPublishing g.C.Component.stepped l.fn.plan l.fn.seat l.seat l.fn.fired.number l.fn.fired.finish l.link;
}

abbrev pub decreases-loop-link : goal.decreases-loop-link
decreases-loop-link g l = l.link
