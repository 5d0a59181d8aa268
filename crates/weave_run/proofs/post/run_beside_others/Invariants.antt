-- What the domain has done so far. After a step it has gone on.
use Rattle.std.proofs.Common.{◌≡◌, ◌<◌}
use Rattle.weave_run.specs.Rounds.{HasGoneOn}
use Rattle.weave_run.proofs.Postings.{HasServedSo}
use Rattle.weave_run.proofs.post.run_beside_others.Given as goal

abbrev pub invariant-loop-step : goal.invariant-loop-step
invariant-loop-step g l = record {
  so_far : HasServedSo g.C.Component.stepped l.fn.plan l.fn.crossings l.fn.post l.post;
  fresh : l._step ≡ 0 → l.post.domain ≡ l.fn.post.domain;
  goes : 0 < l._step → HasGoneOn l.fn.plan.graph.value l.fn.plan.parts.value l.fn.post.domain.domain l.fn.post.domain.own l.post.domain.own;
}
