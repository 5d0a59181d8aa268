-- What the domain fired so far. After a fire it has gone on.
use Rattle.std.proofs.Common.{◌≡◌, ◌<◌}
use Rattle.weave_run.specs.Rounds.{HasGoneOn}
use Rattle.weave_run.proofs.Running.{HasRunSo}
use Rattle.weave_run.proofs.run.run_alone.Given as goal

abbrev pub invariant-loop-step : goal.invariant-loop-step
invariant-loop-step g l = record {
  so_far : HasRunSo g.C.Component.stepped l.fn.plan l.fn.domain l.domain;
  fresh : l._step ≡ 0 → l.domain ≡ l.fn.domain;
  goes : 0 < l._step → HasGoneOn l.fn.plan.graph.value l.fn.plan.parts.value l.fn.domain.domain l.fn.domain.own l.domain.own;
}
