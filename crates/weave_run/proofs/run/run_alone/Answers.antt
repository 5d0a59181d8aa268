-- It stops where the next event may not fire.
use Rattle.std.proofs.Common.{arith}
use Rattle.weave_run.proofs.Running.{goes_after, one_more, stops}
use Rattle.weave_run.proofs.run.run_alone.Goals as goal

pub returns-in_default : goal.returns-in_default
returns-in_default g c =
    let i = c.loop-step.invariant in
    stops g.C.Component.serves g.C.Component.floor g.C.Component.stepped g.C.Component.greatest c.domains_keep_to_the_weave.ensures c.args.plan.now c.requires.can c.args.domain.now c.loop-step.domain c.loop-step._step c.next.result
    i.so_far i.fresh i.goes c.next.ensures c.in_default.not-Fire

pub loop-step-preserved : goal.loop-step-preserved
loop-step-preserved g c =
    let i = c.loop-step.invariant in
    record {
      so_far = one_more g.C.Component.stepped c.args.plan.now c.args.domain.now c.loop-step.domain c.fire-fired.new.domain c.fire-fired.result i.so_far c.fire-fired.ensures;
      fresh = λ e. absurd (omega (arith, e));
      goes = λ l. goes_after g.C.Component.serves g.C.Component.floor g.C.Component.stepped g.C.Component.greatest c.domains_keep_to_the_weave.ensures c.args.plan.now c.requires.can c.args.domain.now c.loop-step.domain c.fire-fired.new.domain
          c.fire-fired.result c.loop-step._step i.fresh i.goes c.fire-fired.ensures;
    }
