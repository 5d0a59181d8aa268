-- One leg more, with its access or without.
use Rattle.std.proofs.Common.{◌<◌, ◌+◌, ◌++◌, ℕ, List, drop, length, ◌∙◌, ap, arith}
use Rattle.rv_core.specs.Told.{told_of}
use Rattle.trace.specs.Trace.{Step}
use Rattle.trace.specs.Ways.{told_steps}
use Rattle.trace.proofs.WayTold.{bare_more, made_more, plain_more}
use Rattle.trace.proofs.telling.tell_way.Goals as goal
use Rattle.trace.proofs.telling.tell_way.Goals.{then-leg+then-place-entries+in_ok-tell_access, else-leg, else-leg-via-then-leg+else-place-entries, else-leg-via-else-leg}

pub loop-leg-preserved : goal.loop-leg-preserved
loop-leg-preserved g c =
    let number = c.args.number in
    let way = c.args.way.now in
    let entries = c.args.entries.now in
    let k = c.loop-leg.leg-index in
    let place = c.loop-leg.place in
    let within : k < length way = omega (arith, c.loop-leg-test.true, c.loop-leg.auto.leg-index-end) in
    let now = g.T.Tracer.steps c.loop-leg.tracer in
    let later = g.T.Tracer.steps c.if-leg.tracer in
    let whole = g.T.Tracer.steps c.args.tracer.now ++ told_steps number (told_of way) entries in
    let Behind : ℕ → List Step = λ n. later ++ told_steps number (told_of (drop (k + 1) way)) (drop n entries) in
    record {
      told = elim c.if-leg.branch [
        | then-leg+then-place-entries+in_ok-tell_access w ↦
            ap Behind w.place-is
            ∙ made_more number way k _ within entries place now later whole c.loop-leg.invariant.told _ _ w.if-leg.true w.if-place-entries.true c.in_ok-tell_instructions.ensures.told
            (ap g.T.Tracer.steps w.tracer-is ∙ w.in_ok-tell_access.ensures.told)
        | else-leg w ↦
            ap Behind w.place-is
            ∙ elim w.else-leg.branch [
              | else-leg-via-then-leg+else-place-entries v ↦
                  bare_more number way k _ within entries place now later whole c.loop-leg.invariant.told v.if-leg.true (omega (arith, v.if-place-entries.false)) (ap g.T.Tracer.steps w.tracer-is ∙ c.in_ok-tell_instructions.ensures.told)
              | else-leg-via-else-leg v ↦
                  plain_more number way k _ within entries place now later whole c.loop-leg.invariant.told v.if-leg.false (ap g.T.Tracer.steps w.tracer-is ∙ c.in_ok-tell_instructions.ensures.told)
            ]
      ];
      fixed = elim c.if-leg.branch [
        | then-leg+then-place-entries+in_ok-tell_access w ↦ ap g.T.Tracer.fixed w.tracer-is ∙ (w.tell_access.ensures.fixed ∙ (c.tell_instructions.ensures.fixed ∙ c.loop-leg.invariant.fixed))
        | else-leg w ↦ ap g.T.Tracer.fixed w.tracer-is ∙ (c.tell_instructions.ensures.fixed ∙ c.loop-leg.invariant.fixed)
      ];
    }
