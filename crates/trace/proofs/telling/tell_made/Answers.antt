use Rattle.std.proofs.Common.{◌≡◌, List, ◌++◌, drop, ◌∙◌, ap, Vec, Global}
use Rattle.rv_core.specs.declared.leg.Leg.{Leg}
use Rattle.trace.specs.EachCore.{untold_steps}
use Rattle.trace.proofs.Untold.{all_behind, last_legs, none_made, some_made}
use Rattle.trace.proofs.telling.tell_made.Goals as goal
use Rattle.trace.proofs.telling.tell_made.Goals.{then-made-gt0+in_ok-tell_legs+in_ok-tell_way, else-made-gt0}

pub returns-clause-made : goal.returns-clause-made
returns-clause-made g c =
    let number = c.args.number in
    let way = c.args.way.now in
    let made = c.legs_made-made.result in
    let entries = c.args.entries.now in
    let untold = c.args.untold.now.items in
    let after = c.loop-leg.untold.items in
    let steps = g.T.Tracer.steps c.args.tracer.now in
    let steps_after = g.T.Tracer.steps c.if-made-gt0.tracer in
    let did = c.legs_made-made.ensures in
    let Behind : Vec Leg Global → List Leg = λ v. v.items ++ drop made way in
    let rest : after ≡ Behind c.if-made-gt0.untold =
    all_behind after c.if-made-gt0.untold.items _ c.loop-leg.leg-index c.loop-leg.invariant c.loop-leg-test.false
    ∙ ap (λ (legs : List Leg). c.if-made-gt0.untold.items ++ legs) (last_legs way made)
    in (
      made,
      elim c.if-made-gt0.branch [
        | then-made-gt0+in_ok-tell_legs+in_ok-tell_way w ↦
            some_made number way made entries untold after steps steps_after did.within did.last did.behind
            (g.T.Tracer.steps w.tell_legs.new.tracer) w.if-made-gt0.true
            (w.in_ok-tell_legs.ensures.told ∙ ap (λ (legs : List Leg). steps ++ untold_steps number legs) w.deref.ensures.value)
            (ap g.T.Tracer.steps w.tracer-is ∙ w.in_ok-tell_way.ensures.told)
            (rest ∙ (ap Behind w.untold-is ∙ ap (λ (legs : List Leg). legs ++ drop made way) w.clear.ensures.items))
        | else-made-gt0 w ↦
            none_made number way made entries untold after steps steps_after did.within did.last did.behind
            w.if-made-gt0.false (ap g.T.Tracer.steps w.tracer-is) (rest ∙ ap Behind w.untold-is)
      ],
    )
