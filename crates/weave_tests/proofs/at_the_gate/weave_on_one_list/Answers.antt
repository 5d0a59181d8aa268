-- A step adds ten cycles.
use Rattle.std.proofs.Common.{◌≡◌, ◌≤◌, List, length, true, ap, subst, refl, arith, rules}
use Rattle.event_graph.specs.declared.event.Event.{Event}
use Rattle.event_graph.specs.Near.{AreNear}
use Rattle.weave_tests.proofs.at_the_gate.weave_on_one_list.Goals as goal

pub weave_gated-requires-clause-small : goal.weave_gated-requires-clause-small
weave_gated-requires-clause-small c κs =
    let events : c.events-events.result.now ≡ c.args.graph.now = c.events-events.ensures.events in
    let count : length c.args.graph.now ≤ 4194304 = omega (arith, ap length events, c.if-events.false) in
    c.steps_stay_small.ensures (λ s. true) (λ s. 0) 4194304 4194304 4194304 c.args.graph.now c.args.comps
    c.events-events.ensures.numbered (search rules)
    (record { sum = λ s kind start p q. omega arith; stays = λ s kind start p q. p; next = λ s kind start p q. omega arith })
    (subst (λ (es : List Event). AreNear 4194304 4194304 es) events (c.is_graph.ensures.near c.if-not-is_graph.false))
    (λ i s at. (refl, omega arith))
    (omega (arith, count))
