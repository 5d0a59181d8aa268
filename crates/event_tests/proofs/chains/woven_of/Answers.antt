-- By the laws of events that no mesh is crossed for.
use Rattle.std.proofs.Common.{◌≡◌, ◌+◌, ◌*◌, ◌<◌, ◌≤◌, ◌^◌, ℕ, List, length, All, ap, sym, subst, arith}
use Rattle.component.specs.declared.comp.Comp.{Comp}
use Rattle.component.specs.ComponentStep.{comp_step, free_of}
use Rattle.component.specs.Greatest.{comp_greatest}
use Rattle.component.specs.Serving.{comp_latency, comp_serves}
use Rattle.event_graph.specs.declared.event.Event.{Event}
use Rattle.event_graph.specs.EventGraph.{all_events}
use Rattle.event_graph.specs.Fits.{GraphFits}
use Rattle.event_graph.specs.PlainTiming.{pieces_of}
use Rattle.event_tests.proofs.TwoMisses as two
use Rattle.event_tests.proofs.chains.woven_of.Goals as goal

pub weave_chains-requires-clause-chained : goal.weave_chains-requires-clause-chained
weave_chains-requires-clause-chained g c = λ lives.
    let m = c.args.misses.now in
    two.chained m.first m.second c.requires.first c.requires.second c.of-plain.result.path (c.plain_events_are_in_a_row.ensures c.of-plain.result.path)

pub weave_chains-requires-clause-few : goal.weave_chains-requires-clause-few
weave_chains-requires-clause-few g c =
    let m = c.args.misses.now in
    omega (arith, c.events_are_counted.ensures c.of-plain.result (two.accesses m.first m.second), c.plain_accesses_have_few_events.ensures c.of-plain.result.path (two.accesses m.first m.second))

pub weave_chains-requires-clause-fits : goal.weave_chains-requires-clause-fits
weave_chains-requires-clause-fits g c = λ lives.
    let m = c.args.misses.now in
    subst (λ path. GraphFits comp_serves comp_latency (all_events (pieces_of path) (two.accesses m.first m.second)) c.args.comps.now) (sym c.of-plain.ensures)
    (c.plain_graphs_fit.ensures c.args.machine.now c.args.comps.now (two.accesses m.first m.second) c.requires.machine c.requires.closed c.requires.fresh.are)

pub weave_chains-requires-clause-small : goal.weave_chains-requires-clause-small
weave_chains-requires-clause-small g c = λ lives.
    let m = c.args.misses.now in
    let accesses = two.accesses m.first m.second in
    let comps = c.args.comps.now in
    let plain = c.of-plain.result in
    let events : List Event = all_events (pieces_of plain.path) accesses in
    let free : All (λ k. free_of k ≤ 2 ^ 34 + 2 ^ 20) comps = λ i d below. omega (arith, c.requires.fresh.free i d below) in
    let few : length events ≤ 8 = omega (arith, c.events_are_counted.ensures plain accesses, c.plain_accesses_have_few_events.ensures plain.path accesses) in
    let fits : GraphFits comp_serves comp_latency events comps =
    subst (λ path. GraphFits comp_serves comp_latency (all_events (pieces_of path) accesses) comps) (sym c.of-plain.ensures)
    (c.plain_graphs_fit.ensures c.args.machine.now comps accesses c.requires.machine c.requires.closed c.requires.fresh.are)
    in
    c.machine_steps_stay_small.ensures c.args.machine.now comps events (2 ^ 34 + 2 ^ 20) (2 ^ 34 + 2 ^ 20) c.requires.machine c.requires.fresh.are free
    (c.events_are_placed.ensures.numbered plain accesses) fits
    (c.events_begin_with_their_accesses.ensures plain accesses (2 ^ 34) (two.soon m.first m.second c.requires.first c.requires.second)) (omega (arith, few))
