-- A step adds no more than the occupancy and the longest latency.
use Rattle.std.proofs.Common.{◌≡◌, ◌≤◌, List, length, leb, Some, sym, ap, subst, arith, rules}
use Rattle.std.specs.Prelude.{slice_get}
use Rattle.std.proofs.lemmas.Bool.{leb-true}
use Rattle.event_graph.specs.declared.event.Event.{Event}
use Rattle.event_graph.specs.Near.{AreNear}
use Rattle.weave_tests.proofs.one_list.woven.Goals as goal

pub weave_seq-requires-clause-small : goal.weave_seq-requires-clause-small
weave_seq-requires-clause-small c =
    let events : c.events-events.result.now ≡ c.args.graph.now = c.events-events.ensures.events in
    let count : length c.args.graph.now ≤ 4194304 = omega (arith, ap length events, c.if-events.false) in
    c.steps_stay_small.ensures (λ s. leb s.occupancy 4194304) (λ s. s.free) 4194404 4194304 4194304 c.args.graph.now c.args.comps.now
    c.events-events.ensures.numbered (search rules)
    (record {
      sum = λ s kind start p q. omega (arith, leb-true s.occupancy 4194304 p);
      stays = λ s kind start p q. p;
      next = λ s kind start p q. omega (arith, leb-true s.occupancy 4194304 p);
    })
    (subst (λ (es : List Event). AreNear 4194304 4194304 es) events (c.is_graph.ensures.near c.if-not-is_graph.false))
    (λ i s at. c.are_fast.ensures c.if-not-are_fast.false i s (subst (λ xs. slice_get xs i ≡ Some s) (sym c.as_slice-else-not-is_graph.ensures) at))
    (omega (arith, count))
