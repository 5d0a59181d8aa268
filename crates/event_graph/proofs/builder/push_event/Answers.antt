use Rattle.std.proofs.Common.{◌<◌, length, arith}
use Rattle.event_graph.proofs.LastKept.{kept_of_pushed}
use Rattle.event_graph.proofs.builder.push_event.Goals as goal

pub returns-then-event-clause-last : goal.returns-then-event-clause-last
returns-then-event-clause-last c =
    let there : c.args.event.core < length c.args.last.now.items = omega (arith, c.args.last.now.ok.0) in
    rw (c.push_reserved.ensures.items, c.from.ensures)
    (kept_of_pushed c.args.last.now.items c.args.events.now.items c.args.event there c.requires.last c.if-event.true)
