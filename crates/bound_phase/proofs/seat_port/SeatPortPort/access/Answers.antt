use Rattle.std.proofs.Common.{arith, tests}
use Rattle.bound_phase.proofs.Asking.{may_ask}
use Rattle.bound_phase.proofs.seat_port.SeatPortPort.access.Goals as goal

pub access-requires-clause-ask : goal.access-requires-clause-ask
access-requires-clause-ask g c =
    let port = c.args.self.now in
    may_ask port.table.now.cores port.seat.core port.base port.size port.table.now.shards c.args.request port.shards port.core c.requires.servable

pub returns-clause-gives : goal.returns-clause-gives
returns-clause-gives g c = grind (arith, tests)
