-- What was sent is what the asker waits for.
use Rattle.std.proofs.Common.{ap}
use Rattle.table_tests.proofs.crews.by_hand.sends_and_ends.Goals as goal

pub collect-requires-clause-sent : goal.collect-requires-clause-sent
collect-requires-clause-sent g c = λ κs within. (_, ap (λ seat. seat.stage) c.send.ensures)

pub collect-requires-2-clause-sent : goal.collect-requires-2-clause-sent
collect-requires-2-clause-sent g c = λ κs within. (_, ap (λ seat. seat.stage) c.send-2.ensures)
