-- The core may ask the shard of the line.
use Rattle.table_tests.proofs.Asking.{may_ask}
use Rattle.table_tests.proofs.tested.ask.Goals as goal

pub try_access-requires-clause-ask : goal.try_access-requires-clause-ask
try_access-requires-clause-ask g c =
    may_ask c.args.banks c.args.table.now c.requires.table.1 c.requires.table.0 c.args.seat.now.core c.args.request c.requires.seat.1 c.requires.can
