-- The core may ask the shard of the doubleword.
use Rattle.std.proofs.Common.{arith, rules, false}
use Rattle.zs_num.specs.Servable.{IsServable}
use Rattle.table_tests.proofs.Asking.{may_ask}
use Rattle.table_tests.proofs.tests.adds.Goals as goal

pub access-requires-clause-ask : goal.access-requires-clause-ask
access-requires-clause-ask g c =
    let can : IsServable 65536 1048576 false c.one_more_at.result = search rules in
    may_ask c.args.banks c.args.table.now c.requires.table.1 c.requires.table.0 c.loop.seat.core c.one_more_at.result (omega (arith, c.loop.invariant.same.core, c.requires.seat.1)) can
