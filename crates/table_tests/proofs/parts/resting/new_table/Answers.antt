-- The one shard knows both cores.
use Rattle.std.proofs.Common.{◌∙◌, sym}
use Rattle.table_tests.proofs.PartsAsking.{first_has_two, tested}
use Rattle.table_tests.proofs.parts.resting.new_table.Goals as goal

pub make-requires-clause-cores : goal.make-requires-clause-cores
make-requires-clause-cores c = λ shard at. first_has_two c.in_ok-parts.parts c.in_ok-parts.ensures shard at ∙ sym c.in_ok-blocks.ensures.count

pub returns-in-Ok-clause-table : goal.returns-in-Ok-clause-table
returns-in-Ok-clause-table c =
    let made = c.in-Ok.ensures in
    let counts = made.counts in
    tested c.in-Ok.made.0 c.in_ok-parts.parts c.in_ok-parts.ensures made.shards (counts.0 ∙ c.in_ok-blocks.ensures.count) counts.1 counts.2
