use Rattle.l1_cache.proofs.Table.{met, some_sets}
use Rattle.l1_cache.proofs.l1i.InstructionWays.meet.Goals as goal

pub returns-then-line-lt18446744073709551615-clause-some : goal.returns-then-line-lt18446744073709551615-clause-some
returns-then-line-lt18446744073709551615-clause-some c =
    let is = met c.requires.ways.near c.args.line c.near_index.result c.index-entry.result.now c.if-line-lt18446744073709551615.true c.near_index.ensures.value c.index-entry.ensures c.if-entry-line.true in
    some_sets c.requires.ways.tags is.stands
