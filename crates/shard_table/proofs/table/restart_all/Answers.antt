use Rattle.std.proofs.Common.{arith}
use Rattle.shard_table.proofs.Making.{all_restarted}
use Rattle.shard_table.proofs.table.restart_all.Goals as goal

pub returns : goal.returns
returns c =
    all_restarted c.args.shards.now _ c.loop-shard.auto.shard-items (λ d i below. c.loop-shard.invariant.done d i (omega (arith, below, c.loop-shard-test.false)))
