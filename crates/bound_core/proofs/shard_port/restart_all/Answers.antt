use Rattle.std.proofs.Common.{arith}
use Rattle.bound_core.proofs.AllShards.{all_restarted}
use Rattle.bound_core.proofs.shard_port.restart_all.Goals as goal

pub returns : goal.returns
returns c = all_restarted c.args.shards.now _ c.loop-shard.auto.shard-items (λ i below. c.loop-shard.invariant.done i (omega (arith, below, c.loop-shard-test.false)))
