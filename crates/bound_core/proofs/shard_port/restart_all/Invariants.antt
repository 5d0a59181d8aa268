-- the shards before this one are restarted, and the others are as they were
use Rattle.std.proofs.Common.{◌≡◌, ◌<◌, ◌≤◌, ℕ, get_or}
use Rattle.shard.specs.Served.{no_shard}
use Rattle.reference.specs.ShardWorld.{restarted}
use Rattle.bound_core.proofs.shard_port.restart_all.Given as goal

abbrev pub invariant-loop-shard : goal.invariant-loop-shard
invariant-loop-shard l = record {
  done : (i : ℕ) → i < l.shard-index → get_or l.shard-items i no_shard ≡ restarted (get_or l.initial.shard-items i no_shard);
  rest : (i : ℕ) → l.shard-index ≤ i → get_or l.shard-items i no_shard ≡ get_or l.initial.shard-items i no_shard;
}
