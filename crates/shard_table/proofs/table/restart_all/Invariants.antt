-- the shards before this one have their last stamp 0, and the others are as they were
use Rattle.std.proofs.Common.{◌≡◌, ◌<◌, ◌≤◌, ℕ, get_or}
use Rattle.shard.specs.Served.{ShardState, resumed}
use Rattle.shard_table.proofs.table.restart_all.Given as goal

abbrev pub invariant-loop-shard : goal.invariant-loop-shard
invariant-loop-shard l = record {
  done : (d : ShardState) (i : ℕ) → i < l.shard-index → get_or l.shard-items i d ≡ resumed (get_or l.initial.shard-items i d) 0;
  rest : (d : ShardState) (i : ℕ) → l.shard-index ≤ i → get_or l.shard-items i d ≡ get_or l.initial.shard-items i d;
}
