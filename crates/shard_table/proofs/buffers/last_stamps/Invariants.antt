use Rattle.std.proofs.Common.{◌≡◌, ◌≤◌, length, map, take, vec_capacity}
use Rattle.shard_table.proofs.buffers.last_stamps.Given as goal

abbrev pub invariant-loop-shard : goal.invariant-loop-shard
invariant-loop-shard l = record {
  items : l.stamps.items ≡ map (λ shard. shard.last) (take l.shard-index l.fn.shards);
  room : length l.fn.shards ≤ vec_capacity l.stamps;
}
