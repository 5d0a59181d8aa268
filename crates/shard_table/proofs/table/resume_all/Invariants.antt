use Rattle.std.proofs.Common.{◌≡◌, ◌+◌, ◌≤◌, ◌++◌, length, vec_len, vec_capacity}
use Rattle.shard_table.specs.Tables.{resumed_all}
use Rattle.shard_table.proofs.table.resume_all.Given as goal

abbrev pub decreases-loop-shards : goal.decreases-loop-shards
decreases-loop-shards l = vec_len l.shards

abbrev pub invariant-loop-shards : goal.invariant-loop-shards
invariant-loop-shards l = record {
  items : l.back.items ++ resumed_all l.shards.items l.stamps.items ≡ resumed_all l.fn.shards.items l.fn.stamps.items;
  size : length l.stamps.items ≡ length l.shards.items;
  room : length l.back.items + length l.shards.items ≤ vec_capacity l.back;
}
