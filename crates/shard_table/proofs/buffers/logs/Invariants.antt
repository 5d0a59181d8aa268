use Rattle.std.proofs.Common.{◌≡◌, ◌≤◌, vec_capacity}
use Rattle.shard_table.specs.Buffers.{new_logs}
use Rattle.shard_table.proofs.buffers.logs.Given as goal

abbrev pub invariant-loop : goal.invariant-loop
invariant-loop l = record {
  items : l.logs.items ≡ new_logs l.counter l.fn.room;
  room : l.fn.cores ≤ vec_capacity l.logs;
  within : l.counter ≤ l.fn.cores;
}
