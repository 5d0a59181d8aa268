-- the seats of the cores before this one, of which the first counts them
use Rattle.std.proofs.Common.{◌≡◌, ◌-◌, ◌≤◌, vec_capacity}
use Rattle.shard_table.specs.Buffers.{new_logs}
use Rattle.shard_table.specs.Tables.{table_state_of}
use Rattle.shard_table.proofs.Hiring.{AreSeatsUpTo}
use Rattle.shard_table.proofs.table.seats.Given as goal

abbrev pub invariant-loop-core : goal.invariant-loop-core
invariant-loop-core l = record {
  seats : AreSeatsUpTo (table_state_of l.fn.bench.table_id l.fn.bench.key) l.core l.seats.items;
  logs : l.logs.items ≡ new_logs (l.fn.cores - l.core) l.fn.bench.key.room;
  room : l.fn.cores ≤ vec_capacity l.seats;
  within : l.core ≤ l.fn.cores;
}
