-- the seats so far, and the blocks of the cores that have none
use Rattle.std.proofs.Common.{◌≡◌, ◌+◌, ◌≤◌, All, length, vec_capacity}
use Rattle.parts_table.specs.Tables.{table_state_of}
use Rattle.parts_table.proofs.Hiring.{AreSeatsUpTo}
use Rattle.parts_table.proofs.table.seats_of.Given as goal

abbrev pub invariant-loop-core : goal.invariant-loop-core
invariant-loop-core l = record {
  seats : AreSeatsUpTo (table_state_of l.fn.bench.table_id l.fn.bench.key) l.core l.seats.items;
  count : length l.blocks.items + l.core ≡ l.fn.cores;
  rooms : All (λ b. b.room ≡ l.fn.bench.key.room) l.blocks.items;
  capacity : vec_capacity l.blocks ≡ vec_capacity l.fn.blocks;
  room : l.fn.cores ≤ vec_capacity l.seats;
  within : l.core ≤ l.fn.cores;
}
