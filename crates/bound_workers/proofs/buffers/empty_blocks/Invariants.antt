use Rattle.std.proofs.Common.{◌≡◌, ◌≤◌, All, length, vec_capacity}
use Rattle.bound_workers.proofs.buffers.empty_blocks.Given as goal

abbrev pub invariant-loop : goal.invariant-loop
invariant-loop l = record {
  count : length l.blocks.items ≡ l.counter;
  rooms : All (λ b. b.room ≡ l.fn.room) l.blocks.items;
  room : l.fn.cores ≤ vec_capacity l.blocks;
  within : l.counter ≤ l.fn.cores;
}
