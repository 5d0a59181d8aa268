use Rattle.std.proofs.Common.{◌≡◌, ◌<◌, ◌≤◌, ℕ, true, false, take, vec_capacity}
use Rattle.std.specs.Prelude.{slice_index_or}
use Rattle.std.specs.Mem.Slots.{slots_items, slots_filled, slots_len}
use Rattle.shard_table.proofs.table.taken_out.Given as goal

abbrev pub invariant-loop-number : goal.invariant-loop-number
invariant-loop-number l = record {
  items : l.shards.items ≡ take l.number (slots_items l.fn.closed.slots);
  slots : slots_items l.closed.slots ≡ slots_items l.fn.closed.slots;
  size : slots_len l.closed.slots ≡ slots_len l.fn.closed.slots;
  room : slots_len l.fn.closed.slots ≤ vec_capacity l.shards;
  within : l.number ≤ slots_len l.fn.closed.slots;
  empty : (k : ℕ) → k < l.number → slice_index_or (slots_filled l.closed.slots) k false ≡ false;
  full : (k : ℕ) → l.number ≤ k → k < slots_len l.fn.closed.slots → slice_index_or (slots_filled l.closed.slots) k false ≡ true;
}
