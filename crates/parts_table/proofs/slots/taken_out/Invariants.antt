use Rattle.std.proofs.Common.{◌≡◌, ◌<◌, ◌≤◌, ℕ, true, false, length, take, vec_capacity}
use Rattle.std.specs.Prelude.{slice_index_or}
use Rattle.std.specs.Mem.Slots.{slots_items, slots_filled, slots_len}
use Rattle.parts_table.specs.Slots.{homes_of, l1s_of}
use Rattle.parts_table.proofs.slots.taken_out.Given as goal

abbrev pub invariant-loop-number : goal.invariant-loop-number
invariant-loop-number l = record {
  homes : l.homes.items ≡ homes_of (take l.number (slots_items l.fn.closed.slots));
  l1s : l.l1s.items ≡ l1s_of (take l.number (slots_items l.fn.closed.slots));
  homes_room : length (homes_of (slots_items l.fn.closed.slots)) ≤ vec_capacity l.homes;
  l1s_room : length (l1s_of (slots_items l.fn.closed.slots)) ≤ vec_capacity l.l1s;
  slots : slots_items l.closed.slots ≡ slots_items l.fn.closed.slots;
  size : slots_len l.closed.slots ≡ slots_len l.fn.closed.slots;
  within : l.number ≤ slots_len l.fn.closed.slots;
  empty : (k : ℕ) → k < l.number → slice_index_or (slots_filled l.closed.slots) k false ≡ false;
  full : (k : ℕ) → l.number ≤ k → k < slots_len l.fn.closed.slots → slice_index_or (slots_filled l.closed.slots) k false ≡ true;
}
