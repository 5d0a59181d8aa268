use Rattle.std.proofs.Common.{◌≡◌, ◌+◌, ◌≤◌, ◌++◌, length, map, vec_capacity, vec_len}
use Rattle.parts_table.specs.Slots.{l1_slot}
use Rattle.parts_table.proofs.slots.put_l1s.Given as goal

abbrev pub decreases-loop-l1s : goal.decreases-loop-l1s
decreases-loop-l1s l = vec_len l.l1s

abbrev pub invariant-loop-l1s : goal.invariant-loop-l1s
invariant-loop-l1s l = record {
  items : l.slots.items ++ map l1_slot l.l1s.items ≡ l.fn.slots.items ++ map l1_slot l.fn.l1s.items;
  room : length l.slots.items + length l.l1s.items ≤ vec_capacity l.slots;
  slots : vec_capacity l.slots ≡ vec_capacity l.fn.slots;
  l1s : vec_capacity l.l1s ≡ vec_capacity l.fn.l1s;
}
