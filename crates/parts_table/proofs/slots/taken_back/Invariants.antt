use Rattle.std.proofs.Common.{◌≡◌, ◌≤◌, ◌++◌, length, vec_capacity, vec_len}
use Rattle.parts_table.specs.Slots.{homes_of, l1s_of}
use Rattle.parts_table.proofs.slots.taken_back.Given as goal

abbrev pub decreases-loop-slots : goal.decreases-loop-slots
decreases-loop-slots l = vec_len l.slots

abbrev pub invariant-loop-slots : goal.invariant-loop-slots
invariant-loop-slots l = record {
  homes : l.homes.items ++ homes_of l.slots.items ≡ homes_of l.fn.slots.items;
  l1s : l.l1s.items ++ l1s_of l.slots.items ≡ l1s_of l.fn.slots.items;
  homes_room : length (homes_of l.fn.slots.items) ≤ vec_capacity l.homes;
  l1s_room : length (l1s_of l.fn.slots.items) ≤ vec_capacity l.l1s;
}
