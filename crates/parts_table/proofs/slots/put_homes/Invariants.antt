use Rattle.std.proofs.Common.{◌≡◌, ◌+◌, ◌≤◌, ◌++◌, length, map, vec_capacity, vec_len}
use Rattle.parts_table.specs.Slots.{home_slot}
use Rattle.parts_table.proofs.slots.put_homes.Given as goal

abbrev pub decreases-loop-homes : goal.decreases-loop-homes
decreases-loop-homes l = vec_len l.homes

abbrev pub invariant-loop-homes : goal.invariant-loop-homes
invariant-loop-homes l = record {
  items : l.slots.items ++ map home_slot l.homes.items ≡ l.fn.slots.items ++ map home_slot l.fn.homes.items;
  room : length l.slots.items + length l.homes.items ≤ vec_capacity l.slots;
  slots : vec_capacity l.slots ≡ vec_capacity l.fn.slots;
  homes : vec_capacity l.homes ≡ vec_capacity l.fn.homes;
}
