-- the seats so far are one, and the keys are theirs
use Rattle.std.proofs.Common.{◌≡◌, ◌+◌, ◌≤◌, length, map, All, [], vec_capacity}
use Rattle.parts_table.specs.Access.{IsSeatOf}
use Rattle.parts_table.proofs.Joining.{Joined}
use Rattle.parts_table.proofs.table.PartsTable.close.Given as goal

abbrev pub decreases-loop-seats : goal.decreases-loop-seats
decreases-loop-seats l = goal.left-loop-seats l

abbrev pub invariant-loop-seats : goal.invariant-loop-seats
invariant-loop-seats l = record {
  joined : Joined l.fn.seats.items l.seats.items l.place.me.0.logs (map (λ b. b.keys) l.blocks.items);
  holds : l.place.me.0.holds ≡ [];
  table : l.place.table_id ≡ l.fn.self.table;
  room : length l.blocks.items + length l.seats.items ≤ vec_capacity l.blocks;
  of_table : All (IsSeatOf l.fn.self) l.seats.items;
}
