use Rattle.std.proofs.Common.{◌≡◌, ◌≤◌, length, vec_capacity}
use Rattle.parts_table.proofs.places.Places.new.Given as goal

abbrev pub invariant-loop : goal.invariant-loop
invariant-loop l = record {
  count : length l.l1s.items ≡ l.counter;
  room : l.fn.cores ≤ vec_capacity l.l1s;
}
