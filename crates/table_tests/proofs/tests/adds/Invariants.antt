-- The seat has what was added so far.
use Rattle.std.proofs.Common.{◌≡◌, ◌≤◌, length}
use Rattle.shard_table.specs.Access.{IsSameSeat}
use Rattle.table_tests.proofs.tests.adds.Given as goal

abbrev pub invariant-loop : goal.invariant-loop
invariant-loop g l = record {
  same : IsSameSeat l.fn.seat l.seat;
  count : length l.seat.entries ≡ l.counter;
  within : l.counter ≤ 1000;
}
