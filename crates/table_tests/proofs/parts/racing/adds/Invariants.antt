-- The core has made two accesses each time.
use Rattle.std.proofs.Common.{◌≡◌, ◌*◌, ◌≤◌, length}
use Rattle.parts_table.specs.Access.{IsSameSeat}
use Rattle.table_tests.proofs.parts.racing.adds.Given as goal

abbrev pub invariant-loop : goal.invariant-loop
invariant-loop g l = record {
  same : IsSameSeat l.fn.core.seat l.turn;
  count : length l.turn.made ≡ 2 * l.counter;
  within : l.counter ≤ 1000;
}
