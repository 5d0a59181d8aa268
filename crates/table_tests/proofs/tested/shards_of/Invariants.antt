-- The shards before this one are there.
use Rattle.std.proofs.Common.{◌≡◌, length}
use Rattle.table_tests.specs.Tested.{AreOf}
use Rattle.table_tests.proofs.tested.shards_of.Given as goal

abbrev pub invariant-loop-number : goal.invariant-loop-number
invariant-loop-number l = record {
  count : length l.shards.items ≡ l.number;
  each : AreOf l.machine.l2.banks l.shards.items;
}
