-- whoever has it still, it is the same table
use Rattle.std.proofs.Common.{◌≡◌}
use Rattle.std.specs.Arc.{arc_value}
use Rattle.bound_workers.proofs.interval.only.Given as goal

abbrev pub invariant-loop : goal.invariant-loop
invariant-loop g l = arc_value l.shared ≡ arc_value l.fn.table
