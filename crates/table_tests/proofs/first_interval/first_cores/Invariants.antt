-- the cores before this one are there
use Rattle.std.proofs.Common.{◌≡◌, ℕ, length, All}
use Rattle.std.specs.Prelude.{Some, slice_get}
use Rattle.machine_desc.specs.InstructionCaches.{has_l1i}
use Rattle.bound_core.specs.NumberedCores.{NumberedCore}
use Rattle.bound_phase.specs.Bounds.{IsBeforeInterval}
use Rattle.table_tests.proofs.first_interval.first_cores.Given as goal

abbrev pub invariant-loop-number : goal.invariant-loop-number
invariant-loop-number l = record {
  count : length l.cores.items ≡ l.number;
  numbers : (number : ℕ) (c : NumberedCore) → slice_get l.cores.items number ≡ Some c → c.number ≡ number;
  at_start : All (IsBeforeInterval l.machine l.machine.interval) l.cores.items;
  fetching : All (λ c. c.timed.core.fetching ≡ has_l1i l.machine) l.cores.items;
}
