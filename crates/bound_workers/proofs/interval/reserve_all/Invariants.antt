-- the cores before this one have room, and all else is as it was
use Rattle.std.proofs.Common.{◌≡◌, ◌+◌, ◌<◌, ◌≤◌, ℕ, get_or}
use Rattle.bound_core.specs.TimedCore.{beside_cycles}
use Rattle.bound_core.specs.NumberedCores.{NumberedCore}
use Rattle.bound_workers.proofs.interval.reserve_all.Given as goal

abbrev pub invariant-loop-number : goal.invariant-loop-number
invariant-loop-number l = record {
  done : (k : ℕ) (d : NumberedCore) → k < l.number → l.machine.interval + beside_cycles ≤ (get_or l.cores k d).spare;
  timed : (k : ℕ) (d : NumberedCore) → (get_or l.cores k d).timed ≡ (get_or l.initial.cores k d).timed;
  numbers : (k : ℕ) (d : NumberedCore) → (get_or l.cores k d).number ≡ (get_or l.initial.cores k d).number;
}
