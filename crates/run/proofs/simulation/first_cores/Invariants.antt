-- the cores before this one are there
use Rattle.std.proofs.Common.{◌≡◌, map}
use Rattle.std.specs.List.{range_with_len}
use Rattle.bound_core.specs.TimedCore.{first_core}
use Rattle.bound_core.specs.NumberedCores.{timed_of}
use Rattle.run.proofs.simulation.first_cores.Given as goal

abbrev pub invariant-loop-number : goal.invariant-loop-number
invariant-loop-number l = record {
  timed : timed_of l.cores.items ≡ map (first_core l.machine l.image) (range_with_len 0 l.number);
  numbered : map (λ c. c.number) l.cores.items ≡ range_with_len 0 l.number;
}
