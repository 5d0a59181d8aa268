use Rattle.std.proofs.Common.{◌≡◌, ◌+◌, ◌<◌, ℕ, get_or, length, map}
use Rattle.bound_core.specs.TimedCore.{beside_cycles}
use Rattle.bound_core.specs.NumberedCores.{NumberedCore}
use Rattle.bound_phase.specs.Bounds.{HasConsoleRoom}
use Rattle.bound_phase.proofs.interval.reserve_all.Given as goal

abbrev pub invariant-loop-i : goal.invariant-loop-i
invariant-loop-i l = record {
  count : length l.cores ≡ length l.fn.cores;
  timed : map (λ c. c.timed) l.cores ≡ map (λ c. c.timed) l.fn.cores;
  number : map (λ c. c.number) l.cores ≡ map (λ c. c.number) l.fn.cores;
  spare : (k : ℕ) (d : NumberedCore) → k < l.i → HasConsoleRoom (l.fn.interval + beside_cycles) (get_or l.cores k d);
}
