-- the cores before this one waited, and the others are as they were
use Rattle.std.proofs.Common.{◌≡◌, ◌<◌, ◌≤◌, ℕ, get_or, slice_index}
use Rattle.bound_core.specs.TimedCore.{delayed}
use Rattle.bound_core.specs.NumberedCores.{NumberedCore}
use Rattle.run.proofs.simulation.delay_all.Given as goal

abbrev pub invariant-loop-number : goal.invariant-loop-number
invariant-loop-number l = record {
  done : (k : ℕ) (d : NumberedCore) → k < l.number → (get_or l.cores k d).timed ≡ delayed (slice_index l.delays k) (get_or l.initial.cores k d).timed;
  numbers : (k : ℕ) (d : NumberedCore) → (get_or l.cores k d).number ≡ (get_or l.initial.cores k d).number;
  rest : (k : ℕ) (d : NumberedCore) → l.number ≤ k → get_or l.cores k d ≡ get_or l.initial.cores k d;
}
