-- what is left to run leads to the same end, and gives the steps of which no leg tells yet
use Rattle.std.proofs.Common.{◌≡◌, ◌≤◌, ◌+◌, ◌++◌, ℕ, All, false}
use Rattle.bound_core.specs.Ahead.{going}
use Rattle.bound_core.specs.IntervalBounds.{latest_clock, most_accesses, steps_left}
use Rattle.bound_core.specs.TimedCore.{goes_on_alone, ran_to}
use Rattle.trace.specs.EachCore.{untold_steps}
use Rattle.trace.specs.Trace.{steps_alone}
use Rattle.trace.specs.Ways.{FitsLeg}
use Rattle.trace.proofs.alone.run_alone.Given as goal

abbrev pub invariant-loop-goes_on : goal.invariant-loop-goes_on
invariant-loop-goes_on l = record {
  same_end : ran_to l.program l.end l.core.timed ≡ ran_to l.program l.end l.initial.core.timed;
  tells : (number : ℕ) → untold_steps number l.way.items ++ steps_alone l.program l.end number l.core.timed ≡ untold_steps number l.initial.way.items ++ steps_alone l.program l.end number l.initial.core.timed;
  fits : All FitsLeg l.initial.way.items → All FitsLeg l.way.items;
  stopped : l.goes_on ≡ false → goes_on_alone l.end l.core.timed ≡ false;
  latest : latest_clock l.end l.core.timed ≤ latest_clock l.end l.initial.core.timed;
  no_more : most_accesses l.end l.core.timed ≤ most_accesses l.end l.initial.core.timed;
  number_is : l.core.number ≡ l.initial.core.number;
  memory : l.core.timed.core.memory ≡ l.initial.core.timed.core.memory;
  fetching : l.core.timed.core.fetching ≡ l.initial.core.timed.core.fetching;
  spare : l.core.spare ≡ l.initial.core.spare;
}

abbrev pub decreases-loop-goes_on : goal.decreases-loop-goes_on
decreases-loop-goes_on l = steps_left l.end l.core.timed + going l.goes_on
