-- what is left to run leads to the same end
use Rattle.std.proofs.Common.{◌≡◌, ◌≤◌, ◌+◌, ◌-◌, ◌*◌, IsTrue, None, max}
use Rattle.rv_core.specs.Single.{begun_if}
use Rattle.rv_core.specs.Step.{is_free}
use Rattle.reference.specs.TimedCore.{ran_to}
use Rattle.reference.specs.Ahead.{going}
use Rattle.bound_core.specs.Met.{begun_in_time}
use Rattle.bound_core.proofs.bounded.BoundCore.run_past_line.Given as goal

abbrev pub invariant-loop-self : goal.invariant-loop-self
invariant-loop-self g l =
    let image = g.P.Program.image l.program in
    record {
      same_end : ran_to image l.end (begun_in_time l.met l.self.timed) ≡ ran_to image l.end l.initial.self.timed;
      fetching : IsTrue l.self.timed.core.fetching;
      clock : l.self.timed.clock ≤ max l.initial.self.timed.clock l.end + 1;
      fetched : IsTrue l.self.timed.core.is_fetched → l.self.timed.clock ≤ max l.initial.self.timed.clock l.end;
      number : l.self.number ≡ l.initial.self.number;
      memory : l.self.timed.core.memory ≡ l.initial.self.timed.core.memory;
      spare : l.self.spare ≡ l.initial.self.spare;
      pace : l.self.timed.pace ≡ None;
    }

abbrev pub decreases-loop-self : goal.decreases-loop-self
decreases-loop-self g l = 2 * (l.end - l.self.timed.clock) + (going (is_free (begun_if l.met l.self.timed.core)) + going l.self.timed.core.is_fetched)
