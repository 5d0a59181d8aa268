-- what is left to run leads to the same end
use Rattle.std.proofs.Common.{◌≡◌, ◌≤◌, ◌+◌, ◌-◌, ◌*◌, IsTrue, max}
use Rattle.rv_core.specs.Step.{is_free}
use Rattle.reference.specs.TimedCore.{ran_to}
use Rattle.reference.specs.Ahead.{going}
use Rattle.bound_core.proofs.bounded.BoundCore.run_paced.Given as goal

abbrev pub invariant-loop-self : goal.invariant-loop-self
invariant-loop-self g l =
    let image = g.P.Program.image l.program in
    let most = max l.initial.self.timed.clock l.end in
    record {
      same_end : ran_to image l.end l.self.timed ≡ ran_to image l.end l.initial.self.timed;
      clock : l.self.timed.clock ≤ most + 192;
      fetched : IsTrue l.self.timed.core.is_fetched → l.self.timed.clock ≤ most;
      number : l.self.number ≡ l.initial.self.number;
      memory : l.self.timed.core.memory ≡ l.initial.self.timed.core.memory;
      fetching : l.self.timed.core.fetching ≡ l.initial.self.timed.core.fetching;
      spare : l.self.spare ≡ l.initial.self.spare;
    }

abbrev pub decreases-loop-self : goal.decreases-loop-self
decreases-loop-self g l = 2 * (l.end - l.self.timed.clock) + (going (is_free l.self.timed.core) + going l.self.timed.core.is_fetched)
