-- what is left to run leads to the same end
use Rattle.std.proofs.Common.{◌≡◌, ◌≤◌, ◌+◌, ◌-◌, ◌*◌, false, None, IsTrue}
use Rattle.rv_core.specs.Single.{begun_if, comes_to_next, met_by}
use Rattle.rv_core.specs.Step.{is_free}
use Rattle.reference.specs.TimedCore.{ran_to}
use Rattle.reference.specs.Ahead.{ahead, going}
use Rattle.bound_core.specs.Met.{begun_in_time}
use Rattle.bound_core.proofs.bounded.BoundCore.run_on.Given as goal

abbrev pub invariant-loop-self : goal.invariant-loop-self
invariant-loop-self g l =
    let image = g.P.Program.image l.program in
    record {
      free : comes_to_next l.did ≡ is_free (begun_if (met_by l.did) l.self.timed.core);
      fetching : IsTrue l.self.timed.core.fetching;
      unfetched : l.self.timed.core.is_fetched ≡ false;
      same_end : ran_to image l.end (begun_in_time (met_by l.did) (ahead l.counted l.self.timed)) ≡ ran_to image l.end l.fn.self.timed;
      nearer : 2 * (l.most - l.counted) + going (comes_to_next l.did) ≤ 2 * l.most + going (is_free l.fn.self.timed.core);
      few : l.counted ≤ l.most;
      most : l.most ≡ l.end - l.fn.self.timed.clock;
      clock : l.self.timed.clock ≡ l.fn.self.timed.clock;
      number : l.self.number ≡ l.fn.self.number;
      memory : l.self.timed.core.memory ≡ l.fn.self.timed.core.memory;
      spare : l.self.spare ≡ l.fn.self.spare;
      pace : l.self.timed.pace ≡ None;
    }

abbrev pub decreases-loop-self : goal.decreases-loop-self
decreases-loop-self g l = 2 * (l.most - l.counted) + going (comes_to_next l.did)
