-- what is left to run leads to the same end
use Rattle.std.proofs.Common.{◌≡◌, ◌≤◌, ◌+◌, ◌-◌, ◌*◌, false, None}
use Rattle.rv_core.specs.Single.{begun_if, comes_to_next, met_by}
use Rattle.rv_core.specs.Step.{is_free}
use Rattle.reference.specs.TimedCore.{ran_to}
use Rattle.reference.specs.Ahead.{ahead, going}
use Rattle.bound_core.specs.Met.{begun_in_time}
use Rattle.bound_core.proofs.bounded.BoundCore.run_in_blocks.Given as goal

abbrev pub invariant-loop-did : goal.invariant-loop-did
invariant-loop-did g l =
    let image = g.P.Program.image l.program in
    record {
      free : comes_to_next l.did ≡ is_free (begun_if (met_by l.did) l.self.timed.core);
      fetching : l.self.timed.core.fetching ≡ false;
      unfetched : l.self.timed.core.is_fetched ≡ false;
      same_end : ran_to image l.end (begun_in_time (met_by l.did) (ahead l.counted l.self.timed)) ≡ ran_to image l.end l.initial.self.timed;
      few : l.counted ≤ l.cycles;
      cycles : l.cycles ≡ l.end - l.initial.self.timed.clock;
      clock : l.self.timed.clock ≡ l.initial.self.timed.clock;
      number : l.self.number ≡ l.initial.self.number;
      memory : l.self.timed.core.memory ≡ l.initial.self.timed.core.memory;
      spare : l.self.spare ≡ l.initial.self.spare;
      pace : l.self.timed.pace ≡ None;
    }

abbrev pub decreases-loop-did : goal.decreases-loop-did
decreases-loop-did g l = 2 * (l.cycles - l.counted) + going (comes_to_next l.did)
