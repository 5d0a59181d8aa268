-- the run has come to where the first intervals of the schedule lead
use Rattle.std.proofs.Common.{◌≡◌, ◌≤◌, ◌-◌, ◌*◌, ◌^◌, length, take}
use Rattle.bound_records.specs.CoreRuns.{IsNetOf}
use Rattle.run.proofs.RunSoFar.{HasRun}
use Rattle.replay.proofs.replaying.replay_on.Given as goal

abbrev pub invariant-loop-alloc : goal.invariant-loop-alloc
invariant-loop-alloc l = record {
  run : HasRun l.machine l.program (take l.k l.schedule.lists) l.simulation;
  net : IsNetOf l.machine l.net;
  count : l.k ≤ length l.schedule.lists;
  end : l.end ≡ l.k * l.machine.interval;
  small : l.end ≤ 10000 * l.k;
  within : l.k ≤ l.machine.intervals;
  accesses : l.simulation.counters.accesses ≤ 2 ^ 26;
}

abbrev pub decreases-loop-alloc : goal.decreases-loop-alloc
decreases-loop-alloc l = length l.schedule.lists - l.k
