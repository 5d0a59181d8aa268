-- the run has come to where the intervals of the schedule and those that wait behind them lead, and all are kept in order
use Rattle.std.proofs.Common.{All, ◌≡◌, ◌≤◌, ◌-◌, ◌+◌, ◌*◌, ◌^◌, ◌++◌, length}
use Rattle.std.specs.Prelude.{vec_len}
use Rattle.run.specs.Recording.{IsRecordingOf, is_on}
use Rattle.run.specs.Waiting.{IsTurnList, lists_in}
use Rattle.run.proofs.FirstParts.{AreFirstsKept}
use Rattle.run.proofs.RunSoFar.{HasRunInOrder}
use Rattle.run.proofs.running.run_on.Given as goal

abbrev pub invariant-loop-pace : goal.invariant-loop-pace
invariant-loop-pace g l = record {
  ran : HasRunInOrder l.context.machine.now l.context.program.now (l.schedule.lists ++ lists_in l.waiting) l.simulation;
  firsts : AreFirstsKept l.context.machine.now l.context.program.now (l.schedule.lists ++ lists_in l.waiting);
  waiting : vec_len l.waiting.orders ≤ length l.posts + 1;
  turns : All (IsTurnList l.schedule.cores) (lists_in l.waiting);
  pace : l.pace ≤ 64;
  enough : l.pace ≤ length l.posts + 1;
  askers : l.askers ≡ l.initial.askers;
  count : length (l.schedule.lists ++ lists_in l.waiting) ≡ l.k;
  end : l.end ≡ l.k * l.context.machine.now.interval;
  small : l.end ≤ 10000 * l.k;
  within : l.k ≤ l.context.machine.now.intervals;
  accesses : l.simulation.counters.accesses ≤ 2 ^ 26;
  cores : l.schedule.cores ≡ l.initial.schedule.cores;
  recorded : IsRecordingOf l.context.machine.now ran.run.state.intervals l.recording;
  on : is_on l.recording ≡ is_on l.initial.recording;
}

abbrev pub decreases-loop-pace : goal.decreases-loop-pace
decreases-loop-pace g l = l.context.machine.now.intervals - l.k
