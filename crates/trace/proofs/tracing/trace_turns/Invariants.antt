-- the run has come to where the intervals of the schedule lead, each of which went core after core, and their steps were
-- told
use Rattle.std.proofs.Common.{◌≡◌, ◌≤◌, ◌-◌, ◌*◌, ◌^◌, All, length}
use Rattle.bound_records.specs.CoreRuns.{IsNetOf}
use Rattle.trace.specs.EachCore.{IsCoreAfterCore}
use Rattle.trace.specs.TracedRun.{as_run}
use Rattle.trace.proofs.MachineSteps.{HasTold}
use Rattle.trace.proofs.tracing.trace_turns.Given as goal

abbrev pub invariant-loop-alloc : goal.invariant-loop-alloc
invariant-loop-alloc g l = record {
  so_far : HasTold l.machine l.program l.schedule.lists (as_run l.machine l.run) (g.T.Tracer.steps l.initial.tracer) (g.T.Tracer.steps l.tracer);
  in_turn : All IsCoreAfterCore l.schedule.lists;
  net : IsNetOf l.machine l.net;
  lists : length l.untold.items ≡ l.machine.cores;
  cores : l.schedule.cores ≡ l.initial.schedule.cores;
  count : length l.schedule.lists ≡ l.k;
  end : l.end ≡ l.k * l.machine.interval;
  small : l.end ≤ 10000 * l.k;
  within : l.k ≤ l.machine.intervals;
  accesses : l.run.counters.accesses ≤ 2 ^ 26;
  fixed : g.T.Tracer.fixed l.tracer ≡ g.T.Tracer.fixed l.initial.tracer;
}

abbrev pub decreases-loop-alloc : goal.decreases-loop-alloc
decreases-loop-alloc g l = l.machine.intervals - l.k
