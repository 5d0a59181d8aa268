-- the cores before this one ended their interval, and were told; no turn was taken
use Rattle.std.proofs.Common.{◌≡◌, ◌<◌, ◌++◌, ℕ, List, drop, Some}
use Rattle.std.specs.Prelude.{slice_get}
use Rattle.bound_core.specs.ReferenceMachine.{BoundState}
use Rattle.bound_core.specs.ShardWorld.{ShardWorld}
use Rattle.bound_core.specs.NumberedCores.{NumberedCore, timed_of}
use Rattle.bound_core.specs.Turn.{IsOver}
use Rattle.trace.specs.Trace.{last_from}
use Rattle.trace.specs.Turns.{HaveTaken}
use Rattle.bound_records.specs.Turns.{time_by_net}
use Rattle.trace.proofs.turns.end_all.Given as goal

abbrev pub invariant-loop-number : goal.invariant-loop-number
invariant-loop-number g l = record {
  way : (most : ℕ) (first : BoundState ShardWorld) (turns : List ℕ) → HaveTaken (time_by_net l.net) l.program l.end most first turns l.initial.cores l.initial.port
      → HaveTaken (time_by_net l.net) l.program l.end most first turns l.cores l.port;
  over : (i : ℕ) (c : NumberedCore) → i < l.number → slice_get l.cores i ≡ Some c → IsOver l.end c.timed;
  told : g.T.Tracer.steps l.tracer ++ last_from l.program l.end l.number (drop l.number (timed_of l.cores)) ≡ g.T.Tracer.steps l.initial.tracer ++ last_from l.program l.end 0 (timed_of l.initial.cores);
  fixed : g.T.Tracer.fixed l.tracer ≡ g.T.Tracer.fixed l.initial.tracer;
}
