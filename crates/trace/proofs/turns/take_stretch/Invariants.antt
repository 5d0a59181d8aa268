-- so many turns of the core were taken, and were told
use Rattle.std.proofs.Common.{◌≡◌, ◌-◌, ◌≤◌, ◌++◌, ℕ, List, length}
use Rattle.std.specs.Prelude.{replicate}
use Rattle.bound_core.specs.ReferenceMachine.{BoundState}
use Rattle.bound_core.specs.ShardWorld.{ShardWorld, shards_serve}
use Rattle.bound_records.specs.Turns.{time_by_net}
use Rattle.trace.specs.Port.{leaves_shards, phase_of}
use Rattle.trace.specs.Trace.{phase_steps}
use Rattle.trace.specs.Turns.{HaveTaken}
use Rattle.trace.proofs.turns.take_stretch.Given as goal

abbrev pub invariant-loop-taken : goal.invariant-loop-taken
invariant-loop-taken g l = record {
  way : (most : ℕ) (first : BoundState ShardWorld) (turns : List ℕ) → HaveTaken (time_by_net l.net) l.program l.end most first turns l.initial.cores l.initial.port
      → HaveTaken (time_by_net l.net) l.program l.end most first (turns ++ replicate l.taken l.number) l.cores l.port;
  told : (rest : List ℕ) → g.T.Tracer.steps l.tracer ++ phase_steps shards_serve leaves_shards l.program l.end (time_by_net l.net) rest (phase_of l.cores l.port)
      ≡ g.T.Tracer.steps l.initial.tracer ++ phase_steps shards_serve leaves_shards l.program l.end (time_by_net l.net) (replicate l.taken l.number ++ rest) (phase_of l.initial.cores l.initial.port);
  few : l.taken ≤ l.count;
  count : length l.cores ≡ length l.initial.cores;
  fixed : g.T.Tracer.fixed l.tracer ≡ g.T.Tracer.fixed l.initial.tracer;
}

abbrev pub decreases-loop-taken : goal.decreases-loop-taken
decreases-loop-taken g l = l.count - l.taken
