-- the turns of the places before this one were taken, and were told
use Rattle.std.proofs.Common.{◌≡◌, ◌-◌, ◌≤◌, ◌++◌, ℕ, List, [], length, take}
use Rattle.bound_core.specs.ShardWorld.{shards_serve}
use Rattle.trace.specs.Port.{leaves_shards, phase_of}
use Rattle.trace.specs.Trace.{phase_steps}
use Rattle.trace.specs.Turns.{HaveTaken}
use Rattle.bound_records.specs.Turns.{time_by_net}
use Rattle.trace.proofs.turns.take_turns.Given as goal

abbrev pub invariant-loop-place : goal.invariant-loop-place
invariant-loop-place g l = record {
  way : (most : ℕ) → HaveTaken (time_by_net l.net) l.program l.end most (phase_of l.initial.cores l.initial.port) [] l.initial.cores l.initial.port
      → HaveTaken (time_by_net l.net) l.program l.end most (phase_of l.initial.cores l.initial.port) (take l.place l.turns) l.cores l.port;
  told : (rest : List ℕ) → g.T.Tracer.steps l.tracer ++ phase_steps shards_serve leaves_shards l.program l.end (time_by_net l.net) rest (phase_of l.cores l.port)
      ≡ g.T.Tracer.steps l.initial.tracer ++ phase_steps shards_serve leaves_shards l.program l.end (time_by_net l.net) (take l.place l.turns ++ rest) (phase_of l.initial.cores l.initial.port);
  count : length l.cores ≡ length l.initial.cores;
  within : l.place ≤ length l.turns;
  fixed : g.T.Tracer.fixed l.tracer ≡ g.T.Tracer.fixed l.initial.tracer;
}

abbrev pub decreases-loop-place : goal.decreases-loop-place
decreases-loop-place g l = length l.turns - l.place
