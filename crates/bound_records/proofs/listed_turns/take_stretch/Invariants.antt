-- so many turns of the core were taken
use Rattle.std.proofs.Common.{◌≡◌, ◌-◌, ◌≤◌, ◌++◌, ℕ, List, length}
use Rattle.std.specs.Prelude.{replicate}
use Rattle.bound_core.specs.ReferenceMachine.{BoundState}
use Rattle.bound_core.specs.ShardWorld.{ShardWorld}
use Rattle.bound_records.specs.Recorders.{RecorderState}
use Rattle.bound_records.specs.Turns.{HaveTaken, time_by_net}
use Rattle.bound_records.proofs.listed_turns.take_stretch.Given as goal

abbrev pub invariant-loop-taken : goal.invariant-loop-taken
invariant-loop-taken l = record {
  way : (most : ℕ) (r : RecorderState) (first : BoundState ShardWorld) (turns : List ℕ) → HaveTaken (time_by_net l.net) l.program l.end most r first turns l.initial.cores l.initial.port.recorder
      → HaveTaken (time_by_net l.net) l.program l.end most r first (turns ++ replicate l.taken l.number) l.cores l.port.recorder;
  few : l.taken ≤ l.count;
  count : length l.cores ≡ length l.initial.cores;
}

abbrev pub decreases-loop-taken : goal.decreases-loop-taken
decreases-loop-taken l = l.count - l.taken
