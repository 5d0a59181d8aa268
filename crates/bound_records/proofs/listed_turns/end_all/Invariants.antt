-- the cores before this one ended their interval, and no turn was taken
use Rattle.std.proofs.Common.{◌≡◌, ◌<◌, ℕ, List, Some}
use Rattle.std.specs.Prelude.{slice_get}
use Rattle.bound_core.specs.ReferenceMachine.{BoundState}
use Rattle.bound_core.specs.ShardWorld.{ShardWorld}
use Rattle.bound_core.specs.NumberedCores.{NumberedCore}
use Rattle.bound_core.specs.Turn.{IsOver}
use Rattle.bound_records.specs.Recorders.{RecorderState}
use Rattle.bound_records.specs.Turns.{HaveTaken, time_by_net}
use Rattle.bound_records.proofs.listed_turns.end_all.Given as goal

abbrev pub invariant-loop-number : goal.invariant-loop-number
invariant-loop-number l = record {
  way : (most : ℕ) (r : RecorderState) (first : BoundState ShardWorld) (turns : List ℕ) → HaveTaken (time_by_net l.net) l.program l.end most r first turns l.initial.cores l.initial.port.recorder
      → HaveTaken (time_by_net l.net) l.program l.end most r first turns l.cores l.port.recorder;
  over : (i : ℕ) (c : NumberedCore) → i < l.number → slice_get l.cores i ≡ Some c → IsOver l.end c.timed;
}
