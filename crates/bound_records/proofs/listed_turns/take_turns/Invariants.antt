-- the turns of the places before this one were taken
use Rattle.std.proofs.Common.{◌≡◌, ◌-◌, ◌≤◌, ℕ, [], length, take}
use Rattle.bound_records.specs.CoreRuns.{phase_in}
use Rattle.bound_records.specs.Turns.{HaveTaken, time_by_net}
use Rattle.bound_records.proofs.listed_turns.take_turns.Given as goal

abbrev pub invariant-loop-place : goal.invariant-loop-place
invariant-loop-place l = record {
  way : (most : ℕ) → HaveTaken (time_by_net l.net) l.program l.end most l.initial.port.recorder (phase_in l.initial.cores l.initial.port.recorder) [] l.initial.cores l.initial.port.recorder
      → HaveTaken (time_by_net l.net) l.program l.end most l.initial.port.recorder (phase_in l.initial.cores l.initial.port.recorder) (take l.place l.turns) l.cores l.port.recorder;
  count : length l.cores ≡ length l.initial.cores;
  within : l.place ≤ length l.turns;
}

abbrev pub decreases-loop-place : goal.decreases-loop-place
decreases-loop-place l = length l.turns - l.place
