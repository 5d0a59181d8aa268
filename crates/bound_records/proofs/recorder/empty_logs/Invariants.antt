-- those of the cores before this one are there
use Rattle.std.proofs.Common.{◌≡◌, map}
use Rattle.std.specs.List.{range_with_len}
use Rattle.bound_records.specs.Recorders.{no_log}
use Rattle.bound_records.proofs.recorder.empty_logs.Given as goal

abbrev pub invariant-loop-core : goal.invariant-loop-core
invariant-loop-core l = l.logs.items ≡ map (no_log l.banks l.room) (range_with_len 0 l.core)
