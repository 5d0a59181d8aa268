-- those of the cores before this one are there
use Rattle.std.proofs.Common.{◌≡◌, map}
use Rattle.std.specs.List.{range_with_len}
use Rattle.bound_records.specs.Recorders.{no_records}
use Rattle.bound_records.proofs.recorder.empty_records.Given as goal

abbrev pub invariant-loop-core : goal.invariant-loop-core
invariant-loop-core l = l.records.items ≡ map (no_records l.machine.memory.base l.room) (range_with_len 0 l.core)
