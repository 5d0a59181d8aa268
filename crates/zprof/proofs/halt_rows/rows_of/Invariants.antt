-- the first cores have their rows
use Rattle.std.proofs.Common.{ℕ, ◌≡◌, Some, length, map, slice_get}
use Rattle.profile_rows.specs.declared.halt_row.HaltRow.{HaltRow}
use Rattle.reference.specs.TimedCore.{TimedCore}
use Rattle.zprof.specs.HaltRows.{IsHaltRow}
use Rattle.zprof.proofs.halt_rows.rows_of.Given as goal

abbrev pub invariant-loop-core : goal.invariant-loop-core
invariant-loop-core l = record {
  count : length l.rows.items ≡ l.core-index;
  each : (n : ℕ) (c : TimedCore) (row : HaltRow) → slice_get (map (λ c. c.timed) l.cores) n ≡ Some c → slice_get l.rows.items n ≡ Some row → IsHaltRow l.jumps n c row;
}
