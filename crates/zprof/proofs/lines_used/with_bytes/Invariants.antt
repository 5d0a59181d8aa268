-- the first rows have their bytes
use Rattle.std.proofs.Common.{ℕ, ◌≡◌, Some, length, slice_get}
use Rattle.profile_rows.specs.declared.line_row.LineRow.{LineRow}
use Rattle.zprof.specs.LinesUsed.{IsUsed}
use Rattle.zprof.proofs.lines_used.with_bytes.Given as goal

abbrev pub invariant-loop-row : goal.invariant-loop-row
invariant-loop-row l = record {
  count : length l.rows.items ≡ l.row-index;
  each : (n : ℕ) (before row : LineRow) → slice_get l.counted n ≡ Some before → slice_get l.rows.items n ≡ Some row → IsUsed l.uses before row;
}
