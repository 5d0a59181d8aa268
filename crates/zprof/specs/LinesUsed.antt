-- The rows of lines with the bytes that were used.
use Rattle.std.specs.Prelude.{◌≡◌, ℕ, List, length, Some, slice_get}
use Rattle.line_use.specs.Bytes.{HasBits}
use Rattle.line_use.specs.Uses.{is_read, is_written}
use Rattle.profile.specs.Listed.{AreLineRows}
use Rattle.profile.specs.Profiled.{Profiled}
use Rattle.profile_rows.specs.declared.line_row.LineRow.{LineRow}
use Rattle.trace.specs.Trace.{Step}

-- what was counted of a core's accesses to a line, and which bytes of it these steps read and wrote
pub record IsUsed (steps : List Step) (counted : LineRow) (row : LineRow) : Type 0 where
  pub line_is : row.line ≡ counted.line
  pub core_is : row.core ≡ counted.core
  pub tally_is : row.tally ≡ counted.tally
  pub read_are : HasBits row.read (is_read steps counted.core counted.line)
  pub written_are : HasBits row.written (is_written steps counted.core counted.line)

-- the rows of a profile, with the bytes of each
pub record AreLinesUsed (p : Profiled) (rows : List LineRow) : Type 0 where
  pub counted : List LineRow
  pub counted_are : AreLineRows p counted
  pub count : length rows ≡ length counted
  pub each : (n : ℕ) (before row : LineRow) → slice_get counted n ≡ Some before → slice_get rows n ≡ Some row → IsUsed p.steps before row
