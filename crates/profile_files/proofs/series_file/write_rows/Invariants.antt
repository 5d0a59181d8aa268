-- what was written and the lines of the rest are all lines
use Rattle.std.proofs.Common.{◌≡◌, ◌++◌, string_bytes, drop}
use Rattle.std.specs.List.{flat_map}
use Rattle.profile_files.specs.SeriesFile.{series_row}
use Rattle.profile_files.proofs.series_file.write_rows.Given as goal

abbrev pub invariant-loop-row : goal.invariant-loop-row
invariant-loop-row l = string_bytes l.text ++ flat_map series_row (drop l.row-index l.rows) ≡ string_bytes l.initial.text ++ flat_map series_row l.rows
