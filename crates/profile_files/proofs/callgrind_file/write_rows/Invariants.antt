-- what was written and the lines of the rest are all lines
use Rattle.std.proofs.Common.{◌≡◌, ◌++◌, None, string_bytes, drop}
use Rattle.profile_files.specs.CallgrindFile.{address_lines}
use Rattle.profile_files.proofs.callgrind_file.write_rows.Given as goal

abbrev pub invariant-loop-row : goal.invariant-loop-row
invariant-loop-row l = string_bytes l.text ++ address_lines l.before (drop l.row-index l.rows) ≡ string_bytes l.initial.text ++ address_lines None l.rows
