-- what was written and the lines of the rest are all lines
use Rattle.std.proofs.Common.{◌≡◌, ◌++◌, string_bytes, drop, map}
use Rattle.std.specs.List.{flat_map}
use Rattle.profile_files.specs.Groups.{rows_of}
use Rattle.profile_files.specs.LinesFile.{line_row}
use Rattle.profile_files.proofs.lines_file.write_groups.Given as goal

abbrev pub invariant-loop-group : goal.invariant-loop-group
invariant-loop-group l =
    string_bytes l.text ++ flat_map (flat_map line_row) (map (rows_of l.rows) (drop l.group-index l.groups))
    ≡ string_bytes l.initial.text ++ flat_map (flat_map line_row) (map (rows_of l.rows) l.groups)
