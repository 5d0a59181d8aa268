-- what was written and the lines of the rest are all lines
use Rattle.std.proofs.Common.{◌≡◌, ◌++◌, string_bytes, drop}
use Rattle.std.specs.List.{flat_map}
use Rattle.profile_files.specs.HaltsFile.{jump_line}
use Rattle.profile_files.proofs.halts_file.write_jumps.Given as goal

abbrev pub invariant-loop-jump : goal.invariant-loop-jump
invariant-loop-jump l = string_bytes l.text ++ flat_map jump_line (drop l.jump-index l.jumps) ≡ string_bytes l.initial.text ++ flat_map jump_line l.jumps
