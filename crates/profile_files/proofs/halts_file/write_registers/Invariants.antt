-- what was written and the lines of the rest are all lines
use Rattle.std.proofs.Common.{◌≡◌, ◌++◌, string_bytes, drop}
use Rattle.report.specs.ReportText.{numbered_lines}
use Rattle.profile_files.specs.HaltsFile.{register_line}
use Rattle.profile_files.proofs.halts_file.write_registers.Given as goal

abbrev pub invariant-loop-n : goal.invariant-loop-n
invariant-loop-n l =
    string_bytes l.text ++ numbered_lines register_line l.n (drop l.n l.registers) ≡ string_bytes l.initial.text ++ numbered_lines register_line 0 l.registers
