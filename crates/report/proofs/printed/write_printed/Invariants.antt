-- what was written and what is left to print are all of it
use Rattle.std.proofs.Common.{◌≡◌, ◌++◌, string_bytes, drop}
use Rattle.report.specs.ReportText.{printed}
use Rattle.report.proofs.printed.write_printed.Given as goal

abbrev pub invariant-loop-byte : goal.invariant-loop-byte
invariant-loop-byte l =
    string_bytes l.text ++ printed (drop l.byte-index l.bytes) ≡ string_bytes l.initial.text ++ printed l.bytes
