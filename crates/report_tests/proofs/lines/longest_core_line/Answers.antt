use Rattle.std.proofs.Common.{refl}
use Rattle.std.specs.Fmt.{digits}
use Rattle.report.specs.ReportText.{core_line, count_text, halt_text}
use Rattle.report_tests.proofs.lines.longest_core_line.Goals as goal

pub returns : goal.returns
unfolding core_line count_text halt_text digits
returns c core three clock exit = rw (three, clock, exit) refl
