use Rattle.std.proofs.Common.{refl}
use Rattle.std.specs.Fmt.{digits}
use Rattle.report.specs.ReportText.{console_line}
use Rattle.report_tests.proofs.lines.longest_console_line.Goals as goal

pub returns : goal.returns
unfolding console_line digits
returns c console long = rw long refl
