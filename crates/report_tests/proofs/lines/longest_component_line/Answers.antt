use Rattle.std.proofs.Common.{refl}
use Rattle.std.specs.Fmt.{digits}
use Rattle.report.specs.ReportText.{component_line}
use Rattle.report_tests.proofs.lines.longest_component_line.Goals as goal

pub returns : goal.returns
unfolding component_line digits
returns c = refl
