use Rattle.report.proofs.Consoles.{printed_apart}
use Rattle.report.proofs.laws.consoles_are_printed_apart.Goals as goal

pub returns : goal.returns
returns c = printed_apart
