use Rattle.std.proofs.Common.{sym, ◌∙◌}
use Rattle.mesi_dir.proofs.Calls.{zeros_are_nobody}
use Rattle.mesi_dir.proofs.directory.Directory.row.Goals as goal

pub returns-in-None-clause-row : goal.returns-in-None-clause-row
returns-in-None-clause-row c = zeros_are_nobody ∙ sym c.in-None.ensures.none
