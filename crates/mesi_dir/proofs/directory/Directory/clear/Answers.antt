use Rattle.std.proofs.Common.{◌∙◌}
use Rattle.mesi_dir.proofs.Calls.{zeros_are_nobody, zeros_are_sharing, zeros_are_not_shared}
use Rattle.mesi_dir.proofs.directory.Directory.clear.Goals as goal

pub set_row-requires-clause-sharing : goal.set_row-requires-clause-sharing
set_row-requires-clause-sharing c = zeros_are_sharing c.args.self.now.cores

pub set_row-requires-clause-room : goal.set_row-requires-clause-room
set_row-requires-clause-room c core h = let none = zeros_are_not_shared core in absurd cc

pub returns-clause-line : goal.returns-clause-line
returns-clause-line c = c.set_row.ensures.line ∙ zeros_are_nobody
