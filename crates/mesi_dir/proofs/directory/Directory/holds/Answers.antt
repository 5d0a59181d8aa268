use Rattle.std.proofs.Common.{sym, ◌∙◌}
use Rattle.mesi_dir.proofs.Calls.{sharer_is}
use Rattle.mesi_dir.proofs.directory.Directory.holds.Goals as goal

pub returns-in-Some-clause-value : goal.returns-in-Some-clause-value
returns-in-Some-clause-value c =
    c.has.ensures ∙ sym (sharer_is c.args.self.now c.args.line c.in-Some.row.now.sharers.words c.in-Some.row.now.owner c.in-Some.ensures.some c.args.core)
