use Rattle.std.proofs.Common.{sym, ◌∙◌}
use Rattle.mesi_dir.proofs.Calls.{sharer_is}
use Rattle.mesi_dir.proofs.directory.Directory.any_other.Goals as goal

pub returns-clause-value : goal.returns-clause-value
returns-clause-value c =
    let sharer = sharer_is c.args.self.now c.args.line c.row.result.sharers.words c.row.result.owner c.row.ensures.row in (
      λ some. let other = c.any_other.ensures.0 some in (other.0, other.1, sharer other.0 ∙ other.2),
      λ other. c.any_other.ensures.1 (other.0, other.1, sym (sharer other.0) ∙ other.2),
    )
