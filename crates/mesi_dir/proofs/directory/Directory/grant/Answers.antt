use Rattle.mesi_dir.proofs.Calls.{granted_sharing, granted_sharers, then_some-if}
use Rattle.mesi_dir.proofs.directory.Directory.grant.Goals as goal

pub set_row-requires-clause-sharing : goal.set_row-requires-clause-sharing
set_row-requires-clause-sharing c =
    rw (c.then_some-row.ensures, then_some-if c.args.own c.args.core)
    (granted_sharing c.args.self.now c.args.line c.row-row.result.sharers.words c.row-row.result.owner c.row-row.ensures.row c.row-row.ensures.is_map c.args.core c.requires.core c.add.new.self.words c.add.ensures.each c.args.own c.requires.alone)

pub returns-clause-sharers : goal.returns-clause-sharers
returns-clause-sharers c =
    granted_sharers c.args.self.now c.args.line c.row-row.result.sharers.words c.row-row.result.owner c.row-row.ensures.row c.row-row.ensures.is_map c.args.core c.requires.core c.add.new.self.words c.add.ensures.each c.set_row.new.self c.then_some-row.result c.set_row.ensures.line
