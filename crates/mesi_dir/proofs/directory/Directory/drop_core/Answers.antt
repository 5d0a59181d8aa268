use Rattle.std.proofs.Common.{inl}
use Rattle.mesi_dir.proofs.Calls.{dropped_sharing, dropped_sharers, dropped_from}
use Rattle.mesi_dir.proofs.directory.Directory.drop_core.Goals as goal

pub set_row-requires-clause-sharing : goal.set_row-requires-clause-sharing
set_row-requires-clause-sharing c =
    rw c.owner_without-row.ensures
    (dropped_sharing c.args.self.now c.args.line c.row-row.result.sharers.words c.row-row.result.owner c.row-row.ensures.row c.row-row.ensures.is_map c.args.core c.requires c.remove.new.self.words c.remove.ensures.each)

pub set_row-requires-clause-room : goal.set_row-requires-clause-room
set_row-requires-clause-room c x h =
    inl (x, dropped_from c.args.self.now c.args.line c.row-row.result.sharers.words c.row-row.result.owner c.row-row.ensures.row c.row-row.ensures.is_map c.args.core c.requires c.remove.new.self.words c.remove.ensures.each c.owner_without-row.result x h)

pub returns-clause-sharers : goal.returns-clause-sharers
returns-clause-sharers c =
    dropped_sharers c.args.self.now c.args.line c.row-row.result.sharers.words c.row-row.result.owner c.row-row.ensures.row c.row-row.ensures.is_map c.args.core c.requires c.remove.new.self.words c.remove.ensures.each c.set_row.new.self c.owner_without-row.result c.set_row.ensures.line
