use Rattle.std.proofs.Common.{ap, ◌∙◌}
use Rattle.home.specs.Rows.{line_in}
use Rattle.mesi_dir.specs.CoreSets.{cores_in}
use Rattle.shard.specs.BankSteps.{bank_with}
use Rattle.shard.specs.SharedStep.{shared_by}
use Rattle.shard.proofs.BankSteps.{kept_dirty, shared_nowhere, shared_where}
use Rattle.shard.proofs.shared.others.share_others.Goals as goal

pub share-requires-clause-kept : goal.share-requires-clause-kept
share-requires-clause-kept c =
    kept_dirty c.args.line (cores_in c.args.row.sharers.words) (bank_with c.args.home.now c.args.l1s.now) (bank_with c.dirty_by.new.home c.args.l1s.now) c.dirty_by.ensures c.requires.kept

pub returns-then-row-clause-after : goal.returns-then-row-clause-after
returns-then-row-clause-after c =
    c.share.ensures.after
    ∙ (ap (shared_by c.args.line (cores_in c.args.row.sharers.words)) c.dirty_by.ensures ∙ shared_where c.args.line (line_in c.args.row) (bank_with c.args.home.now c.args.l1s.now) c.if-row.true)

pub returns-else-row-clause-after : goal.returns-else-row-clause-after
returns-else-row-clause-after c = shared_nowhere c.args.line (line_in c.args.row) (bank_with c.args.home.now c.args.l1s.now) c.if-row.false
