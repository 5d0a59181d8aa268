use Rattle.std.proofs.Common.{ℕ, List, sym, ap, ◌∙◌}
use Rattle.home.specs.Rows.{line_in}
use Rattle.mesi_dir.specs.CoreSets.{cores_in}
use Rattle.shard.specs.BankSteps.{bank_with}
use Rattle.shard.specs.SharedStep.{dirty_by, given_up_by, left_by_others}
use Rattle.shard.proofs.BankReady.{left_nowhere}
use Rattle.shard.proofs.BankSteps.{kept_dirty}
use Rattle.shard.proofs.shared.others.leave_others.Goals as goal

pub give_up-requires-clause-kept : goal.give_up-requires-clause-kept
give_up-requires-clause-kept c =
    kept_dirty c.args.line (cores_in c.remove.new.self.words) (bank_with c.args.home.now c.args.l1s.now) (bank_with c.dirty_by.new.home c.args.l1s.now) c.dirty_by.ensures c.requires.kept

pub returns-clause-after : goal.returns-clause-after
unfolding left_by_others
returns-clause-after c =
    c.give_up.ensures.after
    ∙ (ap (given_up_by c.args.line (cores_in c.remove.new.self.words)) c.dirty_by.ensures
    ∙ ap (λ (z : List ℕ). given_up_by c.args.line z (dirty_by c.args.line z (bank_with c.args.home.now c.args.l1s.now))) c.remove.ensures.cores)

pub returns-then-is_empty-clause-after : goal.returns-then-is_empty-clause-after
returns-then-is_empty-clause-after c =
    left_nowhere c.args.core c.args.line (line_in c.args.row) (bank_with c.args.home.now c.args.l1s.now) (sym c.remove.ensures.cores ∙ c.is_empty.ensures.cores.0 c.if-is_empty.true)
