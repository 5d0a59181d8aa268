use Rattle.std.proofs.Common.{sym, ap, ◌∙◌}
use Rattle.cache_set.specs.declared.letter.Letter.{Letter}
use Rattle.cache_set.specs.declared.letter.Letter.TheVariants.{M, E}
use Rattle.shard.specs.BankSteps.{bank_with}
use Rattle.shard.specs.Seen.{no_home}
use Rattle.shard.specs.SharedStep.{copy_of, kept_with, ready_by}
use Rattle.shard.proofs.BankSteps.{has_copy, kept_by}
use Rattle.shard.proofs.shared.make_ready.Goals as goal

pub returns-in-M-clause-after : goal.returns-in-M-clause-after
returns-in-M-clause-after c =
    let p = bank_with c.args.home.now c.args.l1s.now in
    let is = sym c.requires.letter ∙ c.in-M.is in
    kept_by M c.args.home.now no_home c.args.l1s.now c.keep_at.new.l1s c.args.core c.args.line c.keep_at.ensures.after (has_copy (copy_of p c.args.core c.args.line) M (λ e. cc) is)
    ∙ sym (ap (λ (x : Letter). ready_by x c.args.write c.args.core c.args.line p) is)

pub returns-in-E-clause-after : goal.returns-in-E-clause-after
returns-in-E-clause-after c =
    let p = bank_with c.args.home.now c.args.l1s.now in
    let is = sym c.requires.letter ∙ c.in-E.is in
    kept_by c.letter_kept.result c.args.home.now no_home c.args.l1s.now c.keep_at-in-E.new.l1s c.args.core c.args.line c.keep_at-in-E.ensures.after (has_copy (copy_of p c.args.core c.args.line) E (λ e. cc) is)
    ∙ (ap (λ (x : Letter). kept_with x c.args.core c.args.line p) c.letter_kept.ensures ∙ sym (ap (λ (x : Letter). ready_by x c.args.write c.args.core c.args.line p) is))
