use Rattle.std.proofs.Common.{Bool, sym, ap, ◌∙◌}
use Rattle.cache_set.specs.declared.letter.Letter.TheVariants.{S}
use Rattle.shard.specs.BankSteps.{bank_with}
use Rattle.shard.specs.Seen.{no_home}
use Rattle.shard.specs.SharedStep.{copy_of, ready_where_shared}
use Rattle.shard.proofs.BankSteps.{has_copy, kept_by}
use Rattle.shard.proofs.shared.meet_copy.Goals as goal

pub keep_at-requires-clause-there : goal.keep_at-requires-clause-there
keep_at-requires-clause-there c = has_copy (copy_of (bank_with c.args.home.now c.args.l1s.now) c.args.core c.args.line) S (λ e. cc) c.requires.own

pub returns-else-write-clause-after : goal.returns-else-write-clause-after
returns-else-write-clause-after c =
    kept_by S c.args.home.now no_home c.args.l1s.now c.keep_at.new.l1s c.args.core c.args.line c.keep_at.ensures.after (has_copy (copy_of (bank_with c.args.home.now c.args.l1s.now) c.args.core c.args.line) S (λ e. cc) c.requires.own)
    ∙ sym (ap (λ (write : Bool). ready_where_shared write c.args.core c.args.line (bank_with c.args.home.now c.args.l1s.now)) c.if-write.false)
