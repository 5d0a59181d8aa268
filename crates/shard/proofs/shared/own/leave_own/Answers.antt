use Rattle.std.proofs.Common.{ℕ, Bool, Option, cond, refl, sym, ap, ◌∙◌}
use Rattle.cache_set.specs.declared.letter.Letter.{Letter}
use Rattle.home.specs.HomeState.{dropped_in, marked_dirty_in, with_bytes_at}
use Rattle.l1_cache.specs.L1State.{copy_at}
use Rattle.shard.specs.BankSteps.{left_home}
use Rattle.shard.specs.SharedStep.{bytes_of}
use Rattle.shard.proofs.BankSteps.{kept_clean, kept_modified, letter_old}
use Rattle.shard.proofs.shared.own.leave_own.Goals as goal

pub returns-in-M-clause-kept : goal.returns-in-M-clause-kept
returns-in-M-clause-kept c =
    kept_modified c.args.home.now c.write_back.new.home (marked_dirty_in c.in-Some.evicted c.write_back.new.home) c.drop_writer.new.self c.in-Some.evicted c.args.core c.args.line _ c.write_back.ensures.after c.write_back.ensures.long refl
    c.drop_writer.ensures c.requires.kept

pub returns-in_default-letter-clause-kept : goal.returns-in_default-letter-clause-kept
returns-in_default-letter-clause-kept c =
    kept_clean c.args.home.now c.drop_core.new.self c.in-Some.evicted c.args.core c.args.line c.drop_core.ensures c.requires.kept

pub returns-in_default-letter-clause-after : goal.returns-in_default-letter-clause-after
returns-in_default-letter-clause-after c =
    let home = c.args.home.now in
    let evicted = c.in-Some.evicted in
    let bytes = bytes_of (copy_at c.args.l1.now c.args.line) in
    c.drop_core.ensures
    ∙ (ap (λ (b : Bool). dropped_in evicted c.args.core (cond b (marked_dirty_in evicted (with_bytes_at evicted bytes home)) home)) (sym (letter_old c.in-Some.letter c.in_default-letter.not-M))
    ∙ sym (ap (λ (o : Option (ℕ × Letter)). left_home o c.args.core bytes home) c.in-Some.is))
