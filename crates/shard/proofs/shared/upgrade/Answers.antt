use Rattle.std.proofs.Common.{true, refl, sym, ap, ◌∙◌, subst}
use Rattle.std.specs.Prelude.{IsSome}
use Rattle.cache_set.specs.declared.letter.Letter.TheVariants.{S}
use Rattle.home.specs.HomeState.{HomeState, row_at}
use Rattle.home.specs.Rows.{line_in}
use Rattle.shard.specs.BankSteps.{CanLeave, bank_with}
use Rattle.shard.specs.Seen.{no_home}
use Rattle.shard.specs.SharedStep.{Bank, copy_of, left_by_others}
use Rattle.shard.proofs.BankReady.{came_up, row_some}
use Rattle.shard.proofs.BankSteps.{has_copy}
use Rattle.shard.proofs.LikeAsks.{for_leave, for_upgraded}
use Rattle.shard.proofs.shared.upgrade.Goals as goal

pub leave_others-requires : goal.leave_others-requires
leave_others-requires c =
    let there = row_some c.meet.result (row_at c.args.home.now c.args.line) c.in-Some.row c.meet.ensures.row c.in-Some.is in
    subst (λ (h : HomeState). CanLeave (bank_with h c.args.l1s.now) c.args.core c.args.line (line_in c.in-Some.row)) (sym c.in-Some.ensures.used)
    (for_leave (bank_with c.args.home.now c.args.l1s.now) c.args.core c.args.line true c.requires.touched (line_in c.in-Some.row) there)

pub keep_at-requires-clause-there : goal.keep_at-requires-clause-there
keep_at-requires-clause-there c =
    let p = bank_with c.args.home.now c.args.l1s.now in
    let there = row_some c.meet.result (row_at c.args.home.now c.args.line) c.in-Some.row c.meet.ensures.row c.in-Some.is in
    subst (λ (b : Bank). IsSome (copy_of b c.args.core c.args.line)) (sym (c.leave_others.ensures.after ∙ ap (λ (h : HomeState). left_by_others c.args.core c.args.line (line_in c.in-Some.row) (bank_with h c.args.l1s.now)) c.in-Some.ensures.used))
    (for_upgraded p c.args.core c.args.line true c.requires.touched (line_in c.in-Some.row) there refl c.requires.own (has_copy (copy_of p c.args.core c.args.line) S (λ e. cc) c.requires.own))

pub returns-in-Some-clause-after : goal.returns-in-Some-clause-after
returns-in-Some-clause-after c =
    let p = bank_with c.args.home.now c.args.l1s.now in
    let there = row_some c.meet.result (row_at c.args.home.now c.args.line) c.in-Some.row c.meet.ensures.row c.in-Some.is in
    let some = subst (λ (b : Bank). IsSome (copy_of b c.args.core c.args.line)) (sym (c.leave_others.ensures.after ∙ ap (λ (h : HomeState). left_by_others c.args.core c.args.line (line_in c.in-Some.row) (bank_with h c.args.l1s.now)) c.in-Some.ensures.used))
    (for_upgraded p c.args.core c.args.line true c.requires.touched (line_in c.in-Some.row) there refl c.requires.own (has_copy (copy_of p c.args.core c.args.line) S (λ e. cc) c.requires.own)) in
    came_up c.args.core c.args.line (line_in c.in-Some.row) c.args.home.now no_home c.args.l1s.now c.meet.new.self c.leave_others.new.home c.own.new.self c.leave_others.new.l1s c.keep_at.new.l1s there c.in-Some.ensures.used c.leave_others.ensures.after c.keep_at.ensures.after c.own.ensures some
