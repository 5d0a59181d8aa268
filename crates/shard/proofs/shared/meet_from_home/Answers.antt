use Rattle.std.proofs.Common.{sym, ap, ◌∙◌, subst}
use Rattle.home.specs.HomeState.{HomeState}
use Rattle.shard.specs.BankSteps.{bank_with}
use Rattle.shard.specs.SharedStep.{bank_after, bank_reply, met_at_bank, shared_after, shared_reply}
use Rattle.shard.specs.Touched.{HasTouched}
use Rattle.shard.proofs.BankAway.{away_shared}
use Rattle.shard.proofs.BankMet.{reply_is, shared_is}
use Rattle.shard.proofs.shared.meet_from_home.Goals as goal

pub meet_shared-requires-clause-touched : goal.meet_shared-requires-clause-touched
meet_shared-requires-clause-touched c =
    subst (λ (h : HomeState). HasTouched (bank_with h c.args.l1s.now) c.args.core c.args.request) (sym c.is_away-away.ensures.same) c.requires.touched

pub meet_shared-requires-clause-shared : goal.meet_shared-requires-clause-shared
meet_shared-requires-clause-shared c =
    let away = c.is_away-away.ensures in
    away_shared (bank_with c.args.home.now c.args.l1s.now) c.args.core c.args.request c.requires.touched (away.reads c.if-away.true) (away.letter c.if-away.true)

pub meet_shared-requires-clause-away : goal.meet_shared-requires-clause-away
meet_shared-requires-clause-away c _ = c.is_away-away.ensures.letter c.if-away.true

pub returns-then-away-clause-after : goal.returns-then-away-clause-after
returns-then-away-clause-after c =
    let q = bank_with c.args.home.now c.args.l1s.now in
    let away = c.is_away-away.ensures in
    let shared = away_shared q c.args.core c.args.request c.requires.touched (away.reads c.if-away.true) (away.letter c.if-away.true) in
    c.meet_shared.ensures.after ∙ ap (λ (h : HomeState). shared_after (bank_with h c.args.l1s.now) c.args.core c.args.request) away.same ∙ shared_is q c.args.core c.args.request shared

pub returns-then-away-clause-reply : goal.returns-then-away-clause-reply
returns-then-away-clause-reply c =
    let q = bank_with c.args.home.now c.args.l1s.now in
    let away = c.is_away-away.ensures in
    let shared = away_shared q c.args.core c.args.request c.requires.touched (away.reads c.if-away.true) (away.letter c.if-away.true) in
    c.meet_shared.ensures.reply ∙ ap (λ (h : HomeState). shared_reply (bank_with h c.args.l1s.now) c.args.core c.args.request) away.same ∙ reply_is q c.args.core c.args.request shared

pub returns-then-away-clause-outcome : goal.returns-then-away-clause-outcome
returns-then-away-clause-outcome c =
    c.meet_shared.ensures.outcome ∙ ap (λ (h : HomeState). met_at_bank (bank_with h c.args.l1s.now) c.args.core c.args.request) c.is_away-away.ensures.same

pub meet-requires : goal.meet-requires
meet-requires c =
    record { touched = subst (λ (h : HomeState). HasTouched (bank_with h c.args.l1s.now) c.args.core c.args.request) (sym c.is_away-away.ensures.same) c.requires.touched }

pub returns-clause-after : goal.returns-clause-after
returns-clause-after c = c.meet.ensures.after ∙ ap (λ (h : HomeState). bank_after (bank_with h c.args.l1s.now) c.args.core c.args.request) c.is_away-away.ensures.same

pub returns-clause-reply : goal.returns-clause-reply
returns-clause-reply c = c.meet.ensures.reply ∙ ap (λ (h : HomeState). bank_reply (bank_with h c.args.l1s.now) c.args.core c.args.request) c.is_away-away.ensures.same

pub returns-clause-outcome : goal.returns-clause-outcome
returns-clause-outcome c = c.meet.ensures.outcome ∙ ap (λ (h : HomeState). met_at_bank (bank_with h c.args.l1s.now) c.args.core c.args.request) c.is_away-away.ensures.same
