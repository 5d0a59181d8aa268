use Rattle.std.proofs.Common.{◌≡◌, List, is_some, false, sym, ap, ◌∙◌, subst}
use Rattle.l1_cache.specs.L1State.{L1State, is_private, no_l1}
use Rattle.std.specs.Prelude.{slice_index_or}
use Rattle.shard.specs.BankSteps.{bank_with}
use Rattle.shard.specs.Seen.{no_home}
use Rattle.shard.specs.SharedStep.{met_at_bank, shared_after, shared_reply}
use Rattle.shard.specs.Touched.{HasTouched}
use Rattle.shard.proofs.BankMet.{replied_alone, reply_is, same_l1s, served_alone, shared_is}
use Rattle.shard.proofs.LikeMet.{like_alone}
use Rattle.shard.proofs.shared.meet.Goals as goal

pub returns-in-Some-clause-after : goal.returns-in-Some-clause-after
returns-in-Some-clause-after c =
    served_alone c.args.home.now no_home c.args.l1s.now c.serve_alone_at.new.l1s c.args.core c.args.request c.serve_alone_at.ensures.after (sym c.serve_alone_at.ensures.private ∙ ap is_some c.in-Some.is)

pub returns-in-Some-clause-reply : goal.returns-in-Some-clause-reply
returns-in-Some-clause-reply c =
    c.in-Some.ensures.reply ∙ replied_alone (bank_with c.args.home.now c.args.l1s.now) c.args.core c.args.request (sym c.serve_alone_at.ensures.private ∙ ap is_some c.in-Some.is)

pub returns-in-Some-clause-outcome : goal.returns-in-Some-clause-outcome
returns-in-Some-clause-outcome c =
    like_alone (bank_with c.args.home.now c.args.l1s.now) c.args.core c.args.request c.requires.touched.0 c.requires.touched.1 c.requires.touched.2 c.requires.touched.3 (sym c.serve_alone_at.ensures.private ∙ ap is_some c.in-Some.is)

pub meet_shared-requires-clause-touched : goal.meet_shared-requires-clause-touched
meet_shared-requires-clause-touched c =
    let shared : is_private (slice_index_or c.args.l1s.now c.args.core no_l1) c.args.request ≡ false = sym c.serve_alone_at.ensures.private ∙ ap is_some c.in_default.is in
    let same = same_l1s c.args.home.now no_home c.args.l1s.now c.serve_alone_at.new.l1s c.args.core c.args.request c.serve_alone_at.ensures.after shared in
    subst (λ (s : List L1State). HasTouched (bank_with c.args.home.now s) c.args.core c.args.request) (sym same) c.requires.touched

pub meet_shared-requires-clause-shared : goal.meet_shared-requires-clause-shared
meet_shared-requires-clause-shared c =
    let shared : is_private (slice_index_or c.args.l1s.now c.args.core no_l1) c.args.request ≡ false = sym c.serve_alone_at.ensures.private ∙ ap is_some c.in_default.is in
    let same = same_l1s c.args.home.now no_home c.args.l1s.now c.serve_alone_at.new.l1s c.args.core c.args.request c.serve_alone_at.ensures.after shared in
    subst (λ (s : List L1State). is_private (slice_index_or s c.args.core no_l1) c.args.request ≡ false) (sym same) shared

pub returns-clause-after : goal.returns-clause-after
returns-clause-after c =
    let shared : is_private (slice_index_or c.args.l1s.now c.args.core no_l1) c.args.request ≡ false = sym c.serve_alone_at.ensures.private ∙ ap is_some c.in_default.is in
    let same = same_l1s c.args.home.now no_home c.args.l1s.now c.serve_alone_at.new.l1s c.args.core c.args.request c.serve_alone_at.ensures.after shared in
    c.meet_shared.ensures.after ∙ (ap (λ (s : List L1State). shared_after (bank_with c.args.home.now s) c.args.core c.args.request) same ∙ shared_is (bank_with c.args.home.now c.args.l1s.now) c.args.core c.args.request shared)

pub returns-clause-reply : goal.returns-clause-reply
returns-clause-reply c =
    let shared : is_private (slice_index_or c.args.l1s.now c.args.core no_l1) c.args.request ≡ false = sym c.serve_alone_at.ensures.private ∙ ap is_some c.in_default.is in
    let same = same_l1s c.args.home.now no_home c.args.l1s.now c.serve_alone_at.new.l1s c.args.core c.args.request c.serve_alone_at.ensures.after shared in
    c.meet_shared.ensures.reply ∙ (ap (λ (s : List L1State). shared_reply (bank_with c.args.home.now s) c.args.core c.args.request) same ∙ reply_is (bank_with c.args.home.now c.args.l1s.now) c.args.core c.args.request shared)

pub returns-clause-outcome : goal.returns-clause-outcome
returns-clause-outcome c =
    let shared : is_private (slice_index_or c.args.l1s.now c.args.core no_l1) c.args.request ≡ false = sym c.serve_alone_at.ensures.private ∙ ap is_some c.in_default.is in
    let same = same_l1s c.args.home.now no_home c.args.l1s.now c.serve_alone_at.new.l1s c.args.core c.args.request c.serve_alone_at.ensures.after shared in
    c.meet_shared.ensures.outcome ∙ ap (λ (s : List L1State). met_at_bank (bank_with c.args.home.now s) c.args.core c.args.request) same
