use Rattle.std.proofs.Common.{◌<◌, ℕ, List, Bool, Option, false, is_some, length, sym, ap, ◌∙◌, subst}
use Rattle.std.specs.Prelude.{IsSome, slice_index_or}
use Rattle.flat_memory.specs.declared.reservation.Reservation.{Reservation}
use Rattle.zs_num.specs.Request.{addr_of, line_of}
use Rattle.home.specs.HomeState.{evicted_by, row_at}
use Rattle.l1_cache.specs.L1State.{has_instructions, no_l1, place_in_line}
use Rattle.shard.specs.BankSteps.{bank_with, line_met}
use Rattle.shard.specs.Coherence.{fetch_outcome_by, is_write}
use Rattle.shard.specs.Marks.{reply_from}
use Rattle.shard.specs.SharedStep.{Bank, answered, bytes_of, copy_of, fetched_from, is_dirty_here, own_letter, ready_by}
use Rattle.shard.specs.Touched.{HasTouchedFor, HasTouchedToFetch}
use Rattle.shard.proofs.BankMet.{fetch_absent, fetched_after, fetched_met, fetched_reply, read_after, read_met, read_reply}
use Rattle.shard.proofs.LikeMet.{like_fetch, like_marks, like_read, like_room, like_there}
use Rattle.shard.proofs.shared.meet_shared.Goals as goal

pub meet_fetch-requires-clause-touched : goal.meet_fetch-requires-clause-touched
meet_fetch-requires-clause-touched c =
    let p = bank_with c.args.home.now c.args.l1s.now in
    subst (λ (l : ℕ). HasTouchedToFetch p c.args.core l) (sym c.line-line.ensures) (like_fetch p c.args.core c.args.request c.requires.touched.0 c.requires.touched.1 c.requires.touched.2 c.requires.touched.3 c.requires.shared (sym c.is_fetch.ensures ∙ c.if-is_fetch.true))

pub meet_fetch-requires-clause-absent : goal.meet_fetch-requires-clause-absent
meet_fetch-requires-clause-absent c =
    ap (λ (l : ℕ). has_instructions (slice_index_or c.args.l1s.now c.args.core no_l1) l) c.line-line.ensures
    ∙ fetch_absent (slice_index_or c.args.l1s.now c.args.core no_l1) c.args.request (sym c.is_fetch.ensures ∙ c.if-is_fetch.true) c.requires.shared

pub returns-then-is_fetch-clause-after : goal.returns-then-is_fetch-clause-after
returns-then-is_fetch-clause-after c =
    let p = bank_with c.args.home.now c.args.l1s.now in
    c.meet_fetch.ensures.after ∙ (ap (λ (l : ℕ). fetched_from c.args.core l (row_at p.home l) p) c.line-line.ensures ∙ fetched_after p c.args.core c.args.request (sym c.is_fetch.ensures ∙ c.if-is_fetch.true))

pub returns-then-is_fetch-clause-reply : goal.returns-then-is_fetch-clause-reply
returns-then-is_fetch-clause-reply c =
    fetched_reply (bank_with c.args.home.now c.args.l1s.now) c.args.core c.args.request (sym c.is_fetch.ensures ∙ c.if-is_fetch.true)

pub returns-then-is_fetch-clause-outcome : goal.returns-then-is_fetch-clause-outcome
returns-then-is_fetch-clause-outcome c =
    let p = bank_with c.args.home.now c.args.l1s.now in
    let fetch = sym c.is_fetch.ensures ∙ c.if-is_fetch.true in
    c.meet_fetch.ensures.outcome
    ∙ (ap (λ (l : ℕ). fetch_outcome_by false (is_some (row_at p.home l)) (is_dirty_here p (evicted_by p.home l))) c.line-line.ensures
    ∙ fetched_met p c.args.core c.args.request fetch (fetch_absent (slice_index_or c.args.l1s.now c.args.core no_l1) c.args.request fetch c.requires.shared))

pub make_ready-outcome-requires-clause-touched : goal.make_ready-outcome-requires-clause-touched
make_ready-outcome-requires-clause-touched c =
    let p = bank_with c.args.home.now c.args.l1s.now in
    subst (λ (l : ℕ). HasTouchedFor p c.args.core l c.is_write.result) (sym c.line-line.ensures)
    (subst (λ (b : Bool). HasTouchedFor p c.args.core (line_of c.args.request) b) (sym c.is_write.ensures) (like_read p c.args.core c.args.request c.requires.touched.0 c.requires.touched.1 c.requires.touched.2 c.requires.touched.3 c.requires.shared (sym c.is_fetch.ensures ∙ c.if-is_fetch.false)))

pub answer-requires-clause-marks : goal.answer-requires-clause-marks
answer-requires-clause-marks c =
    let p = bank_with c.args.home.now c.args.l1s.now in
    let is = c.make_ready-outcome.ensures.after
    ∙ (ap (λ (l : ℕ). ready_by (own_letter p c.args.core l) c.is_write.result c.args.core l p) c.line-line.ensures
    ∙ ap (λ (b : Bool). ready_by (own_letter p c.args.core (line_of c.args.request)) b c.args.core (line_of c.args.request) p) c.is_write.ensures) in
    subst (λ (b : Bank). c.args.core < length b.home.marks) (sym is) (like_room p c.args.core c.args.request c.requires.touched.0 c.requires.touched.1 c.requires.touched.2 c.requires.touched.3 c.requires.shared (sym c.is_fetch.ensures ∙ c.if-is_fetch.false))

pub answer-requires-clause-there : goal.answer-requires-clause-there
answer-requires-clause-there c =
    let p = bank_with c.args.home.now c.args.l1s.now in
    let is = c.make_ready-outcome.ensures.after
    ∙ (ap (λ (l : ℕ). ready_by (own_letter p c.args.core l) c.is_write.result c.args.core l p) c.line-line.ensures
    ∙ ap (λ (b : Bool). ready_by (own_letter p c.args.core (line_of c.args.request)) b c.args.core (line_of c.args.request) p) c.is_write.ensures) in
    subst (λ (b : Bank). IsSome (copy_of b c.args.core (line_of c.args.request))) (sym is) (like_there p c.args.core c.args.request c.requires.touched.0 c.requires.touched.1 c.requires.touched.2 c.requires.touched.3 c.requires.shared (sym c.is_fetch.ensures ∙ c.if-is_fetch.false))

pub returns-clause-after : goal.returns-clause-after
returns-clause-after c =
    let p = bank_with c.args.home.now c.args.l1s.now in
    let is = c.make_ready-outcome.ensures.after
    ∙ (ap (λ (l : ℕ). ready_by (own_letter p c.args.core l) c.is_write.result c.args.core l p) c.line-line.ensures
    ∙ ap (λ (b : Bool). ready_by (own_letter p c.args.core (line_of c.args.request)) b c.args.core (line_of c.args.request) p) c.is_write.ensures) in
    c.answer.ensures.after ∙ (ap (answered c.args.core c.args.request) is ∙ read_after p c.args.core c.args.request (sym c.is_fetch.ensures ∙ c.if-is_fetch.false))

pub returns-clause-reply : goal.returns-clause-reply
returns-clause-reply c =
    let p = bank_with c.args.home.now c.args.l1s.now in
    let line = line_of c.args.request in
    let place = place_in_line (addr_of c.args.request) in
    let reads = sym c.is_fetch.ensures ∙ c.if-is_fetch.false in
    let is = c.make_ready-outcome.ensures.after
    ∙ (ap (λ (l : ℕ). ready_by (own_letter p c.args.core l) c.is_write.result c.args.core l p) c.line-line.ensures
    ∙ ap (λ (b : Bool). ready_by (own_letter p c.args.core line) b c.args.core line p) c.is_write.ensures) in
    let made = ready_by (own_letter p c.args.core line) (is_write c.args.request) c.args.core line p in
    c.answer.ensures.reply
    ∙ (ap (λ (b : Bank). reply_from (bytes_of (copy_of b c.args.core line)) place b.home.marks c.args.core c.args.request) is
    ∙ (ap (λ (marks : List (Option Reservation)). reply_from (bytes_of (copy_of made c.args.core line)) place marks c.args.core c.args.request) (like_marks p c.args.core c.args.request c.requires.touched.0 c.requires.touched.1 c.requires.touched.2 c.requires.touched.3 c.requires.shared reads)
    ∙ read_reply p c.args.core c.args.request reads))

pub returns-clause-outcome : goal.returns-clause-outcome
returns-clause-outcome c =
    let p = bank_with c.args.home.now c.args.l1s.now in
    c.make_ready-outcome.ensures.outcome
    ∙ (ap (λ (l : ℕ). line_met p c.args.core l c.is_write.result) c.line-line.ensures
    ∙ (ap (λ (b : Bool). line_met p c.args.core (line_of c.args.request) b) c.is_write.ensures
    ∙ read_met p c.args.core c.args.request (sym c.is_fetch.ensures ∙ c.if-is_fetch.false)))
