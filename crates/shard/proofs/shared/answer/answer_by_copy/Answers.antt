use Rattle.std.proofs.Common.{◌≡◌, ◌&&◌, ℕ, List, not, ap, ◌∙◌, subst}
use Rattle.std.specs.Prelude.{slice_index_or}
use Rattle.zs_num.specs.Request.{line_of}
use Rattle.home.specs.HomeState.{is_marked_by_others}
use Rattle.l1_cache.specs.L1State.{answered_in, copy_at, no_l1, place_in_line}
use Rattle.shard.specs.BankSteps.{bank_with}
use Rattle.shard.specs.Coherence.{is_alone}
use Rattle.shard.specs.Marks.{bytes_after}
use Rattle.shard.specs.Seen.{no_home}
use Rattle.shard.specs.SharedStep.{bytes_of, own_letter, with_l1}
use Rattle.shard.proofs.BankSteps.{answered_by}
use Rattle.shard.proofs.shared.answer.answer_by_copy.Goals as goal

pub returns-clause-after : goal.returns-clause-after
returns-clause-after c =
    let home = c.args.home.now in
    let l1s = c.args.l1s.now in
    let core = c.args.core in
    let request = c.args.request in
    let left = c.serve-reply.new.home in
    let bytes = c.serve-reply.new.bytes in
    let free = c.is_free_at-free.result in
    let was : List ℕ = bytes_of (copy_at (slice_index_or l1s core no_l1) (line_of request)) in
    answered_by home left no_home l1s c.answer_at.new.l1s core request bytes free
    (subst (λ (l : ℕ). bank_with no_home c.answer_at.new.l1s ≡ with_l1 core (answered_in l bytes free) (bank_with no_home l1s)) c.line-line.ensures c.answer_at.ensures.after)
    c.serve-reply.ensures.marks
    (c.serve-reply.ensures.bytes
    ∙ (ap (λ (b : List ℕ). bytes_after b (place_in_line c.addr.result) home.marks core request) (c.copy_line.ensures.value ∙ ap (λ (l : ℕ). bytes_of (copy_at (slice_index_or l1s core no_l1) l)) c.line-line.ensures)
    ∙ ap (λ (a : ℕ). bytes_after was (place_in_line a) home.marks core request) c.addr.ensures))
    (c.is_free_at-free.ensures ∙ ap (λ (l : ℕ). is_alone (own_letter (bank_with no_home l1s) core l) && not (is_marked_by_others left.marks core l)) c.line-line.ensures)
    c.requires.there
