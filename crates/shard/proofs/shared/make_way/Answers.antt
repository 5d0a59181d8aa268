use Rattle.std.proofs.Common.{Bool, Option, sym, ap, ◌∙◌, subst}
use Rattle.home.specs.HomeState.{HomeLine, HomeState, KeepsLine, evicted_by, row_at}
use Rattle.home.specs.Rows.{line_in}
use Rattle.mesi_dir.specs.CoreSets.{cores_in}
use Rattle.shard.specs.BankSteps.{CanBring, CanEvict, CanLeave, bank_with}
use Rattle.shard.specs.SharedStep.{Bank, brought_home, left_by_others, ready_from_home, ready_from_l2, shared_by_others}
use Rattle.shard.proofs.LikeAsks.{for_evict, for_leave, for_missed, for_read, for_sharers, for_written}
use Rattle.shard.proofs.BankReady.{came_home, came_read, came_written, empty_is, row_none, row_some}
use Rattle.shard.proofs.shared.make_way.Goals as goal

-- ---- the L2 has the line

pub leave_others-requires : goal.leave_others-requires
leave_others-requires c =
    let there = row_some c.meet.result (row_at c.args.home.now c.args.line) c.in-Some.row c.meet.ensures.row c.in-Some.is in
    subst (λ (h : HomeState). CanLeave (bank_with h c.args.l1s.now) c.args.core c.args.line (line_in c.in-Some.row)) (sym c.in-Some.ensures.used)
    (for_leave (bank_with c.args.home.now c.args.l1s.now) c.args.core c.args.line c.args.write c.requires.touched (line_in c.in-Some.row) there)

pub returns-then-write-clause-can : goal.returns-then-write-clause-can
returns-then-write-clause-can c =
    let there = row_some c.meet.result (row_at c.args.home.now c.args.line) c.in-Some.row c.meet.ensures.row c.in-Some.is in
    subst (λ (b : Bank). CanBring b c.args.core c.args.line) (sym (c.leave_others.ensures.after ∙ ap (λ (h : HomeState). left_by_others c.args.core c.args.line (line_in c.in-Some.row) (bank_with h c.args.l1s.now)) c.in-Some.ensures.used))
    (for_written (bank_with c.args.home.now c.args.l1s.now) c.args.core c.args.line c.args.write c.requires.touched (line_in c.in-Some.row) there c.if-write.true c.requires.own)

pub share_others-requires-clause-kept : goal.share_others-requires-clause-kept
share_others-requires-clause-kept c =
    let there = row_some c.meet.result (row_at c.args.home.now c.args.line) c.in-Some.row c.meet.ensures.row c.in-Some.is in
    subst (λ (h : HomeState). KeepsLine h c.args.line) (sym c.in-Some.ensures.used)
    (for_leave (bank_with c.args.home.now c.args.l1s.now) c.args.core c.args.line c.args.write c.requires.touched (line_in c.in-Some.row) there).kept

pub share_others-requires-clause-known : goal.share_others-requires-clause-known
share_others-requires-clause-known c =
    let there = row_some c.meet.result (row_at c.args.home.now c.args.line) c.in-Some.row c.meet.ensures.row c.in-Some.is in
    for_sharers (bank_with c.args.home.now c.args.l1s.now) c.args.core c.args.line c.args.write c.requires.touched (line_in c.in-Some.row) there

pub returns-else-write-clause-can : goal.returns-else-write-clause-can
returns-else-write-clause-can c =
    let there = row_some c.meet.result (row_at c.args.home.now c.args.line) c.in-Some.row c.meet.ensures.row c.in-Some.is in
    subst (λ (b : Bank). CanBring b c.args.core c.args.line) (sym (c.share_others.ensures.after ∙ ap (λ (h : HomeState). shared_by_others c.args.line (line_in c.in-Some.row) (bank_with h c.args.l1s.now)) c.in-Some.ensures.used))
    (for_read (bank_with c.args.home.now c.args.l1s.now) c.args.core c.args.line c.args.write c.requires.touched (line_in c.in-Some.row) there c.if-write.false c.requires.own)

pub returns-then-write-clause-rest : goal.returns-then-write-clause-rest
returns-then-write-clause-rest c brought kept l1s came took =
    let p = bank_with c.args.home.now c.args.l1s.now in
    let row = line_in c.in-Some.row in
    let there = row_some c.meet.result (row_at c.args.home.now c.args.line) c.in-Some.row c.meet.ensures.row c.in-Some.is in
    came_written c.args.core c.args.line row c.args.home.now c.args.l1s.now c.meet.new.self c.leave_others.new.home brought kept c.leave_others.new.l1s l1s
    c.in-Some.ensures.used c.leave_others.ensures.after came took
    ∙ (sym (ap (λ (write : Bool). ready_from_l2 write c.args.core c.args.line row p) c.if-write.true)
    ∙ sym (ap (λ (o : Option HomeLine). ready_from_home c.args.write c.args.core c.args.line o p) there))

pub returns-else-write-clause-rest : goal.returns-else-write-clause-rest
returns-else-write-clause-rest c brought kept l1s came took =
    let p = bank_with c.args.home.now c.args.l1s.now in
    let row = line_in c.in-Some.row in
    let there = row_some c.meet.result (row_at c.args.home.now c.args.line) c.in-Some.row c.meet.ensures.row c.in-Some.is in
    came_read c.args.core c.args.line row c.args.home.now c.args.l1s.now c.meet.new.self c.share_others.new.home brought kept c.share_others.new.l1s l1s c.is_empty-alone.result c.letter_after.result
    c.in-Some.ensures.used c.share_others.ensures.after came took (empty_is c.is_empty-alone.result (cores_in c.in-Some.row.sharers.words) c.is_empty-alone.ensures.cores) c.letter_after.ensures
    ∙ (sym (ap (λ (write : Bool). ready_from_l2 write c.args.core c.args.line row p) c.if-write.false)
    ∙ sym (ap (λ (o : Option HomeLine). ready_from_home c.args.write c.args.core c.args.line o p) there))

-- ---- it does not

pub bring_home-dirty_victim-requires-clause-can : goal.bring_home-dirty_victim-requires-clause-can
bring_home-dirty_victim-requires-clause-can c =
    subst (λ (h : HomeState). CanEvict h c.args.l1s.now (evicted_by h c.args.line)) (sym c.in-None.ensures.same) (for_evict (bank_with c.args.home.now c.args.l1s.now) c.args.core c.args.line c.args.write c.requires.touched)

pub returns-in-None-clause-can : goal.returns-in-None-clause-can
returns-in-None-clause-can c =
    subst (λ (b : Bank). CanBring b c.args.core c.args.line) (sym (c.bring_home-dirty_victim.ensures.after ∙ ap (λ (h : HomeState). brought_home c.args.line (bank_with h c.args.l1s.now)) c.in-None.ensures.same))
    (for_missed (bank_with c.args.home.now c.args.l1s.now) c.args.core c.args.line c.args.write c.requires.touched c.requires.own (row_none c.meet.result (row_at c.args.home.now c.args.line) c.meet.ensures.row c.in-None.is))

pub returns-in-None-clause-rest : goal.returns-in-None-clause-rest
returns-in-None-clause-rest c brought kept l1s came took =
    let p = bank_with c.args.home.now c.args.l1s.now in
    came_home c.args.write c.args.core c.args.line p c.bring_home-dirty_victim.new.home brought kept c.bring_home-dirty_victim.new.l1s l1s c.letter_after-in-None.result c.letter_after-in-None.ensures
    (c.bring_home-dirty_victim.ensures.after ∙ ap (λ (h : HomeState). brought_home c.args.line (bank_with h c.args.l1s.now)) c.in-None.ensures.same)
    came took (row_none c.meet.result (row_at c.args.home.now c.args.line) c.meet.ensures.row c.in-None.is)
