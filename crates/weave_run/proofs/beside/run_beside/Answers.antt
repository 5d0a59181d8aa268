-- Each domain ran by its worker, and came back to its place.
use Rattle.std.proofs.Common.{◌≡◌, ◌<◌, ◌≤◌, ℕ, List, length, sym, ◌∙◌, ap, subst, arith}
use Rattle.std.specs.Arc.{arc_value}
use Rattle.atomic_table.specs.Seated.{TableId}
use Rattle.dealing.specs.Workers.{AreFree, HaveRoom}
use Rattle.domain_map.specs.Domains.{Partition}
use Rattle.weave_core.specs.DomainCalls.{DomainValue}
use Rattle.weave_run.specs.Crews.{Crew}
use Rattle.weave_run.specs.Rounds.{AllKeep, AreNoted, HasRunRound, HasToldRests, HaveRun, own_in}
use Rattle.weave_run.specs.Seating.{AreSeated}
use Rattle.weave_run.specs.Shares.{AreShares}
use Rattle.weave_run.proofs.BesideRounds.{all_kept, round_beside}
use Rattle.weave_run.proofs.Returns.{all_back, all_can, rooms_stay, still_dealt}
use Rattle.weave_run.proofs.Seatings.{seated_grown}
use Rattle.weave_run.proofs.Tellings.{grows_by_learning}
use Rattle.weave_run.proofs.Wovens.{lent}
use Rattle.weave_run.proofs.beside.run_beside.Goals as goal

pub work_all-requires-clause-crews : goal.work_all-requires-clause-crews
work_all-requires-clause-crews g c κs within =
    all_can g.C.Component.stepped c.args.plan.now c.deref-crossings.result.now c.args.domains.now.items c.args.team.now.seats.items c.hire.new.crews c.hire.ensures.hired c.dealt_are_among_these.ensures c.requires.met.kept
    (subst (λ (t : TableId). AreSeated g.C.Component.stepped c.args.plan.now t c.args.domains.now.items c.args.team.now.seats.items) (sym c.deref-crossings.ensures) c.requires.team.seated)

pub let_go-requires-clause-dealt : goal.let_go-requires-clause-dealt
let_go-requires-clause-dealt g c =
    let count : length c.args.domains.now.items ≡ c.domains-count.result = c.requires.met.kept.count ∙ (ap (λ (p : Partition). length p.events) (sym c.requires.parts) ∙ sym c.domains-count.ensures.count) in
    let some : 0 < length c.hire.new.crews =
    (let s = c.requires.team.has.some in let a = ap length c.as_mut_slice-crews.ensures.value in let n = c.hire.ensures.count in omega (arith, s, a, n))
    in
    still_dealt g.C.Component.stepped c.args.plan.now c.deref-crossings.result.now c.args.domains.now.items c.args.team.now.seats.items c.hire.new.crews c.hire.ensures.hired c.work_all.new.crews c.work_all.ensures.count c.work_all.ensures.worked c.changed_are_dealt.ensures some
    c.domains-count.result count

pub let_go-requires-clause-room : goal.let_go-requires-clause-room
let_go-requires-clause-room g c =
    let count : length c.args.domains.now.items ≡ c.domains-count.result = c.requires.met.kept.count ∙ (ap (λ (p : Partition). length p.events) (sym c.requires.parts) ∙ sym c.domains-count.ensures.count) in
    subst (λ (n : ℕ). HaveRoom n c.work_all.new.crews) count
    (rooms_stay g.C.Component.stepped c.args.plan.now c.deref-crossings.result.now c.args.domains.now.items c.args.team.now.seats.items c.hire.new.crews c.hire.ensures.hired c.work_all.new.crews c.work_all.ensures.count c.work_all.ensures.worked (length c.args.domains.now.items)
    c.hire.ensures.room)

pub tell_each-requires-clause-kept : goal.tell_each-requires-clause-kept
tell_each-requires-clause-kept g c =
    let first : List (DomainValue g.row.C.Denot) = c.args.domains.now.items in
    let back : HaveRun g.C.Component.stepped c.args.plan.now c.args.domains.now.items c.let_go.new.domains.items × AreSeated g.C.Component.stepped c.args.plan.now c.deref-crossings.result.now c.let_go.new.domains.items c.let_go.new.seats.items =
    (let count : length c.args.domains.now.items ≡ c.domains-count.result = c.requires.met.kept.count ∙ (ap (λ (p : Partition). length p.events) (sym c.requires.parts) ∙ sym c.domains-count.ensures.count) in
    let some : 0 < length c.hire.new.crews =
    (let s = c.requires.team.has.some in let a = ap length c.as_mut_slice-crews.ensures.value in let n = c.hire.ensures.count in omega (arith, s, a, n))
    in
    all_back g.C.Component.stepped c.args.plan.now c.deref-crossings.result.now c.args.domains.now.items c.args.team.now.seats.items c.hire.new.crews c.hire.ensures.hired c.work_all.new.crews c.work_all.ensures.count c.work_all.ensures.worked c.changed_are_dealt.ensures some
    c.domains-count.result count c.let_go.new.domains.items c.let_go.new.seats.items c.let_go.ensures.back)
    in
    let ran : HaveRun g.C.Component.stepped c.args.plan.now first c.let_go.new.domains.items = back.0 in
    subst (AllKeep g.C.Component.stepped c.args.plan.now) (sym c.as_mut_slice.ensures.value) (all_kept g.C.Component.stepped c.args.plan.now first c.let_go.new.domains.items c.requires.met.kept ran)

pub tell_each-requires-clause-counts : goal.tell_each-requires-clause-counts
tell_each-requires-clause-counts g c =
    let back : HaveRun g.C.Component.stepped c.args.plan.now c.args.domains.now.items c.let_go.new.domains.items × AreSeated g.C.Component.stepped c.args.plan.now c.deref-crossings.result.now c.let_go.new.domains.items c.let_go.new.seats.items =
    (let count : length c.args.domains.now.items ≡ c.domains-count.result = c.requires.met.kept.count ∙ (ap (λ (p : Partition). length p.events) (sym c.requires.parts) ∙ sym c.domains-count.ensures.count) in
    let some : 0 < length c.hire.new.crews =
    (let s = c.requires.team.has.some in let a = ap length c.as_mut_slice-crews.ensures.value in let n = c.hire.ensures.count in omega (arith, s, a, n))
    in
    all_back g.C.Component.stepped c.args.plan.now c.deref-crossings.result.now c.args.domains.now.items c.args.team.now.seats.items c.hire.new.crews c.hire.ensures.hired c.work_all.new.crews c.work_all.ensures.count c.work_all.ensures.worked c.changed_are_dealt.ensures some
    c.domains-count.result count c.let_go.new.domains.items c.let_go.new.seats.items c.let_go.ensures.back)
    in
    let ran = back.0.count in
    let size = ap length c.as_mut_slice.ensures.value in
    let noted = c.note.ensures.count in
    let lent_is = ap length c.as_mut_slice-counts.ensures.value in
    let counts = c.requires.team.has.counts in
    let count = c.requires.met.kept.count in
    omega (arith, ran, size, noted, lent_is, counts, count)

pub returns-clause-ran : goal.returns-clause-ran
returns-clause-ran g c =
    let first : List (DomainValue g.row.C.Denot) = c.args.domains.now.items in
    let mid : List (DomainValue g.row.C.Denot) = c.let_go.new.domains.items in
    let back : HaveRun g.C.Component.stepped c.args.plan.now c.args.domains.now.items c.let_go.new.domains.items × AreSeated g.C.Component.stepped c.args.plan.now c.deref-crossings.result.now c.let_go.new.domains.items c.let_go.new.seats.items =
    (let count : length c.args.domains.now.items ≡ c.domains-count.result = c.requires.met.kept.count ∙ (ap (λ (p : Partition). length p.events) (sym c.requires.parts) ∙ sym c.domains-count.ensures.count) in
    let some : 0 < length c.hire.new.crews =
    (let s = c.requires.team.has.some in let a = ap length c.as_mut_slice-crews.ensures.value in let n = c.hire.ensures.count in omega (arith, s, a, n))
    in
    all_back g.C.Component.stepped c.args.plan.now c.deref-crossings.result.now c.args.domains.now.items c.args.team.now.seats.items c.hire.new.crews c.hire.ensures.hired c.work_all.new.crews c.work_all.ensures.count c.work_all.ensures.worked c.changed_are_dealt.ensures some
    c.domains-count.result count c.let_go.new.domains.items c.let_go.new.seats.items c.let_go.ensures.back)
    in
    let ran : HaveRun g.C.Component.stepped c.args.plan.now first mid = back.0 in
    let told : HasToldRests g.C.Component.stepped c.args.plan.now mid c.tell_each.new.domains c.note.new.counts (length mid) =
    subst (λ (vs : List (DomainValue g.row.C.Denot)). HasToldRests g.C.Component.stepped c.args.plan.now vs c.tell_each.new.domains c.note.new.counts (length vs)) c.as_mut_slice.ensures.value c.tell_each.ensures
    in
    let noted : AreNoted first c.note.new.counts (length first) = subst (λ (vs : List (DomainValue g.row.C.Denot)). AreNoted vs c.note.new.counts (length vs)) c.deref.ensures.value c.note.ensures.noted in
    let size : c.let_go.new.domains.len ≡ length c.tell_each.new.domains =
    (let a = c.let_go.new.domains.ok in let b = c.tell_each.auto.domains in let d = ap length c.as_mut_slice.ensures.value in omega (arith, a, b, d))
    in
    subst (HasRunRound g.C.Component.stepped c.args.plan.now first) (sym (lent c.let_go.new.domains.len c.tell_each.new.domains _ size))
    (round_beside g.C.Component.stepped c.args.plan.now first mid c.requires.met.kept ran g.C.Component.serves g.C.Component.floor g.C.Component.greatest c.domains_keep_to_the_weave.ensures c.requires.can c.requires.met c.tell_each.new.domains c.note.new.counts
    noted told)

pub returns-clause-team : goal.returns-clause-team
returns-clause-team g c =
    let first : List (DomainValue g.row.C.Denot) = c.args.domains.now.items in
    let mid : List (DomainValue g.row.C.Denot) = c.let_go.new.domains.items in
    let table : TableId = arc_value c.args.team.now.crossings in
    let back : HaveRun g.C.Component.stepped c.args.plan.now c.args.domains.now.items c.let_go.new.domains.items × AreSeated g.C.Component.stepped c.args.plan.now c.deref-crossings.result.now c.let_go.new.domains.items c.let_go.new.seats.items =
    (let count : length c.args.domains.now.items ≡ c.domains-count.result = c.requires.met.kept.count ∙ (ap (λ (p : Partition). length p.events) (sym c.requires.parts) ∙ sym c.domains-count.ensures.count) in
    let some : 0 < length c.hire.new.crews =
    (let s = c.requires.team.has.some in let a = ap length c.as_mut_slice-crews.ensures.value in let n = c.hire.ensures.count in omega (arith, s, a, n))
    in
    all_back g.C.Component.stepped c.args.plan.now c.deref-crossings.result.now c.args.domains.now.items c.args.team.now.seats.items c.hire.new.crews c.hire.ensures.hired c.work_all.new.crews c.work_all.ensures.count c.work_all.ensures.worked c.changed_are_dealt.ensures some
    c.domains-count.result count c.let_go.new.domains.items c.let_go.new.seats.items c.let_go.ensures.back)
    in
    let ran : HaveRun g.C.Component.stepped c.args.plan.now first mid = back.0 in
    let told : HasToldRests g.C.Component.stepped c.args.plan.now mid c.tell_each.new.domains c.note.new.counts (length mid) =
    subst (λ (vs : List (DomainValue g.row.C.Denot)). HasToldRests g.C.Component.stepped c.args.plan.now vs c.tell_each.new.domains c.note.new.counts (length vs)) c.as_mut_slice.ensures.value c.tell_each.ensures
    in
    let size : c.let_go.new.domains.len ≡ length c.tell_each.new.domains =
    (let a = c.let_go.new.domains.ok in let b = c.tell_each.auto.domains in let d = ap length c.as_mut_slice.ensures.value in omega (arith, a, b, d))
    in
    let crews_size : c.args.team.now.crews.len ≡ length c.let_go.new.crews =
    (let a = c.args.team.now.crews.ok in let b = ap length c.as_mut_slice-crews.ensures.value in let d = c.hire.ensures.count in let e = c.work_all.ensures.count in let f = c.let_go.ensures.count in omega (arith, a, b, d, e, f))
    in
    let counts_size : c.args.team.now.counts.len ≡ length c.note.new.counts =
    (let a = c.args.team.now.counts.ok in let b = ap length c.as_mut_slice-counts.ensures.value in let d = c.note.ensures.count in omega (arith, a, b, d))
    in
    let count : c.domains-count.result ≡ length c.args.plan.now.parts.value.events = c.domains-count.ensures.count ∙ ap (λ (p : Partition). length p.events) c.requires.parts in
    let seated : AreSeated g.C.Component.stepped c.args.plan.now table c.tell_each.new.domains c.let_go.new.seats.items =
    seated_grown g.C.Component.stepped c.args.plan.now table mid c.tell_each.new.domains c.let_go.new.seats.items (all_kept g.C.Component.stepped c.args.plan.now first mid c.requires.met.kept ran) told.kept
    (record { each = λ d. grows_by_learning (own_in mid d) (own_in c.tell_each.new.domains d) (told.learn.each d) }) (subst (λ (t : TableId). AreSeated g.C.Component.stepped c.args.plan.now t c.let_go.new.domains.items c.let_go.new.seats.items) c.deref-crossings.ensures back.1)
    in
    let has = c.requires.team.has in
    record {
      has = record {
        some = subst (λ (xs : List (Crew g.row.C.Denot)). 0 < length xs) (sym (lent c.args.team.now.crews.len c.let_go.new.crews _ crews_size))
            (let s = has.some in let o = c.args.team.now.crews.ok in omega (arith, s, o, crews_size));
        few = subst (λ (xs : List (Crew g.row.C.Denot)). length xs ≤ 64) (sym (lent c.args.team.now.crews.len c.let_go.new.crews _ crews_size))
            (let s = has.few in let o = c.args.team.now.crews.ok in omega (arith, s, o, crews_size));
        free = subst (AreFree (length c.args.plan.now.parts.value.events)) (sym (lent c.args.team.now.crews.len c.let_go.new.crews _ crews_size))
            (subst (λ (n : ℕ). AreFree n c.let_go.new.crews) count c.let_go.ensures.free);
        shares = subst (λ (xs : List (Crew g.row.C.Denot)). AreShares c.args.plan.now table (length xs) c.work_all.new.shares.items) (sym (lent c.args.team.now.crews.len c.let_go.new.crews _ crews_size))
            (subst (λ (t : TableId). AreShares c.args.plan.now t (length c.let_go.new.crews) c.work_all.new.shares.items) c.deref-crossings.ensures
            (subst (λ (n : ℕ). AreShares c.args.plan.now c.deref-crossings.result.now n c.work_all.new.shares.items) (sym (c.let_go.ensures.count ∙ c.work_all.ensures.count)) c.work_all.ensures.shares));
        counts = subst (λ (xs : List ℕ). length xs ≡ length c.args.plan.now.parts.value.events) (sym (lent c.args.team.now.counts.len c.note.new.counts _ counts_size))
            (let s = has.counts in let o = c.args.team.now.counts.ok in omega (arith, s, o, counts_size));
      };
      seated = subst (λ (vs : List (DomainValue g.row.C.Denot)). AreSeated g.C.Component.stepped c.args.plan.now table vs c.let_go.new.seats.items) (sym (lent c.let_go.new.domains.len c.tell_each.new.domains _ size)) seated;
    }
