use Rattle.std.proofs.Common.{◌+◌, ◌*◌, ℕ, List, length, take, drop, ap, sym, subst, ◌∙◌, arith}
use Rattle.certify.specs.Records.{AreRecords}
use Rattle.certify.proofs.Checking.{all_checked, is_told, next_interval, nothing_checked, one_more_checked}
use Rattle.certify.proofs.checker.judge_all.Goals as goal

pub loop-interval-init : goal.loop-interval-init
loop-interval-init c =
    let read = c.requires.read in
    nothing_checked c.args.comps.now c.args.file.now read.0 c.args.counts.intervals c.args.counts.events read.1 read.2 read.3 c.requires.times

pub records_at-records-requires : goal.records_at-records-requires
records_at-records-requires c =
    let next = next_interval c.args.comps.now c.args.file.now c.loop-interval.comps c.args.counts.intervals c.args.counts.events c.loop-interval.interval c.loop-interval.at
    c.loop-interval.invariant (omega (arith, c.loop-interval-test.true)) in
    omega (arith, next.1.is.within, next.1.is.count)

pub judge-requires-clause-short : goal.judge-requires-clause-short
judge-requires-clause-short c =
    let file : List ℕ = c.args.file.now in
    let at = c.loop-interval.at in
    let next = next_interval c.args.comps.now file c.loop-interval.comps c.args.counts.intervals c.args.counts.events c.loop-interval.interval at
    c.loop-interval.invariant (omega (arith, c.loop-interval-test.true)) in
    let lies = c.records_at-records.ensures ∙ ap (λ (n : ℕ). take (64 * n) (drop (at + 4) file)) next.1.is.count in
    omega (arith, ap length lies, next.1.is.records.long, next.1.is.within, c.requires.length)

pub judge-requires-clause-interval : goal.judge-requires-clause-interval
judge-requires-clause-interval c =
    let file : List ℕ = c.args.file.now in
    let at = c.loop-interval.at in
    let next = next_interval c.args.comps.now file c.loop-interval.comps c.args.counts.intervals c.args.counts.events c.loop-interval.interval at
    c.loop-interval.invariant (omega (arith, c.loop-interval-test.true)) in
    let lies = c.records_at-records.ensures ∙ ap (λ (n : ℕ). take (64 * n) (drop (at + 4) file)) next.1.is.count in
    (next.0, subst (λ (bytes : List ℕ). AreRecords c.loop-interval.comps next.0 bytes) (sym lies) next.1.is.records)

pub judge-requires-clause-times : goal.judge-requires-clause-times
judge-requires-clause-times c = c.loop-interval.invariant.times

pub returns-in-Some : goal.returns-in-Some
returns-in-Some c =
    let file : List ℕ = c.args.file.now in
    let at = c.loop-interval.at in
    let next = next_interval c.args.comps.now file c.loop-interval.comps c.args.counts.intervals c.args.counts.events c.loop-interval.interval at
    c.loop-interval.invariant (omega (arith, c.loop-interval-test.true)) in
    let lies = c.records_at-records.ensures ∙ ap (λ (n : ℕ). take (64 * n) (drop (at + 4) file)) next.1.is.count in
    let are : AreRecords c.loop-interval.comps next.0 c.records_at-records.result.now = subst (λ (bytes : List ℕ). AreRecords c.loop-interval.comps next.0 bytes) (sym lies) next.1.is.records in
    is_told c.args.comps.now file c.loop-interval.comps c.args.counts.intervals c.args.counts.events c.loop-interval.interval at next.0 c.in-Some.wrong next.1
    (sym c.in-Some.is ∙ c.in_ok-wrong.ensures.verdict next.0 are)

pub overflow_add-at : goal.overflow_add-at
overflow_add-at c =
    let file : List ℕ = c.args.file.now in
    let at = c.loop-interval.at in
    let next = next_interval c.args.comps.now file c.loop-interval.comps c.args.counts.intervals c.args.counts.events c.loop-interval.interval at
    c.loop-interval.invariant (omega (arith, c.loop-interval-test.true)) in
    let lies = c.records_at-records.ensures ∙ ap (λ (n : ℕ). take (64 * n) (drop (at + 4) file)) next.1.is.count in
    let are : AreRecords c.loop-interval.comps next.0 c.records_at-records.result.now = subst (λ (bytes : List ℕ). AreRecords c.loop-interval.comps next.0 bytes) (sym lies) next.1.is.records in
    omega (arith, are.long, next.1.is.within, c.requires.length)

pub overflow_add-at-in-None : goal.overflow_add-at-in-None
overflow_add-at-in-None c =
    let file : List ℕ = c.args.file.now in
    let at = c.loop-interval.at in
    let next = next_interval c.args.comps.now file c.loop-interval.comps c.args.counts.intervals c.args.counts.events c.loop-interval.interval at
    c.loop-interval.invariant (omega (arith, c.loop-interval-test.true)) in
    let lies = c.records_at-records.ensures ∙ ap (λ (n : ℕ). take (64 * n) (drop (at + 4) file)) next.1.is.count in
    let are : AreRecords c.loop-interval.comps next.0 c.records_at-records.result.now = subst (λ (bytes : List ℕ). AreRecords c.loop-interval.comps next.0 bytes) (sym lies) next.1.is.records in
    omega (arith, are.long, next.1.is.within, c.requires.length)

pub loop-interval-preserved : goal.loop-interval-preserved
loop-interval-preserved c =
    let file : List ℕ = c.args.file.now in
    let at = c.loop-interval.at in
    let next = next_interval c.args.comps.now file c.loop-interval.comps c.args.counts.intervals c.args.counts.events c.loop-interval.interval at
    c.loop-interval.invariant (omega (arith, c.loop-interval-test.true)) in
    let lies = c.records_at-records.ensures ∙ ap (λ (n : ℕ). take (64 * n) (drop (at + 4) file)) next.1.is.count in
    let are : AreRecords c.loop-interval.comps next.0 c.records_at-records.result.now = subst (λ (bytes : List ℕ). AreRecords c.loop-interval.comps next.0 bytes) (sym lies) next.1.is.records in
    one_more_checked c.args.comps.now file c.loop-interval.comps c.judge.new.comps c.args.counts.intervals c.args.counts.events c.loop-interval.interval at _ next.0 next.1
    (sym c.in-None.is ∙ c.in_ok-wrong.ensures.verdict next.0 are) (omega (arith, are.long)) (c.in_ok-wrong.ensures.comps next.0 are) c.in_ok-wrong.ensures.times

pub returns : goal.returns
returns c =
    all_checked c.args.comps.now c.args.file.now c.loop-interval.comps c.args.counts.intervals c.args.counts.events c.loop-interval.interval c.loop-interval.at
    c.loop-interval.invariant (omega (arith, c.loop-interval-test.false))
