use Rattle.std.proofs.Common.{◌≡◌, ◌<◌, ℕ, List, Some, length, get_or, ap, sym, subst, ◌∙◌, arith}
use Rattle.std.specs.Prelude.{slice_get}
use Rattle.std.proofs.lemmas.Option.{slice_get-get_or}
use Rattle.certify.specs.declared.numbers.Numbers.{Numbers}
use Rattle.certify.specs.EventsFile.{has_first, has_second}
use Rattle.certify.specs.Records.{IsParentAmong, parents_let, record_at}
use Rattle.certify.proofs.FirstWrong.{all_right, still_none, wrong_finish, wrong_start}
use Rattle.certify.proofs.Places.{event_there, let_start}
use Rattle.certify.proofs.interval.first_wrong_event.Goals as goal

pub start_of-requires-clause-first : goal.start_of-requires-clause-first
start_of-requires-clause-first c =
    let records : List ℕ = c.args.records.now in
    let x = event_there c.requires.1 c.loop-number.number (omega (arith, c.loop-number-test.true, c.requires.3)) in
    let lets = let_start c.requires.0 c.requires.1 records c.loop-number.number x.0 c.requires.2 x.1 in
    subst (λ (n : Numbers). IsParentAmong records (has_first n) n.first n.first_delay) (sym c.record_at-n.ensures) lets.first

pub start_of-requires-clause-second : goal.start_of-requires-clause-second
start_of-requires-clause-second c =
    let records : List ℕ = c.args.records.now in
    let x = event_there c.requires.1 c.loop-number.number (omega (arith, c.loop-number-test.true, c.requires.3)) in
    let lets = let_start c.requires.0 c.requires.1 records c.loop-number.number x.0 c.requires.2 x.1 in
    subst (λ (n : Numbers). IsParentAmong records (has_second n) n.second n.second_delay) (sym c.record_at-n.ensures) lets.second

pub returns-then-n-start_of : goal.returns-then-n-start_of
returns-then-n-start_of c comps timed are known =
    let records : List ℕ = c.args.records.now in
    let number = c.loop-number.number in
    let within : number < length timed = omega (arith, c.loop-number-test.true, c.requires.3, c.requires.2.long, are.long) in
    let noted : c.record_at-n.result ≡ record_at records number = c.record_at-n.ensures in
    let lets : c.start_of.result ≡ parents_let records (record_at records number) = c.start_of.ensures ∙ ap (parents_let records) noted in
    wrong_start comps timed records c.args.interval c.args.finishes.now are known number (c.loop-number.invariant comps timed are known) within
    (λ same. c.if-n-start_of.true (ap (λ (n : Numbers). n.start) noted ∙ (same ∙ sym lets)))

pub returns-then-n-finishes : goal.returns-then-n-finishes
returns-then-n-finishes c comps timed are known =
    let records : List ℕ = c.args.records.now in
    let number = c.loop-number.number in
    let within : number < length timed = omega (arith, c.loop-number-test.true, c.requires.3, c.requires.2.long, are.long) in
    let noted : c.record_at-n.result ≡ record_at records number = c.record_at-n.ensures in
    let lets : c.start_of.result ≡ parents_let records (record_at records number) = c.start_of.ensures ∙ ap (parents_let records) noted in
    let finish = get_or c.args.finishes.now number 0 in
    let there : slice_get c.args.finishes.now number ≡ Some finish = slice_get-get_or c.args.finishes.now number 0 (omega (arith, c.loop-number-test.true, c.requires.4)) in
    wrong_finish comps timed records c.args.interval c.args.finishes.now are known number (c.loop-number.invariant comps timed are known) finish within
    (sym (ap (λ (n : Numbers). n.start) noted) ∙ (c.if-n-start_of.false ∙ lets)) there
    (λ same. c.if-n-finishes.true (ap (λ (n : Numbers). n.finish) noted ∙ same))

pub loop-number-preserved : goal.loop-number-preserved
loop-number-preserved c comps timed are known =
    let records : List ℕ = c.args.records.now in
    let number = c.loop-number.number in
    let noted : c.record_at-n.result ≡ record_at records number = c.record_at-n.ensures in
    let lets : c.start_of.result ≡ parents_let records (record_at records number) = c.start_of.ensures ∙ ap (parents_let records) noted in
    let finish = get_or c.args.finishes.now number 0 in
    let there : slice_get c.args.finishes.now number ≡ Some finish = slice_get-get_or c.args.finishes.now number 0 (omega (arith, c.loop-number-test.true, c.requires.4)) in
    still_none comps timed records c.args.interval c.args.finishes.now are known number (c.loop-number.invariant comps timed are known) finish
    (sym (ap (λ (n : Numbers). n.start) noted) ∙ (c.if-n-start_of.false ∙ lets)) there
    (sym (ap (λ (n : Numbers). n.finish) noted) ∙ c.if-n-finishes.false)

pub returns : goal.returns
returns c comps timed are known =
    all_right comps timed c.args.records.now c.args.interval c.args.finishes.now are known c.loop-number.number (c.loop-number.invariant comps timed are known)
    (omega (arith, c.loop-number-test.false, c.requires.3, c.requires.2.long, are.long))
