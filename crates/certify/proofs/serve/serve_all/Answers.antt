-- The turn of a key: its event's component serves the event.
use Rattle.std.proofs.Common.{◌≡◌, ◌<◌, ◌^◌, ℕ, List, Some, None, true, length, get_or, ap, sym, subst, ◌∙◌, arith}
use Rattle.std.specs.Prelude.{slice_get, slice_set}
use Rattle.std.specs.List.{find}
use Rattle.std.proofs.lemmas.Option.{get_or_from_slice_get, slice_get-get_or, slice_get_within}
use Rattle.component.specs.declared.comp.Comp.{Comp}
use Rattle.component.specs.declared.kind.Kind.{Kind}
use Rattle.component.specs.Serving.{comp_serves}
use Rattle.event_graph.specs.OneListWeave.{FiredEvent}
use Rattle.zs_num.specs.declared.time.Key.{Key}
use Rattle.certify.specs.declared.numbers.Numbers.{Numbers}
use Rattle.certify.specs.EventsFile.{kind_in}
use Rattle.certify.specs.Records.{AreFinishes, record_at}
use Rattle.certify.specs.ShortTimes.{HaveShortTimes, capped_step, longest_time}
use Rattle.certify.specs.Verdict.{after_all, is_wrong}
use Rattle.certify.proofs.AllServed.{comps_after_all, finishes_after_all, one_timed}
use Rattle.certify.proofs.Steps.{short_set}
use Rattle.certify.proofs.Turn.{after_turn, is_turn, now_short}
use Rattle.certify.proofs.serve.serve_all.Goals as goal

pub record_at-n-requires : goal.record_at-n-requires
record_at-n-requires c =
    let records : List ℕ = c.args.records.now in
    let asked = c.requires.interval in
    let k = c.loop-key.key-index in
    let key : Key = get_or c.args.keys.now k (record { start = 0; number = 0 }) in
    let at : slice_get c.args.keys.now k ≡ Some key = slice_get-get_or c.args.keys.now k (record { start = 0; number = 0 }) (omega (arith, c.loop-key-test.true)) in
    let have = c.loop-key.invariant.served asked.0 asked.1 asked.2 asked.3 in
    let turn = is_turn c.args.comps.now asked.0 records c.loop-key.comps c.loop-key.finishes c.args.keys.now k key asked.1 asked.2 have at in
    turn.1.within

pub unreachable-requires : goal.unreachable-requires
unreachable-requires c =
    let records : List ℕ = c.args.records.now in
    let asked = c.requires.interval in
    let k = c.loop-key.key-index in
    let key : Key = get_or c.args.keys.now k (record { start = 0; number = 0 }) in
    let at : slice_get c.args.keys.now k ≡ Some key = slice_get-get_or c.args.keys.now k (record { start = 0; number = 0 }) (omega (arith, c.loop-key-test.true)) in
    let have = c.loop-key.invariant.served asked.0 asked.1 asked.2 asked.3 in
    let turn = is_turn c.args.comps.now asked.0 records c.loop-key.comps c.loop-key.finishes c.args.keys.now k key asked.1 asked.2 have at in
    c.in_default.not-Some turn.0.event.kind (c.kind.ensures ∙ (ap kind_in c.record_at-n.ensures ∙ turn.1.known))

pub bounds-comps-n : goal.bounds-comps-n
bounds-comps-n c =
    let records : List ℕ = c.args.records.now in
    let asked = c.requires.interval in
    let k = c.loop-key.key-index in
    let key : Key = get_or c.args.keys.now k (record { start = 0; number = 0 }) in
    let at : slice_get c.args.keys.now k ≡ Some key = slice_get-get_or c.args.keys.now k (record { start = 0; number = 0 }) (omega (arith, c.loop-key-test.true)) in
    let have = c.loop-key.invariant.served asked.0 asked.1 asked.2 asked.3 in
    let turn = is_turn c.args.comps.now asked.0 records c.loop-key.comps c.loop-key.finishes c.args.keys.now k key asked.1 asked.2 have at in
    let component : c.record_at-n.result.component ≡ turn.0.event.component = ap (λ (n : Numbers). n.component) c.record_at-n.ensures ∙ turn.1.component in
    omega (arith, component, slice_get_within c.loop-key.comps turn.0.event.component turn.1.now turn.1.there)

pub serve-requires-clause-serves : goal.serve-requires-clause-serves
serve-requires-clause-serves c =
    let records : List ℕ = c.args.records.now in
    let asked = c.requires.interval in
    let k = c.loop-key.key-index in
    let key : Key = get_or c.args.keys.now k (record { start = 0; number = 0 }) in
    let at : slice_get c.args.keys.now k ≡ Some key = slice_get-get_or c.args.keys.now k (record { start = 0; number = 0 }) (omega (arith, c.loop-key-test.true)) in
    let have = c.loop-key.invariant.served asked.0 asked.1 asked.2 asked.3 in
    let turn = is_turn c.args.comps.now asked.0 records c.loop-key.comps c.loop-key.finishes c.args.keys.now k key asked.1 asked.2 have at in
    let component : c.record_at-n.result.component ≡ turn.0.event.component = ap (λ (n : Numbers). n.component) c.record_at-n.ensures ∙ turn.1.component in
    let kind : c.in-Some.kind ≡ turn.0.event.kind = (let same : Some c.in-Some.kind ≡ Some turn.0.event.kind = sym c.in-Some.is ∙ (c.kind.ensures ∙ (ap kind_in c.record_at-n.ensures ∙ turn.1.known)) in cc) in
    let itself : get_or c.loop-key.comps c.record_at-n.result.component c.index-comps-n.result ≡ turn.1.now =
    ap (λ (i : ℕ). get_or c.loop-key.comps i c.index-comps-n.result) component ∙ get_or_from_slice_get c.loop-key.comps turn.0.event.component turn.1.now c.index-comps-n.result turn.1.there in
    subst (λ (q : Comp). comp_serves q c.in-Some.kind ≡ true) (sym itself) (subst (λ (w : Kind). comp_serves turn.1.now w ≡ true) (sym kind) turn.1.serves)

pub serve-requires-clause-start : goal.serve-requires-clause-start
serve-requires-clause-start c =
    let records : List ℕ = c.args.records.now in
    let asked = c.requires.interval in
    let k = c.loop-key.key-index in
    let key : Key = get_or c.args.keys.now k (record { start = 0; number = 0 }) in
    let at : slice_get c.args.keys.now k ≡ Some key = slice_get-get_or c.args.keys.now k (record { start = 0; number = 0 }) (omega (arith, c.loop-key-test.true)) in
    let have = c.loop-key.invariant.served asked.0 asked.1 asked.2 asked.3 in
    let turn = is_turn c.args.comps.now asked.0 records c.loop-key.comps c.loop-key.finishes c.args.keys.now k key asked.1 asked.2 have at in
    turn.1.early

pub serve-requires-clause-times : goal.serve-requires-clause-times
serve-requires-clause-times c =
    let records : List ℕ = c.args.records.now in
    let asked = c.requires.interval in
    let k = c.loop-key.key-index in
    let key : Key = get_or c.args.keys.now k (record { start = 0; number = 0 }) in
    let at : slice_get c.args.keys.now k ≡ Some key = slice_get-get_or c.args.keys.now k (record { start = 0; number = 0 }) (omega (arith, c.loop-key-test.true)) in
    let have = c.loop-key.invariant.served asked.0 asked.1 asked.2 asked.3 in
    let turn = is_turn c.args.comps.now asked.0 records c.loop-key.comps c.loop-key.finishes c.args.keys.now k key asked.1 asked.2 have at in
    let component : c.record_at-n.result.component ≡ turn.0.event.component = ap (λ (n : Numbers). n.component) c.record_at-n.ensures ∙ turn.1.component in
    let kind : c.in-Some.kind ≡ turn.0.event.kind = (let same : Some c.in-Some.kind ≡ Some turn.0.event.kind = sym c.in-Some.is ∙ (c.kind.ensures ∙ (ap kind_in c.record_at-n.ensures ∙ turn.1.known)) in cc) in
    let itself : get_or c.loop-key.comps c.record_at-n.result.component c.index-comps-n.result ≡ turn.1.now =
    ap (λ (i : ℕ). get_or c.loop-key.comps i c.index-comps-n.result) component ∙ get_or_from_slice_get c.loop-key.comps turn.0.event.component turn.1.now c.index-comps-n.result turn.1.there in
    subst (λ (q : Comp). longest_time q < 2 ^ 60) (sym itself) (now_short c.args.comps.now asked.0 records c.loop-key.comps k key turn.0 turn.1 c.loop-key.invariant.times)

pub bounds-finishes-key : goal.bounds-finishes-key
bounds-finishes-key c =
    let records : List ℕ = c.args.records.now in
    let asked = c.requires.interval in
    let k = c.loop-key.key-index in
    let key : Key = get_or c.args.keys.now k (record { start = 0; number = 0 }) in
    let at : slice_get c.args.keys.now k ≡ Some key = slice_get-get_or c.args.keys.now k (record { start = 0; number = 0 }) (omega (arith, c.loop-key-test.true)) in
    let have = c.loop-key.invariant.served asked.0 asked.1 asked.2 asked.3 in
    let turn = is_turn c.args.comps.now asked.0 records c.loop-key.comps c.loop-key.finishes c.args.keys.now k key asked.1 asked.2 have at in
    omega (arith, slice_get_within asked.0 key.number turn.0 turn.1.place, have.long)

pub loop-key-preserved : goal.loop-key-preserved
loop-key-preserved c = record {
  served = λ timed are keys_are long.
      let records : List ℕ = c.args.records.now in
      let k = c.loop-key.key-index in
      let key : Key = get_or c.args.keys.now k (record { start = 0; number = 0 }) in
      let at : slice_get c.args.keys.now k ≡ Some key = slice_get-get_or c.args.keys.now k (record { start = 0; number = 0 }) (omega (arith, c.loop-key-test.true)) in
      let have = c.loop-key.invariant.served timed are keys_are long in
      let turn = is_turn c.args.comps.now timed records c.loop-key.comps c.loop-key.finishes c.args.keys.now k key are keys_are have at in
      let component : c.record_at-n.result.component ≡ turn.0.event.component = ap (λ (n : Numbers). n.component) c.record_at-n.ensures ∙ turn.1.component in
      let kind : c.in-Some.kind ≡ turn.0.event.kind = (let same : Some c.in-Some.kind ≡ Some turn.0.event.kind = sym c.in-Some.is ∙ (c.kind.ensures ∙ (ap kind_in c.record_at-n.ensures ∙ turn.1.known)) in cc) in
      let itself : get_or c.loop-key.comps c.record_at-n.result.component c.index-comps-n.result ≡ turn.1.now =
      ap (λ (i : ℕ). get_or c.loop-key.comps i c.index-comps-n.result) component ∙ get_or_from_slice_get c.loop-key.comps turn.0.event.component turn.1.now c.index-comps-n.result turn.1.there in
      let stepped : capped_step (get_or c.loop-key.comps c.record_at-n.result.component c.index-comps-n.result) c.in-Some.kind key.start ≡ capped_step turn.1.now turn.0.event.kind key.start =
      ap (λ (q : Comp). capped_step q c.in-Some.kind key.start) itself ∙ ap (λ (w : Kind). capped_step turn.1.now w key.start) kind in
      after_turn c.args.comps.now timed records c.loop-key.comps (slice_set c.loop-key.comps c.record_at-n.result.component c.serve.new.comp) c.loop-key.finishes (slice_set c.loop-key.finishes key.number c.serve.result)
      k key turn.0 are have turn.1
      (ap (λ (i : ℕ). slice_set c.loop-key.comps i c.serve.new.comp) (ap (λ (n : Numbers). n.component) c.record_at-n.ensures)
      ∙ ap (λ (q : Comp). slice_set c.loop-key.comps (record_at records key.number).component q) (ap (λ p. p.0) c.serve.ensures ∙ ap (λ p. p.0) stepped))
      (ap (λ (n : ℕ). slice_set c.loop-key.finishes key.number n) (ap (λ p. p.1) c.serve.ensures ∙ ap (λ p. p.1) stepped));
  times =
      let records : List ℕ = c.args.records.now in
      let asked = c.requires.interval in
      let k = c.loop-key.key-index in
      let key : Key = get_or c.args.keys.now k (record { start = 0; number = 0 }) in
      let at : slice_get c.args.keys.now k ≡ Some key = slice_get-get_or c.args.keys.now k (record { start = 0; number = 0 }) (omega (arith, c.loop-key-test.true)) in
      let have = c.loop-key.invariant.served asked.0 asked.1 asked.2 asked.3 in
      let turn = is_turn c.args.comps.now asked.0 records c.loop-key.comps c.loop-key.finishes c.args.keys.now k key asked.1 asked.2 have at in
      let component : c.record_at-n.result.component ≡ turn.0.event.component = ap (λ (n : Numbers). n.component) c.record_at-n.ensures ∙ turn.1.component in
      let kind : c.in-Some.kind ≡ turn.0.event.kind = (let same : Some c.in-Some.kind ≡ Some turn.0.event.kind = sym c.in-Some.is ∙ (c.kind.ensures ∙ (ap kind_in c.record_at-n.ensures ∙ turn.1.known)) in cc) in
      let itself : get_or c.loop-key.comps c.record_at-n.result.component c.index-comps-n.result ≡ turn.1.now =
      ap (λ (i : ℕ). get_or c.loop-key.comps i c.index-comps-n.result) component ∙ get_or_from_slice_get c.loop-key.comps turn.0.event.component turn.1.now c.index-comps-n.result turn.1.there in
      let stepped : capped_step (get_or c.loop-key.comps c.record_at-n.result.component c.index-comps-n.result) c.in-Some.kind key.start ≡ capped_step turn.1.now turn.0.event.kind key.start =
      ap (λ (q : Comp). capped_step q c.in-Some.kind key.start) itself ∙ ap (λ (w : Kind). capped_step turn.1.now w key.start) kind in
      let there : slice_get c.loop-key.comps c.record_at-n.result.component ≡ Some turn.1.now = ap (slice_get c.loop-key.comps) component ∙ turn.1.there in
      subst (λ (q : Comp). HaveShortTimes (slice_set c.loop-key.comps c.record_at-n.result.component q)) (sym (ap (λ p. p.0) c.serve.ensures ∙ ap (λ p. p.0) stepped))
      (short_set c.loop-key.comps c.record_at-n.result.component turn.1.now turn.0.event.kind key.start c.loop-key.invariant.times there);
}

pub returns-clause-comps : goal.returns-clause-comps
returns-clause-comps c timed are none =
    let asked = c.requires.interval in
    let same = one_timed c.args.comps.now timed asked.0 c.args.records.now are asked.1 in
    subst (λ (t : List FiredEvent). c.loop-key.comps ≡ after_all c.args.comps.now t) (sym same)
    (comps_after_all c.args.comps.now asked.0 c.args.records.now c.loop-key.comps c.loop-key.finishes c.args.keys.now c.loop-key.key-index asked.1 asked.2 (omega (arith, c.loop-key-test.false))
    (c.loop-key.invariant.served asked.0 asked.1 asked.2 asked.3) (subst (λ (t : List FiredEvent). find (is_wrong c.args.comps.now t) t ≡ None) same none))

pub returns-clause-long : goal.returns-clause-long
returns-clause-long c timed are =
    let asked = c.requires.interval in
    (c.loop-key.invariant.served asked.0 asked.1 asked.2 asked.3).long ∙ ap length (one_timed c.args.comps.now asked.0 timed c.args.records.now asked.1 are)

pub returns-clause-finishes : goal.returns-clause-finishes
returns-clause-finishes c timed are =
    let asked = c.requires.interval in
    subst (λ (t : List FiredEvent). AreFinishes c.args.comps.now t c.loop-key.finishes) (one_timed c.args.comps.now asked.0 timed c.args.records.now asked.1 are)
    (finishes_after_all c.args.comps.now asked.0 c.args.records.now c.loop-key.comps c.loop-key.finishes c.args.keys.now c.loop-key.key-index asked.1 asked.2 (omega (arith, c.loop-key-test.false))
    (c.loop-key.invariant.served asked.0 asked.1 asked.2 asked.3))
