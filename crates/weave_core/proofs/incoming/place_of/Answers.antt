-- The numbers rise.
use Rattle.std.proofs.Common.{ℕ, ◌<◌, ◌≤◌, ◌≡◌, ◌+◌, ◌-◌, ◌/◌, slice_get, get_or, Some, sym, ◌∙◌, ap, inl, inr, arith}
use Rattle.std.proofs.lemmas.Bool.{cases_lt}
use Rattle.std.proofs.lemmas.Option.{same_Some, get_or_from_slice_get}
use Rattle.weave_core.specs.declared.incoming.Stub.{Stub}
use Rattle.weave_core.specs.Answer.{no_stub}
use Rattle.weave_core.proofs.Lists.{get_below, get_there}
use Rattle.weave_core.proofs.incoming.place_of.Goals as goal

pub loop-high-init : goal.loop-high-init
loop-high-init c =
    let r = c.requires.searched in
    record {
      between = λ place s h is. (omega arith, omega (arith, get_below c.args.stubs.now place s h));
      some = omega (arith, get_below c.args.stubs.now r.place r.stub r.there);
      within = omega arith;
    }

pub overflow_sub-high : goal.overflow_sub-high
overflow_sub-high c = omega (arith, c.loop-high.invariant.some)

pub bounds-stubs-middle : goal.bounds-stubs-middle
bounds-stubs-middle c = omega (arith, c.loop-high.invariant.some, c.loop-high.invariant.within, c.loop-high-test.true)

pub loop-high-preserved-then-stubs-middle : goal.loop-high-preserved-then-stubs-middle
loop-high-preserved-then-stubs-middle c =
    let middle : ℕ = c.loop-high.low + (c.loop-high.high - c.loop-high.low) / 2 in
    let below : middle < c.loop-high.high = omega (arith, c.loop-high.invariant.some, c.loop-high-test.true) in
    let m : (m : Stub) × (slice_get c.args.stubs.now middle ≡ Some m) = get_there c.args.stubs.now middle (omega (arith, below, c.loop-high.invariant.within)) in
    let read : get_or c.args.stubs.now middle no_stub ≡ m.0 = get_or_from_slice_get c.args.stubs.now middle m.0 no_stub m.1 in
    let number : (get_or c.args.stubs.now middle no_stub).number ≡ m.0.number = ap (λ (s : Stub). s.number) read in
    let upto : (get_or c.args.stubs.now middle no_stub).number ≤ c.args.crossing = c.if-stubs-middle.true in
    record {
      between = λ place s h is. (
        elim (cases_lt place middle) [
          | inl l ↦ let r : s.number < m.0.number = c.requires.searched.rising place middle s m.0 l h m.1 in absurd (omega (arith, r, number, upto, is))
          | inr o ↦ omega (arith, o)
        ],
        (c.loop-high.invariant.between place s h is).1,
      );
      some = below;
      within = c.loop-high.invariant.within;
    }

pub loop-high-preserved : goal.loop-high-preserved
loop-high-preserved c =
    let middle : ℕ = c.loop-high.low + (c.loop-high.high - c.loop-high.low) / 2 in
    let below : middle < c.loop-high.high = omega (arith, c.loop-high.invariant.some, c.loop-high-test.true) in
    let above : c.loop-high.low < middle = omega (arith, c.loop-high.invariant.some, c.loop-high-test.true) in
    let m : (m : Stub) × (slice_get c.args.stubs.now middle ≡ Some m) = get_there c.args.stubs.now middle (omega (arith, below, c.loop-high.invariant.within)) in
    let read : get_or c.args.stubs.now middle no_stub ≡ m.0 = get_or_from_slice_get c.args.stubs.now middle m.0 no_stub m.1 in
    let number : (get_or c.args.stubs.now middle no_stub).number ≡ m.0.number = ap (λ (s : Stub). s.number) read in
    let over : c.args.crossing < (get_or c.args.stubs.now middle no_stub).number = omega (arith, c.if-stubs-middle.false) in
    record {
      between = λ place s h is. (
        (c.loop-high.invariant.between place s h is).0,
        elim (cases_lt place middle) [
          | inl l ↦ omega (arith, l)
          | inr o ↦
              elim (cases_lt middle place) [
                | inl l ↦ let r : m.0.number < s.number = c.requires.searched.rising middle place m.0 s l m.1 h in absurd (omega (arith, r, number, over, is))
                | inr q ↦
                    let same : middle ≡ place = omega (arith, o, q) in
                    let stub : m.0 ≡ s = same_Some m.0 s (sym m.1 ∙ (ap (slice_get c.args.stubs.now) same ∙ h)) in
                    let n : m.0.number ≡ s.number = ap (λ (z : Stub). z.number) stub in
                    absurd (omega (arith, n, number, over, is))
              ]
        ],
      );
      some = above;
      within = omega (arith, below, c.loop-high.invariant.within);
    }

pub returns-clause-number : goal.returns-clause-number
returns-clause-number c = λ s h.
    let r = c.requires.searched in
    let b = c.loop-high.invariant.between r.place r.stub r.there r.number in
    let same : c.loop-high.low ≡ r.place = omega (arith, b.0, b.1, c.loop-high.invariant.some, c.loop-high-test.false) in
    let stub : s ≡ r.stub = same_Some s r.stub (sym h ∙ (ap (slice_get c.args.stubs.now) same ∙ r.there)) in
    ap (λ (z : Stub). z.number) stub ∙ r.number

pub returns-clause-there : goal.returns-clause-there
returns-clause-there c = omega (arith, c.loop-high.invariant.some, c.loop-high.invariant.within)
