-- The event is fine, and so are those before it.
use Rattle.std.proofs.Common.{◌≡◌, ◌<◌, ℕ, true, get_or, Some, sym, subst, inl, inr, arith, rules}
use Rattle.std.proofs.lemmas.Bool.{cases_eq}
use Rattle.std.specs.Prelude.{slice_get}
use Rattle.event_graph.specs.declared.event.Event.{Event}
use Rattle.event_graph.specs.Fits.{EventFits}
use Rattle.event_graph.specs.Near.{IsNear}
use Rattle.weave_core.specs.Beginning.{IsSmallEvent}
use Rattle.weave_core.specs.Layout.{no_event}
use Rattle.weave_tests.proofs.Lists.{get_within, read_is}
use Rattle.weave_tests.proofs.fitting.is_graph.Goals as goal

pub loop-index-preserved : goal.loop-index-preserved
loop-index-preserved g c =
    let i = c.loop-index.invariant in
    let fine : c.is_fine.result ≡ true = search rules in
    let here : (k : ℕ) (e : Event) → k ≡ c.loop-index.index → slice_get c.args.events.now k ≡ Some e → get_or c.args.events.now c.loop-index.index no_event ≡ e =
    λ k e same at. read_is c.args.events.now c.loop-index.index no_event e (subst (λ n. slice_get c.args.events.now n ≡ Some e) same at)
    in
    record {
      number = λ k e l at. elim (cases_eq k c.loop-index.index) [
        | inl same ↦ subst (λ (z : Event). z.number ≡ k) (here k e same at) (subst (λ n. (get_or c.args.events.now c.loop-index.index no_event).number ≡ n) (sym same) (c.is_fine.ensures.number fine))
        | inr ne ↦ i.number k e (omega (arith, l, ne)) at
      ];
      first = λ k e p l at h. elim (cases_eq k c.loop-index.index) [
        | inl same ↦ subst (λ n. p.number < n) (sym same) (c.is_fine.ensures.first fine p (subst (λ (z : Event). z.first ≡ Some p) (sym (here k e same at)) h))
        | inr ne ↦ i.first k e p (omega (arith, l, ne)) at h
      ];
      second = λ k e p l at h. elim (cases_eq k c.loop-index.index) [
        | inl same ↦ subst (λ n. p.number < n) (sym same) (c.is_fine.ensures.second fine p (subst (λ (z : Event). z.second ≡ Some p) (sym (here k e same at)) h))
        | inr ne ↦ i.second k e p (omega (arith, l, ne)) at h
      ];
      fits = λ k e l at. elim (cases_eq k c.loop-index.index) [
        | inl same ↦ subst (λ z. EventFits g.C.Component.serves g.C.Component.floor c.args.comps.now z) (here k e same at) (c.is_fine.ensures.fits fine)
        | inr ne ↦ i.fits k e (omega (arith, l, ne)) at
      ];
      near = λ k e l at. elim (cases_eq k c.loop-index.index) [
        | inl same ↦ subst (λ z. IsNear 4194304 4194304 z) (here k e same at) (c.is_fine.ensures.near fine)
        | inr ne ↦ i.near k e (omega (arith, l, ne)) at
      ];
      small = λ k e l at. elim (cases_eq k c.loop-index.index) [
        | inl same ↦ subst IsSmallEvent (here k e same at) (c.is_fine.ensures.small fine)
        | inr ne ↦ i.small k e (omega (arith, l, ne)) at
      ];
    }

pub returns-clause-numbered : goal.returns-clause-numbered
returns-clause-numbered g c = λ t.
    let i = c.loop-index.invariant in
    record {
      number = λ k e at. i.number k e (omega (arith, get_within c.args.events.now k e at, c.loop-index-test.false)) at;
      first = λ k e p at h. i.first k e p (omega (arith, get_within c.args.events.now k e at, c.loop-index-test.false)) at h;
      second = λ k e p at h. i.second k e p (omega (arith, get_within c.args.events.now k e at, c.loop-index-test.false)) at h;
    }

pub returns-clause-fits : goal.returns-clause-fits
returns-clause-fits g c = λ t k e at. c.loop-index.invariant.fits k e (omega (arith, get_within c.args.events.now k e at, c.loop-index-test.false)) at

pub returns-clause-near : goal.returns-clause-near
returns-clause-near g c = λ t k e at. c.loop-index.invariant.near k e (omega (arith, get_within c.args.events.now k e at, c.loop-index-test.false)) at

pub returns-clause-small : goal.returns-clause-small
returns-clause-small g c = λ t. record {
  each = λ k e at. c.loop-index.invariant.small k e (omega (arith, get_within c.args.events.now k e at, c.loop-index-test.false)) at;
}
