-- What records stand for is a graph that fits.
use Rattle.std.proofs.Common.{◌≡◌, ◌<◌, ◌+◌, ℕ, Bool, true, false, List, Option, Some, None, ap, sym, ◌∙◌, subst, nat_lt}
use Rattle.std.specs.Prelude.{slice_get}
use Rattle.std.proofs.lemmas.Bool.{ltb-true}
use Rattle.component.specs.declared.comp.Comp.{Comp}
use Rattle.component.specs.Serving.{comp_latency, comp_serves}
use Rattle.event_graph.specs.declared.event.Event.{Event}
use Rattle.event_graph.specs.declared.event.Parent.{Parent}
use Rattle.event_graph.specs.Fits.{EventFits}
use Rattle.event_graph.specs.OneListWeave.{FiredEvent}
use Rattle.certify.specs.CanBeFiled.{IsFitting}
use Rattle.certify.specs.EventsFile.{has_first, has_second, is_cycle, is_parent, parent_if}
use Rattle.certify.specs.Records.{AreRecords, record_at}
use Rattle.certify.proofs.Lists.{mapped}
use Rattle.certify.proofs.Places.{number_at, stands_at}
use Rattle.certify.proofs.Records.{both}

parent_before : (there : Bool) (place number delay : ℕ) (p : Parent) → is_parent there place number delay ≡ true → parent_if there number delay ≡ Some p → p.number < place
parent_before true place number delay p is named =
    let tests = both (nat_lt number place) (is_cycle delay) is in
    let same : number ≡ p.number = ap number_or_zero named in
    subst (λ n. n < place) same (ltb-true number place tests.0)
  where
    number_or_zero : Option Parent → ℕ
    number_or_zero None = 0
    number_or_zero (Some q) = q.number
parent_before false place number delay p is named = cc

pub are_fitting : (comps : List Comp) (timed : List FiredEvent) (records : List ℕ) → AreRecords comps timed records → IsFitting comps timed
are_fitting comps timed records are = record {
  numbered = record {
    number = λ i e at. (let x = mapped (λ (x : FiredEvent). x.event) timed i e at in ap (λ (d : Event). d.number) (sym x.2) ∙ number_at comps timed records i x.0 are x.1);
    first = λ i e p at named.
        let x = mapped (λ (x : FiredEvent). x.event) timed i e at in
        let n = record_at records i in
        let stands = stands_at comps timed records i x.0 are x.1 in
        parent_before (has_first n) i n.first n.first_delay p stands.meaning.first
        (ap (λ (y : FiredEvent). y.event.first) stands.is ∙ (ap (λ (d : Event). d.first) x.2 ∙ named));
    second = λ i e p at named.
        let x = mapped (λ (x : FiredEvent). x.event) timed i e at in
        let n = record_at records i in
        let stands = stands_at comps timed records i x.0 are x.1 in
        parent_before (has_second n) i n.second n.second_delay p stands.meaning.second
        (ap (λ (y : FiredEvent). y.event.second) stands.is ∙ (ap (λ (d : Event). d.second) x.2 ∙ named));
  };
  fits = λ i e at.
      let x = mapped (λ (x : FiredEvent). x.event) timed i e at in
      let n = record_at records i in
      let stands = stands_at comps timed records i x.0 are x.1 in
      let component : n.component ≡ x.0.event.component = ap (λ (y : FiredEvent). y.event.component) stands.is in
      let ends : x.0.event.min_start + comp_latency stands.component x.0.event.kind ≡ x.0.event.min_finish =
      ap (λ m. m + comp_latency stands.component x.0.event.kind) (sym (ap (λ (y : FiredEvent). y.event.min_start) stands.is)) ∙ ap (λ (y : FiredEvent). y.event.min_finish) stands.is in
      let fits : EventFits comp_serves comp_latency comps x.0.event = record {
        component = stands.component;
        there = ap (slice_get comps) (sym component) ∙ stands.there;
        served = stands.served;
        floor_is = ends;
      } in
      subst (EventFits comp_serves comp_latency comps) x.2 fits;
}
