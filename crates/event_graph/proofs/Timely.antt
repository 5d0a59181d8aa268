-- What the weave answers is timely.
use Rattle.std.proofs.Common.{◌≡◌, ◌≤◌, ◌+◌, ◌==◌, ℕ, Bool, true, List, map, length, Some, ◌∙◌, ap, subst, refl, arith}
use Rattle.std.specs.Prelude.{IsTrue, slice_get}
use Rattle.std.proofs.lemmas.Bool.{eq-eqb, eqb-true}
use Rattle.std.proofs.lemmas.List.{length-map}
use Rattle.component.specs.declared.kind.Kind.{Kind}
use Rattle.event_graph.specs.declared.event.Event.{Event}
use Rattle.event_graph.specs.Fits.{EventFits, GraphFits}
use Rattle.event_graph.specs.Numbered.{IsNumbered}
use Rattle.event_graph.specs.OneListWeave.{FiredEvent, find_fired, fired_of, fired_or_unfired, fired_event_in, weave, woven}
use Rattle.event_graph.specs.SmallSteps.{AreSmallSteps}
use Rattle.event_graph.specs.Timely.{AreTimely, IsTimely}
use Rattle.event_graph.specs.ServedEvents.{of_component}
use Rattle.event_graph.proofs.Lists.{In, at_in, from_filter, get-map, in_at, in_filter}
use Rattle.event_graph.proofs.BetweenFirings.{HoldsBetween, IsLawful, IsServed}
use Rattle.event_graph.proofs.Solves.{timed_at, held, woven-is}
use Rattle.event_graph.proofs.SmallSteps.{times}
use Rattle.event_graph.proofs.Theorem.{served_from}
use Rattle.event_graph.proofs.Turns.{turns_take}

module _ {C : Type 0} (serves : C → Kind → Bool) (floor : C → Kind → ℕ) (stepped : C → Kind → ℕ → C × ℕ) (greatest : C → Kind → ℕ → ℕ) (events : List Event) (comps : List C)
    (lawful : IsLawful serves stepped)
    (floor_holds : (c : C) (kind : Kind) (start : ℕ) → IsTrue (serves c kind) → start + floor c kind ≤ (stepped c kind start).1)
    (floor_stays : (c : C) (kind : Kind) (start : ℕ) (other : Kind) → IsTrue (serves c kind) → floor (stepped c kind start).0 other ≡ floor c other)
    (counts : (c : C) (kind : Kind) (start : ℕ) → IsTrue (serves c kind) → (stepped c kind start).1 ≤ greatest c kind start)
    (numbered : IsNumbered events) (fits : GraphFits serves floor events comps) (small : AreSmallSteps stepped greatest events comps) where
  abbrev fired : List FiredEvent
  fired = (weave stepped events comps).fired

  served : (e : Event) → In e events → IsServed serves comps e
  served = served_from serves floor stepped events comps fits

  holds_at_end : HoldsBetween serves stepped events comps (weave stepped events comps)
  holds_at_end = held serves stepped events comps lawful numbered served

  -- a component serves the kinds of all its events
  serves_each : (number : ℕ) (c : C) → slice_get comps number ≡ Some c → (x : FiredEvent) → In x (of_component number fired) → IsTrue (serves c x.event.kind)
  serves_each number c there x m =
      let r : In x fired × ((x.event.component == number) ≡ true) = from_filter (λ (t : FiredEvent). t.event.component == number) x fired m in
      let s : IsServed serves comps x.event = served x.event (holds_at_end.members x r.0) in
      let found : slice_get comps number ≡ Some s.0 = subst (λ n. slice_get comps n ≡ Some s.0) (eqb-true x.event.component number r.1) s.1.0 in
      let same : s.0 ≡ c = cc in
      subst (λ z. IsTrue (serves z x.event.kind)) same s.1.1

  takes_its_floor : (x : FiredEvent) → In x fired → (f : EventFits serves floor comps x.event) → x.start + floor f.component x.event.kind ≤ x.finish
  takes_its_floor x m f =
      turns_take stepped serves floor lawful.stays floor_stays floor_holds f.component (of_component x.event.component fired)
      (serves_each x.event.component f.component f.there) (holds_at_end.turns x.event.component f.component f.there) x
      (in_filter (λ (t : FiredEvent). t.event.component == x.event.component) x fired m (eq-eqb x.event.component x.event.component refl))

  timely : (x : FiredEvent) → In x fired → IsTimely x.event (fired_of x)
  timely x m =
      let at : (i : ℕ) × (slice_get events i ≡ Some x.event) = in_at x.event events (holds_at_end.members x m) in
      let f : EventFits serves floor comps x.event = fits at.0 x.event at.1 in
      record {
        number = refl;
        start = omega (arith, holds_at_end.starts x m);
        time = omega (arith, takes_its_floor x m f, f.floor_is);
        small = (times serves stepped greatest events comps lawful counts numbered served small (length events) x m).1;
      }

  pub all_timely : AreTimely events (map fired_of (woven stepped events comps))
  all_timely =
      let answers : woven stepped events comps ≡ map (fired_event_in fired) events = woven-is serves stepped events comps lawful numbered served in
      record {
        count = length-map (woven stepped events comps) fired_of ∙ (ap length answers ∙ length-map events (fired_event_in fired));
        each = λ i e f at at'.
            let k : (x : FiredEvent) × ((find_fired fired e.number ≡ Some x) × (In x fired × (x.event ≡ e))) = timed_at serves stepped events comps lawful numbered served e (at_in e events i at) in
            let there : slice_get (map fired_of (woven stepped events comps)) i ≡ Some (fired_of (fired_event_in fired e)) =
            ap (λ xs. slice_get (map fired_of xs) i) answers ∙ get-map fired_of (fired_event_in fired e) (map (fired_event_in fired) events) i (get-map (fired_event_in fired) e events i at)
            in
            let answer : fired_of (fired_event_in fired e) ≡ fired_of k.0 = ap (λ o. fired_of (fired_or_unfired e o)) k.1.0 in
            let same : fired_of k.0 ≡ f = cc in
            subst (λ z. IsTimely e z) same (subst (λ z. IsTimely z (fired_of k.0)) k.1.1.1 (timely k.0 k.1.1.0));
      }
