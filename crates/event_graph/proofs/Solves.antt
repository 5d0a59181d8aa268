-- The weave is a solution of the timing rules.
use Rattle.std.proofs.Common.{◌≡◌, ℕ, Bool, List, map, length, Some, sym, ◌∙◌, ap, subst, refl}
use Rattle.component.specs.declared.kind.Kind.{Kind}
use Rattle.event_graph.specs.declared.event.Event.{Event}
use Rattle.event_graph.specs.declared.fired.Fired.{Fired}
use Rattle.event_graph.specs.Firing.{time_so_far}
use Rattle.event_graph.specs.Numbered.{IsNumbered}
use Rattle.event_graph.specs.OneListWeave.{FiredEvent, find_fired, finish_in, finish_or_zero, fired_of, fired_or_unfired, start_of, fired_event_in, weave, woven}
use Rattle.event_graph.specs.TimingSolution.{IsSolution}
use Rattle.event_graph.proofs.FindFired.{IsOneEach, find_from_in, found_in, extends_from, some_from_fired, start_extends}
use Rattle.event_graph.proofs.Least.{same_event}
use Rattle.event_graph.proofs.Lists.{In, contains_in, from_map, in_contains, in_map, map_itself, map_map, map_same}
use Rattle.event_graph.proofs.Progress.{all_fired, holds}
use Rattle.event_graph.proofs.BetweenFirings.{HoldsBetween, IsLawful, IsServed}

abbrev times_of : ℕ → ℕ → ℕ → Fired
times_of n s f = record { number = n; start = s; finish = f }

same_times : (n m s t f g : ℕ) → n ≡ m → s ≡ t → f ≡ g → times_of n s f ≡ times_of m t g
same_times n m s t f g a b c = cc

module _ {C : Type 0} (serves : C → Kind → Bool) (stepped : C → Kind → ℕ → C × ℕ) (events : List Event) (comps : List C)
    (lawful : IsLawful serves stepped) (numbered : IsNumbered events) (fits : (e : Event) → In e events → IsServed serves comps e) where
  pub held : HoldsBetween serves stepped events comps (weave stepped events comps)
  held = holds serves stepped events comps lawful numbered fits (length events)

  pub woven-is : woven stepped events comps ≡ map (fired_event_in (weave stepped events comps).fired) events
  unfolding woven
  woven-is = refl

  pub timed_at : (e : Event) → In e events → (x : FiredEvent) × ((find_fired (weave stepped events comps).fired e.number ≡ Some x) × (In x (weave stepped events comps).fired × (x.event ≡ e)))
  timed_at e m =
      let r : (x : FiredEvent) × (find_fired (weave stepped events comps).fired e.number ≡ Some x) = some_from_fired _ (all_fired serves stepped events comps lawful numbered fits e m) in
      let k : In r.0 (weave stepped events comps).fired × (r.0.event.number ≡ e.number) = found_in (weave stepped events comps).fired e.number r.0 r.1 in
      (r.0, (r.1, (k.0, same_event events numbered r.0.event e (held.members r.0 k.0) m k.1)))

  pub answer_at : (x : FiredEvent) → In x (weave stepped events comps).fired → fired_event_in (weave stepped events comps).fired x.event ≡ x
  answer_at x m = ap (λ o. fired_or_unfired x.event o) (find_from_in (weave stepped events comps).fired held.one_each x x.event.number m refl)

  in_woven : (x : FiredEvent) → In x (weave stepped events comps).fired → In x (woven stepped events comps)
  in_woven x m =
      subst (λ xs. In x xs) (sym woven-is)
      (subst (λ z. In z (map (fired_event_in (weave stepped events comps).fired) events)) (answer_at x m)
      (in_map (fired_event_in (weave stepped events comps).fired) x.event events (held.members x m)))

  from_woven : (x : FiredEvent) → In x (woven stepped events comps) → In x (weave stepped events comps).fired
  from_woven x m =
      let r : (e : Event) × (In e events × (fired_event_in (weave stepped events comps).fired e ≡ x)) = from_map (fired_event_in (weave stepped events comps).fired) x events (subst (λ xs. In x xs) woven-is m) in
      let k : (y : FiredEvent) × ((find_fired (weave stepped events comps).fired r.0.number ≡ Some y) × (In y (weave stepped events comps).fired × (y.event ≡ r.0))) = timed_at r.0 r.1.0 in
      let same : k.0 ≡ x = ap (λ o. fired_or_unfired r.0 o) (sym k.1.0) ∙ r.1.1 in
      subst (λ z. In z (weave stepped events comps).fired) same k.1.1.0

  one_each_woven : IsOneEach (woven stepped events comps)
  one_each_woven x y mx my q = held.one_each x y (from_woven x mx) (from_woven y my) q

  event_of_answer : (e : Event) → In e events → (fired_event_in (weave stepped events comps).fired e).event ≡ e
  event_of_answer e m =
      let k : (y : FiredEvent) × ((find_fired (weave stepped events comps).fired e.number ≡ Some y) × (In y (weave stepped events comps).fired × (y.event ≡ e))) = timed_at e m in
      ap (λ o. (fired_or_unfired e o).event) k.1.0 ∙ k.1.1.1

  -- what is known of the events at the end is what the weave answers
  pub known_at_the_end : map (time_so_far (weave stepped events comps).fired) events ≡ map fired_of (woven stepped events comps)
  known_at_the_end =
      map_same (time_so_far (weave stepped events comps).fired) (λ e. fired_of (fired_event_in (weave stepped events comps).fired e)) events
      (λ e m.
      let k : (x : FiredEvent) × ((find_fired (weave stepped events comps).fired e.number ≡ Some x) × (In x (weave stepped events comps).fired × (x.event ≡ e))) = timed_at e m in
      let answer : fired_event_in (weave stepped events comps).fired e ≡ k.0 = ap (λ o. fired_or_unfired e o) k.1.0 in
      let finish : finish_in (weave stepped events comps).fired e.number ≡ k.0.finish = ap finish_or_zero k.1.0 in
      let start : start_of (finish_in (weave stepped events comps).fired) e ≡ k.0.start =
      ap (λ z. start_of (finish_in (weave stepped events comps).fired) z) (sym k.1.1.1) ∙ sym (held.starts k.0 k.1.1.0)
      in
      let number : e.number ≡ k.0.event.number = ap (λ (z : Event). z.number) (sym k.1.1.1) in
      same_times e.number k.0.event.number (start_of (finish_in (weave stepped events comps).fired) e) k.0.start (finish_in (weave stepped events comps).fired e.number) k.0.finish number start finish
      ∙ ap fired_of (sym answer))
      ∙ (sym (map_map (fired_event_in (weave stepped events comps).fired) fired_of events) ∙ ap (λ xs. map fired_of xs) (sym woven-is))

  pub solves : IsSolution stepped events comps (woven stepped events comps)
  solves = record {
    events_are =
        ap (λ xs. map (λ (x : FiredEvent). x.event) xs) woven-is
        ∙ (map_map (fired_event_in (weave stepped events comps).fired) (λ (x : FiredEvent). x.event) events
        ∙ map_itself (λ e. (fired_event_in (weave stepped events comps).fired e).event) events event_of_answer);
    starts = λ x m.
        let k : In x (weave stepped events comps).fired = from_woven x (in_contains x (woven stepped events comps) m) in
        held.starts x k ∙ sym (start_extends (weave stepped events comps).fired (woven stepped events comps) (extends_from (weave stepped events comps).fired (woven stepped events comps) one_each_woven in_woven) x.event (held.parents x k));
    sorted = (weave stepped events comps).fired;
    in_order = held.in_order;
    same = λ x. (
      λ m. contains_in x (woven stepped events comps) (in_woven x (in_contains x (weave stepped events comps).fired m)),
      λ m. contains_in x (weave stepped events comps).fired (from_woven x (in_contains x (woven stepped events comps) m)),
    );
    finishes = held.turns;
  }

  pub solves-sorted : solves.sorted ≡ (weave stepped events comps).fired
  unfolding solves
  solves-sorted = refl
