-- The firings of a weave whose steps are small: no finish and no start so far is late.
use Rattle.std.proofs.Common.{◌≡◌, ◌<◌, ◌≤◌, ◌^◌, ℕ, zero, suc, Bool, List, [], ◌∷◌, length, inl, inr, Option, Some, None, sym, ◌∙◌, ap, subst, refl, arith}
use Rattle.std.specs.Prelude.{IsTrue, IfSome, slice_get}
use Rattle.std.proofs.lemmas.Bool.{cases_eq, cases_lt}
use Rattle.component.specs.declared.kind.Kind.{Kind}
use Rattle.event_graph.specs.declared.event.Event.{Event}
use Rattle.event_graph.specs.Numbered.{IsNumbered}
use Rattle.event_graph.specs.OneListWeave.{FiredEvent, Weave, after_firings, finish_in, finish_or_zero, find_fired, least_ready, fire_least, start_of, weave}
use Rattle.event_graph.specs.SmallSteps.{AreSmallSteps, IsSmallStep}
use Rattle.event_graph.proofs.FindFired.{find_from_in, fired_in, found_in, start_mono}
use Rattle.event_graph.proofs.Least.{IsLeast, least_some, same_event}
use Rattle.event_graph.proofs.Lists.{In, in_left, in_push_cases}
use Rattle.event_graph.proofs.Progress.{after_first_firing, after_more, all_fired, fire_least_serves, fire_least_stays, holds, stays as all_done}
use Rattle.event_graph.proofs.BetweenFirings.{HoldsBetween, IsLawful, IsServed}

module _ {C : Type 0} (serves : C → Kind → Bool) (stepped : C → Kind → ℕ → C × ℕ) (greatest : C → Kind → ℕ → ℕ) (events : List Event) (comps : List C)
    (lawful : IsLawful serves stepped) (counts : (c : C) (kind : Kind) (start : ℕ) → IsTrue (serves c kind) → (stepped c kind start).1 ≤ greatest c kind start)
    (numbered : IsNumbered events) (fits : (e : Event) → In e events → IsServed serves comps e) (small : AreSmallSteps stepped greatest events comps) where
  pub small_step : (n : ℕ) (r : Event × ℕ) (c : C) → least_ready (after_firings stepped events comps n).fired events ≡ Some r → slice_get (after_firings stepped events comps n).comps r.0.component ≡ Some c → greatest c r.0.kind r.1 ≤ 2 ^ 62
  small_step n r c h k =
      let a : IsSmallStep stepped greatest (after_firings stepped events comps n) (Some r) = subst (λ o. IsSmallStep stepped greatest (after_firings stepped events comps n) o) h (small n) in
      subst (λ o. IfSome o (λ c. greatest c r.0.kind r.1 ≤ 2 ^ 62)) k a

  times_by : (n : ℕ) → ((x : FiredEvent) → In x (after_firings stepped events comps n).fired → (x.start < x.finish) × (x.finish ≤ 2 ^ 62))
      → (o : Option (Event × ℕ)) → least_ready (after_firings stepped events comps n).fired events ≡ o
      → (x : FiredEvent) → In x (fire_least stepped events (after_firings stepped events comps n)).fired → (x.start < x.finish) × (x.finish ≤ 2 ^ 62)
  times_by n ih None is x m = ih x (subst (λ (v : Weave C). In x v.fired) (fire_least_stays serves stepped events comps (after_firings stepped events comps n) is) m)
  times_by n ih (Some r) is x m =
      let w : Weave C = after_firings stepped events comps n in
      let l : IsLeast w.fired events r.0 r.1 = least_some w.fired events r is in
      let f : IsServed serves w.comps r.0 = (holds serves stepped events comps lawful numbered fits n).are_served r.0 l.member in
      let next : FiredEvent = record { event = r.0; start = r.1; finish = (stepped f.0 r.0.kind r.1).1 } in
      elim (in_push_cases x w.fired next (subst (λ (v : Weave C). In x v.fired) (fire_least_serves serves stepped events comps w r f.0 is f.1.0) m)) [
        | inl old ↦ ih x old
        | inr same ↦
            subst (λ (z : FiredEvent). (z.start < z.finish) × (z.finish ≤ 2 ^ 62)) same
            (lawful.grows f.0 r.0.kind r.1 f.1.1, omega (arith, counts f.0 r.0.kind r.1 f.1.1, small_step n r f.0 is f.1.0))
      ]

  -- each next finishes later than it starts, and at a small cycle
  pub times : (n : ℕ) (x : FiredEvent) → In x (after_firings stepped events comps n).fired → (x.start < x.finish) × (x.finish ≤ 2 ^ 62)
  times zero x m = absurd (subst (λ (v : Weave C). In x v.fired) (after_first_firing serves stepped events comps) m)
  times (suc n) x m =
      times_by n (λ y k. times n y k) (least_ready (after_firings stepped events comps n).fired events) refl x
      (subst (λ (v : Weave C). In x v.fired) (after_more serves stepped events comps n) m)

  pub grown : (n : ℕ) (x : FiredEvent) → In x (after_firings stepped events comps n).fired → x.start < x.finish
  grown n x m = (times n x m).0

  kept_by : (n : ℕ) (x : FiredEvent) → In x (after_firings stepped events comps n).fired → (o : Option (Event × ℕ)) → least_ready (after_firings stepped events comps n).fired events ≡ o
      → In x (fire_least stepped events (after_firings stepped events comps n)).fired
  kept_by n x m None is = subst (λ (v : Weave C). In x v.fired) (sym (fire_least_stays serves stepped events comps (after_firings stepped events comps n) is)) m
  kept_by n x m (Some r) is =
      let w : Weave C = after_firings stepped events comps n in
      let l : IsLeast w.fired events r.0 r.1 = least_some w.fired events r is in
      let f : IsServed serves w.comps r.0 = (holds serves stepped events comps lawful numbered fits n).are_served r.0 l.member in
      let next : FiredEvent = record { event = r.0; start = r.1; finish = (stepped f.0 r.0.kind r.1).1 } in
      subst (λ (v : Weave C). In x v.fired) (sym (fire_least_serves serves stepped events comps w r f.0 is f.1.0)) (in_left x w.fired (next ∷ []) m)

  pub later : (n m : ℕ) → n ≤ m → (x : FiredEvent) → In x (after_firings stepped events comps n).fired → In x (after_firings stepped events comps m).fired
  later n zero l x h = subst (λ k. In x (after_firings stepped events comps k).fired) (omega arith) h
  later n (suc m) l x h =
      elim (cases_eq n (suc m)) [
        | inl same ↦ subst (λ k. In x (after_firings stepped events comps k).fired) same h
        | inr ne ↦
            subst (λ (v : Weave C). In x v.fired) (sym (after_more serves stepped events comps m))
            (kept_by m x (later n m (omega (arith, l, ne)) x h) (least_ready (after_firings stepped events comps m).fired events) refl)
      ]

  by_the_end : (n : ℕ) (x : FiredEvent) → In x (after_firings stepped events comps n).fired → In x (weave stepped events comps).fired
  by_the_end n x m =
      elim (cases_lt n (length events)) [
        | inl l ↦ later n (length events) (omega arith) x m
        | inr l ↦ subst (λ (v : Weave C). In x v.fired) (all_done serves stepped events comps lawful numbered fits (length events) (all_fired serves stepped events comps lawful numbered fits) n l) m
      ]

  -- each event's start so far is no later than its start in the weave
  earlier_finish : (n k : ℕ) → (o : Option FiredEvent) → find_fired (after_firings stepped events comps n).fired k ≡ o → finish_or_zero o ≤ finish_in (weave stepped events comps).fired k
  earlier_finish n k None is = omega arith
  earlier_finish n k (Some x) is =
      let found : In x (after_firings stepped events comps n).fired × (x.event.number ≡ k) = found_in (after_firings stepped events comps n).fired k x is in
      let same : find_fired (weave stepped events comps).fired k ≡ Some x = find_from_in (weave stepped events comps).fired (holds serves stepped events comps lawful numbered fits (length events)).one_each x k (by_the_end n x found.0) found.1 in
      omega (arith, ap finish_or_zero same)

  pub start_small : (n : ℕ) (e : Event) → In e events → start_of (finish_in (after_firings stepped events comps n).fired) e ≤ 2 ^ 62
  start_small n e m =
      let end : HoldsBetween serves stepped events comps (weave stepped events comps) = holds serves stepped events comps lawful numbered fits (length events) in
      let x : (x : FiredEvent) × (In x (weave stepped events comps).fired × (x.event.number ≡ e.number)) =
      fired_in (weave stepped events comps).fired e.number (all_fired serves stepped events comps lawful numbered fits e m)
      in
      let same : x.0.event ≡ e = same_event events numbered x.0.event e (end.members x.0 x.1.0) m x.1.1 in
      let start : x.0.start ≡ start_of (finish_in (weave stepped events comps).fired) e = end.starts x.0 x.1.0 ∙ ap (λ z. start_of (finish_in (weave stepped events comps).fired) z) same in
      let small : (x.0.start < x.0.finish) × (x.0.finish ≤ 2 ^ 62) = times (length events) x.0 x.1.0 in
      let below : start_of (finish_in (after_firings stepped events comps n).fired) e ≤ start_of (finish_in (weave stepped events comps).fired) e =
      start_mono (finish_in (after_firings stepped events comps n).fired) (finish_in (weave stepped events comps).fired) (λ k. earlier_finish n k (find_fired (after_firings stepped events comps n).fired k) refl) e
      in
      omega (arith, below, start, small.0, small.1)
