-- A weave of paced components reaches no further than the sum of its steps and delays.
use Rattle.std.proofs.Common.{◌≡◌, ◌<◌, ◌≤◌, ◌+◌, ◌*◌, ◌^◌, ℕ, zero, suc, Bool, List, length, set, inl, inr, Option, Some, None, sym, ◌∙◌, ap, subst, refl, arith}
use Rattle.std.specs.Prelude.{IsTrue, IfSome, slice_get}
use Rattle.std.proofs.Math.Nat.{mul-le-mul_right}
use Rattle.std.proofs.lemmas.Bool.{cases_eq, cases_lt}
use Rattle.component.specs.declared.kind.Kind.{Kind}
use Rattle.event_graph.specs.declared.event.Event.{Event}
use Rattle.event_graph.specs.declared.event.Parent.{Parent}
use Rattle.event_graph.specs.Numbered.{IsNumbered}
use Rattle.event_graph.specs.OneListWeave.{FiredEvent, Weave, after_firings, after_parent, find_fired, finish_in, finish_or_zero, fire_least, least_ready, start_of, weave}
use Rattle.event_graph.specs.SmallSteps.{AreSmallSteps, IsSmallStep}
use Rattle.event_graph.specs.Near.{AreNear, IsNear}
use Rattle.event_graph.specs.Growth.{BeginBy, IsPaced}
use Rattle.event_graph.proofs.FindFired.{found_in}
use Rattle.event_graph.proofs.Least.{IsLeast, least_some}
use Rattle.event_graph.proofs.Lists.{In, get-set_other, get-set_same, in_at, in_push_cases}
use Rattle.event_graph.proofs.Progress.{after_first_firing, after_more, all_fired, fire_least_serves, fire_least_stays, holds, none_from_all, stays}
use Rattle.event_graph.proofs.BetweenFirings.{IsLawful, IsServed}

finish_below : (fired : List FiredEvent) (top n : ℕ) → ((x : FiredEvent) → In x fired → x.finish ≤ top) → (o : Option FiredEvent) → find_fired fired n ≡ o → finish_or_zero o ≤ top
finish_below fired top n h None is = omega arith
finish_below fired top n h (Some x) is = h x (found_in fired n x is).0

after_parent_below : (fired : List FiredEvent) (top delay : ℕ) → ((x : FiredEvent) → In x fired → x.finish ≤ top) → (o : Option Parent) → ((p : Parent) → o ≡ Some p → p.delay ≤ delay) → after_parent (finish_in fired) o ≤ top + delay
after_parent_below fired top delay h None k = omega arith
after_parent_below fired top delay h (Some p) k =
    let f : finish_or_zero (find_fired fired p.number) ≤ top = finish_below fired top p.number h (find_fired fired p.number) refl in
    omega (arith, f, k p refl)

start_below : (fired : List FiredEvent) (base top delay : ℕ) → base ≤ top → ((x : FiredEvent) → In x fired → x.finish ≤ top) → (e : Event) → IsNear base delay e → start_of (finish_in fired) e ≤ top + delay
start_below fired base top delay l h e near =
    omega (arith, l, near.min_start, after_parent_below fired top delay h e.first near.first, after_parent_below fired top delay h e.second near.second)

module _ {C : Type 0} (serves : C → Kind → Bool) (stepped : C → Kind → ℕ → C × ℕ) (greatest : C → Kind → ℕ → ℕ) (paced : C → Bool) (busy : C → ℕ) (most delay base : ℕ)
    (events : List Event) (comps : List C) (lawful : IsLawful serves stepped) (counts : (c : C) (kind : Kind) (start : ℕ) → IsTrue (serves c kind) → (stepped c kind start).1 ≤ greatest c kind start)
    (numbered : IsNumbered events) (fits : (e : Event) → In e events → IsServed serves comps e) (pace : IsPaced serves stepped greatest paced busy most)
    (near : AreNear base delay events) (begin : BeginBy paced busy base comps) where
  -- no finish and no component is past this
  record IsBelow (top : ℕ) (w : Weave C) : Type 0 where
    base_below : base ≤ top
    finishes : (x : FiredEvent) → In x w.fired → x.finish ≤ top
    comps_below : BeginBy paced busy top w.comps

  step_below : (n top : ℕ) → IsBelow top (after_firings stepped events comps n) → (r : Event × ℕ) → least_ready (after_firings stepped events comps n).fired events ≡ Some r
      → (c : C) → slice_get (after_firings stepped events comps n).comps r.0.component ≡ Some c → IsTrue (serves c r.0.kind) → (r.1 ≤ top + delay) × (greatest c r.0.kind r.1 ≤ top + (delay + most))
  step_below n top b r is c at s =
      let l : IsLeast (after_firings stepped events comps n).fired events r.0 r.1 = least_some (after_firings stepped events comps n).fired events r is in
      let found : (i : ℕ) × (slice_get events i ≡ Some r.0) = in_at r.0 events l.member in
      let start : r.1 ≤ top + delay =
      subst (λ z. z ≤ top + delay) (sym l.start_is) (start_below (after_firings stepped events comps n).fired base top delay b.base_below b.finishes r.0 (near found.0 r.0 found.1))
      in
      let p : IsTrue (paced c) × (busy c ≤ top) = b.comps_below r.0.component c at in
      (start, omega (arith, start, p.1, pace.sum c r.0.kind r.1 p.0 s))

  below_by : (n top : ℕ) → IsBelow top (after_firings stepped events comps n) → (o : Option (Event × ℕ)) → least_ready (after_firings stepped events comps n).fired events ≡ o → IsBelow (top + (delay + most)) (fire_least stepped events (after_firings stepped events comps n))
  below_by n top b None is =
      subst (λ v. IsBelow (top + (delay + most)) v) (sym (fire_least_stays serves stepped events comps (after_firings stepped events comps n) is))
      (record {
        base_below = omega (arith, b.base_below);
        finishes = λ x m. omega (arith, b.finishes x m);
        comps_below = λ i c at. ((b.comps_below i c at).0, omega (arith, (b.comps_below i c at).1));
      })
  below_by n top b (Some r) is =
      let w : Weave C = after_firings stepped events comps n in
      let l : IsLeast (after_firings stepped events comps n).fired events r.0 r.1 = least_some (after_firings stepped events comps n).fired events r is in
      let f : IsServed serves (after_firings stepped events comps n).comps r.0 = (holds serves stepped events comps lawful numbered fits n).are_served r.0 l.member in
      let g : (r.1 ≤ top + delay) × (greatest f.0 r.0.kind r.1 ≤ top + (delay + most)) = step_below n top b r is f.0 f.1.0 f.1.1 in
      let p : IsTrue (paced f.0) × (busy f.0 ≤ top) = b.comps_below r.0.component f.0 f.1.0 in
      let next : FiredEvent = record { event = r.0; start = r.1; finish = (stepped f.0 r.0.kind r.1).1 } in
      subst (λ v. IsBelow (top + (delay + most)) v) (sym (fire_least_serves serves stepped events comps (after_firings stepped events comps n) r f.0 is f.1.0))
      (record {
        base_below = omega (arith, b.base_below);
        finishes = λ x m.
            elim (in_push_cases x (after_firings stepped events comps n).fired next m) [
              | inl old ↦ omega (arith, b.finishes x old)
              | inr same ↦ subst (λ (z : FiredEvent). z.finish ≤ top + (delay + most)) same (omega (arith, counts f.0 r.0.kind r.1 f.1.1, g.1))
            ];
        comps_below = λ i c at.
            elim (cases_eq r.0.component i) [
              | inl same ↦
                  let new : slice_get (set (after_firings stepped events comps n).comps r.0.component (stepped f.0 r.0.kind r.1).0) i ≡ Some (stepped f.0 r.0.kind r.1).0 =
                  subst (λ k. slice_get (set (after_firings stepped events comps n).comps r.0.component (stepped f.0 r.0.kind r.1).0) k ≡ Some (stepped f.0 r.0.kind r.1).0) same
                  (get-set_same (after_firings stepped events comps n).comps r.0.component f.0 (stepped f.0 r.0.kind r.1).0 f.1.0)
                  in
                  let is_new : (stepped f.0 r.0.kind r.1).0 ≡ c = cc in
                  subst (λ z. IsTrue (paced z) × (busy z ≤ top + (delay + most))) is_new
                  (pace.stays f.0 r.0.kind r.1 p.0 f.1.1, omega (arith, pace.next f.0 r.0.kind r.1 p.0 f.1.1, g.0, p.1))
              | inr apart ↦
                  let old : slice_get (after_firings stepped events comps n).comps i ≡ Some c = sym (get-set_other (after_firings stepped events comps n).comps r.0.component i (stepped f.0 r.0.kind r.1).0 apart) ∙ at in
                  ((b.comps_below i c old).0, omega (arith, (b.comps_below i c old).1))
            ];
      })

  below : (n : ℕ) → IsBelow (base + n * (delay + most)) (after_firings stepped events comps n)
  below zero =
      subst (λ v. IsBelow (base + 0 * (delay + most)) v) (sym (after_first_firing serves stepped events comps))
      (record {
        base_below = omega arith;
        finishes = λ x m. absurd m;
        comps_below = λ i c at. ((begin i c at).0, omega (arith, (begin i c at).1));
      })
  below (suc n) =
      let sum : base + n * (delay + most) + (delay + most) ≡ base + suc n * (delay + most) = omega arith in
      subst (λ v. IsBelow (base + suc n * (delay + most)) v) (sym (after_more serves stepped events comps n))
      (subst (λ t. IsBelow t (fire_least stepped events (after_firings stepped events comps n))) sum
      (below_by n (base + n * (delay + most)) (below n) (least_ready (after_firings stepped events comps n).fired events) refl))

  small_by : base + length events * (delay + most) ≤ 2 ^ 62 → (n : ℕ) → n < length events → (o : Option (Event × ℕ)) → least_ready (after_firings stepped events comps n).fired events ≡ o → IsSmallStep stepped greatest (after_firings stepped events comps n) o
  small_by room n l None is = tt
  small_by room n l (Some r) is =
      let least : IsLeast (after_firings stepped events comps n).fired events r.0 r.1 = least_some (after_firings stepped events comps n).fired events r is in
      let f : IsServed serves (after_firings stepped events comps n).comps r.0 = (holds serves stepped events comps lawful numbered fits n).are_served r.0 least.member in
      let g : (r.1 ≤ base + n * (delay + most) + delay) × (greatest f.0 r.0.kind r.1 ≤ base + n * (delay + most) + (delay + most)) = step_below n (base + n * (delay + most)) (below n) r is f.0 f.1.0 f.1.1 in
      let more : suc n * (delay + most) ≤ length events * (delay + most) = mul-le-mul_right (delay + most) (omega (arith, l)) in
      let small : greatest f.0 r.0.kind r.1 ≤ 2 ^ 62 = omega (arith, g.1, more, room) in
      subst (λ o. IfSome o (λ c. greatest c r.0.kind r.1 ≤ 2 ^ 62)) (sym f.1.0) small

  pub small : base + length events * (delay + most) ≤ 2 ^ 62 → AreSmallSteps stepped greatest events comps
  small room n =
      elim (cases_lt n (length events)) [
        | inl l ↦ small_by room n l (least_ready (after_firings stepped events comps n).fired events) refl
        | inr l ↦
            let done : after_firings stepped events comps n ≡ weave stepped events comps = stays serves stepped events comps lawful numbered fits (length events) (all_fired serves stepped events comps lawful numbered fits) n l in
            let none : least_ready (after_firings stepped events comps n).fired events ≡ None =
            ap (λ (v : Weave C). least_ready v.fired events) done ∙ none_from_all events (weave stepped events comps).fired (all_fired serves stepped events comps lawful numbered fits)
            in
            subst (λ o. IsSmallStep stepped greatest (after_firings stepped events comps n) o) (sym none) tt
      ]
