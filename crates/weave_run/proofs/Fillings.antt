-- The events of all domains stand at the places of their numbers.
use Rattle.std.proofs.Common.{◌≡◌, ◌<◌, ℕ, suc, Bool, List, [], ◌∷◌, length, map, set, Some, slice_get, sym, ◌∙◌, ap, subst, refl, inl, inr, arith}
use Rattle.std.proofs.lemmas.Bool.{cases_eq}
use Rattle.std.proofs.lemmas.Option.{same_Some, slice_get-map, slice_get_within}
use Rattle.std.specs.Option.{option_map}
use Rattle.component.specs.declared.kind.Kind.{Kind}
use Rattle.event_graph.specs.declared.event.Event.{Event}
use Rattle.event_graph.specs.declared.fired.Fired.{Fired}
use Rattle.event_graph.specs.OneListWeave.{FiredEvent, fired_of, woven}
use Rattle.weave_core.specs.DomainCalls.{DomainValue}
use Rattle.weave_core.specs.Keeping.{HaveAllFired, IsWeaveFiring, IsFiredSomewhere, KeepingLaws, owns_of}
use Rattle.weave_core.specs.Layout.{timed_from}
use Rattle.weave_run.specs.Ending.{AgreesAt}
use Rattle.weave_run.specs.Rounds.{AllKeep, CanWeavePlan, KeepsToWeave}
use Rattle.weave_run.specs.declared.plan.Plan.{Plan}
use Rattle.weave_run.proofs.Tellings.{get_set_other, get_set_same}

same_list : {X : Type 0} (xs ys : List X) → length xs ≡ length ys → ((i : ℕ) → i < length ys → slice_get xs i ≡ slice_get ys i) → xs ≡ ys
same_list [] [] n h = refl
same_list [] (y ∷ ys) n h = absurd (omega (arith, n))
same_list (x ∷ xs) [] n h = absurd (omega (arith, n))
same_list {X} (x ∷ xs) (y ∷ ys) n h =
    ap (λ (z : X). z ∷ xs) (same_Some x y (h 0 (omega arith))) ∙ ap (λ (zs : List X). y ∷ zs) (same_list xs ys (omega (arith, n)) (λ i l. h (suc i) (omega (arith, l))))

module _ {C : Type 0} (serves : C → Kind → Bool) (floor : C → Kind → ℕ) (stepped : C → Kind → ℕ → C × ℕ) (greatest : C → Kind → ℕ → ℕ) (laws : KeepingLaws serves floor stepped greatest)
    (plan : Plan C) (can : CanWeavePlan serves floor stepped greatest plan) where
  abbrev wanted : List Fired
  wanted = map fired_of (woven stepped plan.graph.value plan.comps.value)

  -- one event of a domain
  pub record IsGiven (v : DomainValue C) (place : ℕ) (g : Fired) : Type 0 where
    pub firing : FiredEvent
    pub there : slice_get v.own.fired place ≡ Some firing
    pub number : firing.event.number ≡ g.number
    pub below : g.number < length plan.graph.value
    pub answer : slice_get wanted g.number ≡ Some g

  pub given : (v : DomainValue C) → KeepsToWeave stepped plan v → (fs : List Fired) → v.own.fired ≡ map (timed_from v.events) fs → (place : ℕ) (g : Fired) → slice_get fs place ≡ Some g → IsGiven v place g
  given v i fs is place g at =
      let is_too : v.own.fired ≡ map (timed_from plan.graph.value) fs = is ∙ ap (λ (es : List Event). map (timed_from es) fs) (ap (λ (z : DomainValue C). z.events) i.is) in
      let log : map fired_of v.own.fired ≡ fs = laws.log plan.graph.value plan.parts.value plan.comps.value can v.domain v.own v.comps fs i.keeps is_too in
      let y_there : slice_get v.own.fired place ≡ Some (timed_from plan.graph.value g) =
      ap (λ (xs : List FiredEvent). slice_get xs place) is_too ∙ (slice_get-map (timed_from plan.graph.value) fs place ∙ ap (option_map (timed_from plan.graph.value)) at)
      in
      let e : IsWeaveFiring stepped plan.graph.value plan.parts.value plan.comps.value v.domain (timed_from plan.graph.value g) =
      laws.firings plan.graph.value plan.parts.value plan.comps.value can v.domain v.own v.comps place (timed_from plan.graph.value g) i.keeps y_there
      in
      let same : fired_of (timed_from plan.graph.value g) ≡ g =
      same_Some _ _ (sym (slice_get-map fired_of v.own.fired place ∙ ap (option_map fired_of) y_there) ∙ (ap (λ (xs : List Fired). slice_get xs place) log ∙ at))
      in
      let number : (timed_from plan.graph.value g).event.number ≡ g.number = ap (λ (z : Fired). z.number) same in
      record {
        firing = timed_from plan.graph.value g;
        there = y_there;
        number = number;
        below = (let w = slice_get_within plan.graph.value (timed_from plan.graph.value g).event.number (timed_from plan.graph.value g).event e.there in omega (arith, w, number));
        answer = ap (slice_get wanted) (sym number) ∙ (e.answer ∙ ap (λ (z : Fired). Some z) same);
      }

  -- an event is written
  pub agrees_then : (times : List Fired) (v : DomainValue C) (place : ℕ) (g : Fired) → IsGiven v place g → length times ≡ length plan.graph.value → (n : ℕ) → AgreesAt stepped plan times n → AgreesAt stepped plan (set times g.number g) n
  agrees_then times v place g i count n h =
      elim (cases_eq n g.number) [
        | inl same ↦
            ap (slice_get (set times g.number g)) same
            ∙ (get_set_same times g.number g (let b = i.below in omega (arith, b, count)) ∙ (sym i.answer ∙ ap (slice_get wanted) (sym same)))
        | inr other ↦ get_set_other times g.number n g other ∙ h
      ]

  pub agrees_there : (times : List Fired) (v : DomainValue C) (place : ℕ) (g : Fired) → IsGiven v place g → length times ≡ length plan.graph.value → (y : FiredEvent) → slice_get v.own.fired place ≡ Some y → AgreesAt stepped plan (set times g.number g) y.event.number
  agrees_there times v place g i count y at =
      let same : i.firing ≡ y = same_Some i.firing y (sym i.there ∙ at) in
      let number : y.event.number ≡ g.number = ap (λ (z : FiredEvent). z.event.number) (sym same) ∙ i.number in
      ap (slice_get (set times g.number g)) number
      ∙ (get_set_same times g.number g (let b = i.below in omega (arith, b, count)) ∙ (sym i.answer ∙ ap (slice_get wanted) (sym number)))

  -- all are
  pub all_filled : (vs : List (DomainValue C)) (times : List Fired) → AllKeep stepped plan vs → HaveAllFired stepped plan.graph.value plan.parts.value plan.comps.value (owns_of vs) → length times ≡ length plan.graph.value
      → ((d : ℕ) (v : DomainValue C) (place : ℕ) (y : FiredEvent) → slice_get vs d ≡ Some v → slice_get v.own.fired place ≡ Some y → AgreesAt stepped plan times y.event.number) → times ≡ wanted
  all_filled vs times k done count upto =
      let size : length wanted ≡ length plan.graph.value = (laws.count plan.graph.value plan.parts.value plan.comps.value can).1 in
      same_list times wanted (omega (arith, count, size))
      (λ i l.
      let a : IsFiredSomewhere stepped plan.graph.value plan.parts.value plan.comps.value vs i = laws.among plan.graph.value plan.parts.value plan.comps.value can vs k done i (omega (arith, l, size)) in
      subst (AgreesAt stepped plan times) a.number_is (upto a.domain a.value a.place a.firing a.there a.fired))
