-- Each firing is of one event, until each event has fired once.
use Rattle.std.proofs.Common.{◌≡◌, ◌+◌, ◌-◌, ◌≤◌, ◌<◌, ℕ, zero, suc, Bool, true, false, not, cond, List, [], ◌∷◌, ◌++◌, map, length, take, inl, inr, Option, Some, None, is_some, sym, ◌∙◌, ap, subst, refl, arith, append_assoc, length-append}
use Rattle.std.specs.Prelude.{slice_get}
use Rattle.std.specs.List.{filter}
use Rattle.std.specs.List.Sorted.{IsPermutation}
use Rattle.std.proofs.lemmas.Bool.{cases_lt, cond-true, cond-false, not_from_false, not_from_true}
use Rattle.std.proofs.lemmas.List.{append-nil, length-map, map-append, take_all}
use Rattle.std.proofs.lemmas.List.Sorted.{IsPermutation-refl, IsPermutation-cons, IsPermutation-middle, IsPermutation-pop_more, IsPermutation-trans, length_permutation}
use Rattle.std.proofs.Math.Seq.{take-append_seam}
use Rattle.component.specs.declared.kind.Kind.{Kind}
use Rattle.event_graph.specs.declared.event.Event.{Event}
use Rattle.event_graph.specs.Firing.{FiresNext}
use Rattle.event_graph.specs.Numbered.{IsNumbered}
use Rattle.event_graph.specs.OneListWeave.{FiredEvent, after_firings, is_fired, least_ready, served, weave}
use Rattle.event_graph.proofs.FindFired.{find_push_other, is_fired_from_in}
use Rattle.event_graph.proofs.Least.{IsLeast, least_some, next_from_least, ready_parts}
use Rattle.event_graph.proofs.Lists.{In, get_within, in_at, in_push}
use Rattle.event_graph.proofs.Indices.{slice_get_left, slice_get_right}
use Rattle.event_graph.proofs.Progress.{AllFired, after_first_firing, after_more, all_fired, all_fired_from_none, fire_least_serves, fire_least_stays, holds, stays}
use Rattle.event_graph.proofs.BetweenFirings.{IsLawful, IsServed}

-- no event has the number of one after it
abbrev HasOneEach : List Event → Type 0
HasOneEach [] = Unit {0}
HasOneEach (e ∷ es) = ((y : Event) → In y es → y.number ≡ e.number → ⊥) × HasOneEach es

one_each_from : (es : List Event) (n : ℕ) → ((i : ℕ) (e : Event) → slice_get es i ≡ Some e → e.number ≡ n + i) → HasOneEach es
one_each_from [] n h = tt
one_each_from (e ∷ es) n h = (
  λ y m q. let at : (i : ℕ) × (slice_get es i ≡ Some y) = in_at y es m in omega (arith, h zero e refl, h (suc at.0) y at.1, q),
  one_each_from es (suc n) (λ i y k. omega (arith, h (suc i) y k)),
)

-- the events that didn't fire
abbrev unfired_among : List FiredEvent → List Event → List Event
unfired_among fired es = filter (λ e. not (is_fired fired e.number)) es

none_fired : (es : List Event) → unfired_among [] es ≡ es
none_fired [] = refl
none_fired (e ∷ es) = ap (λ zs. e ∷ zs) (none_fired es)

fired_all : (fired : List FiredEvent) (es : List Event) → AllFired fired es → unfired_among fired es ≡ []
fired_all fired [] h = refl
fired_all fired (e ∷ es) h =
    cond-false (not (is_fired fired e.number)) (e ∷ unfired_among fired es) (unfired_among fired es) (not_from_true _ (h e (inl refl)))
    ∙ fired_all fired es (λ y m. h y (inr m))

-- one more that fired
module _ (fired : List FiredEvent) (x : FiredEvent) where
  other_fired : (n : ℕ) → (n ≡ x.event.number → ⊥) → is_fired (fired ++ x ∷ []) n ≡ is_fired fired n
  other_fired n ne = ap (λ o. is_some o) (find_push_other fired x n (λ q. ne (sym q)))

  unfired_others : (es : List Event) → ((y : Event) → In y es → y.number ≡ x.event.number → ⊥) → unfired_among (fired ++ x ∷ []) es ≡ unfired_among fired es
  unfired_others [] h = refl
  unfired_others (e ∷ es) h =
      ap (λ b. cond (not b) (e ∷ unfired_among (fired ++ x ∷ []) es) (unfired_among (fired ++ x ∷ []) es)) (other_fired e.number (h e (inl refl)))
      ∙ ap (λ zs. cond (not (is_fired fired e.number)) (e ∷ zs) zs) (unfired_others es (λ y m. h y (inr m)))

  one_fewer : (es : List Event) → HasOneEach es → In x.event es → is_fired fired x.event.number ≡ false
      → IsPermutation (unfired_among fired es) (x.event ∷ unfired_among (fired ++ x ∷ []) es)
  one_fewer [] one m f = absurd m
  one_fewer (e ∷ es) one m f =
      elim m [
        | inl same ↦
            let number : e.number ≡ x.event.number = ap (λ (z : Event). z.number) same in
            let before : unfired_among fired (e ∷ es) ≡ e ∷ unfired_among fired es =
            cond-true (not (is_fired fired e.number)) (e ∷ unfired_among fired es) (unfired_among fired es) (not_from_false _ (ap (λ n. is_fired fired n) number ∙ f))
            in
            let now : unfired_among (fired ++ x ∷ []) (e ∷ es) ≡ unfired_among fired es =
            cond-false (not (is_fired (fired ++ x ∷ []) e.number)) (e ∷ unfired_among (fired ++ x ∷ []) es) (unfired_among (fired ++ x ∷ []) es)
            (not_from_true _ (is_fired_from_in (fired ++ x ∷ []) x e.number (in_push fired x) (sym number)))
            ∙ unfired_others es (λ y k q. one.0 y k (q ∙ sym number))
            in
            let P : List Event → Type 0 = λ zs. IsPermutation (unfired_among fired (e ∷ es)) zs in
            let same_list : e ∷ unfired_among fired es ≡ x.event ∷ unfired_among (fired ++ x ∷ []) (e ∷ es) = cc in
            subst P (before ∙ same_list) (IsPermutation-refl (unfired_among fired (e ∷ es)))
        | inr rest ↦
            let ih : IsPermutation (unfired_among fired es) (x.event ∷ unfired_among (fired ++ x ∷ []) es) = one_fewer es one.1 rest f in
            let apart : e.number ≡ x.event.number → ⊥ = λ q. one.0 x.event rest (sym q) in
            let now : unfired_among (fired ++ x ∷ []) (e ∷ es) ≡ cond (not (is_fired fired e.number)) (e ∷ unfired_among (fired ++ x ∷ []) es) (unfired_among (fired ++ x ∷ []) es) =
            ap (λ b. cond (not b) (e ∷ unfired_among (fired ++ x ∷ []) es) (unfired_among (fired ++ x ∷ []) es)) (other_fired e.number apart)
            in
            let Q : List Event → Type 0 = λ zs. IsPermutation (unfired_among fired (e ∷ es)) (x.event ∷ zs) in
            subst Q (sym now)
            (elim (not (is_fired fired e.number))
            as (λ b. IsPermutation (cond b (e ∷ unfired_among fired es) (unfired_among fired es)) (x.event ∷ cond b (e ∷ unfired_among (fired ++ x ∷ []) es) (unfired_among (fired ++ x ∷ []) es))) [
              | true ↦
                  IsPermutation-trans (e ∷ unfired_among fired es) (e ∷ x.event ∷ unfired_among (fired ++ x ∷ []) es) (x.event ∷ e ∷ unfired_among (fired ++ x ∷ []) es)
                  (IsPermutation-cons e _ _ ih) (IsPermutation-middle (e ∷ []) x.event (unfired_among (fired ++ x ∷ []) es))
              | false ↦ ih
            ])
      ]

abbrev events_of : List FiredEvent → List Event
events_of fired = map (λ x. x.event) fired

one_more_done : (events left rest : List Event) (fired : List FiredEvent) (x : FiredEvent) → IsPermutation events (events_of fired ++ left) → IsPermutation left (x.event ∷ rest) → IsPermutation events (events_of (fired ++ x ∷ []) ++ rest)
one_more_done events left rest fired x all now =
    subst (λ zs. IsPermutation events (zs ++ rest)) (sym (map-append (λ (y : FiredEvent). y.event) fired (x ∷ [])))
    (IsPermutation-pop_more events (events_of fired) left rest x.event all now)

module _ {C : Type 0} (serves : C → Kind → Bool) (stepped : C → Kind → ℕ → C × ℕ) (events : List Event) (comps : List C)
    (lawful : IsLawful serves stepped) (numbered : IsNumbered events) (fits : (e : Event) → In e events → IsServed serves comps e) where
  abbrev fired_after : ℕ → List FiredEvent
  fired_after n = (after_firings stepped events comps n).fired

  -- the least ready event fires, or none is ready
  record Fires (n : ℕ) (r : Event × ℕ) : Type 0 where
    next : FiredEvent
    event : next.event ≡ r.0
    start : next.start ≡ r.1
    least : IsLeast (fired_after n) events r.0 r.1
    fired : fired_after (suc n) ≡ fired_after n ++ next ∷ []

  fires : (n : ℕ) (r : Event × ℕ) → least_ready (fired_after n) events ≡ Some r → Fires n r
  fires n r is =
      let l : IsLeast (fired_after n) events r.0 r.1 = least_some (fired_after n) events r is in
      let f : IsServed serves (after_firings stepped events comps n).comps r.0 = (holds serves stepped events comps lawful numbered fits n).are_served r.0 l.member in
      record {
        next = record { event = r.0; start = r.1; finish = (stepped f.0 r.0.kind r.1).1 };
        event = refl;
        start = refl;
        least = l;
        fired = ap (λ v. v.fired) (after_more serves stepped events comps n) ∙ ap (λ v. v.fired) (fire_least_serves serves stepped events comps (after_firings stepped events comps n) r f.0 is f.1.0);
      }

  fires_none : (n : ℕ) → least_ready (fired_after n) events ≡ None → fired_after (suc n) ≡ fired_after n
  fires_none n is = ap (λ v. v.fired) (after_more serves stepped events comps n ∙ fire_least_stays serves stepped events comps (after_firings stepped events comps n) is)

  -- what fired and what didn't are all events
  once_by : (n : ℕ) → IsPermutation events (events_of (fired_after n) ++ unfired_among (fired_after n) events) → (o : Option (Event × ℕ)) → least_ready (fired_after n) events ≡ o
      → IsPermutation events (events_of (fired_after (suc n)) ++ unfired_among (fired_after (suc n)) events)
  once_by n ih None is = subst (λ xs. IsPermutation events (events_of xs ++ unfired_among xs events)) (sym (fires_none n is)) ih
  once_by n ih (Some r) is =
      let f : Fires n r = fires n r is in
      let member : In f.next.event events = subst (λ e. In e events) (sym f.event) f.least.member in
      let unfired : is_fired (fired_after n) f.next.event.number ≡ false = subst (λ (e : Event). is_fired (fired_after n) e.number ≡ false) (sym f.event) (ready_parts (fired_after n) r.0 f.least.ready).0 in
      subst (λ xs. IsPermutation events (events_of xs ++ unfired_among xs events)) (sym f.fired)
      (one_more_done events (unfired_among (fired_after n) events) (unfired_among (fired_after n ++ f.next ∷ []) events) (fired_after n) f.next ih
      (one_fewer (fired_after n) f.next events (one_each_from events zero (λ i e at. numbered.number i e at ∙ omega arith)) member unfired))

  once : (n : ℕ) → IsPermutation events (events_of (fired_after n) ++ unfired_among (fired_after n) events)
  once zero =
      subst (λ xs. IsPermutation events (events_of xs ++ unfired_among xs events)) (sym (ap (λ v. v.fired) (after_first_firing serves stepped events comps)))
      (subst (λ zs. IsPermutation events zs) (sym (none_fired events)) (IsPermutation-refl events))
  once (suc n) = once_by n (once n) (least_ready (fired_after n) events) refl

  pub each_once : IsPermutation events (events_of (weave stepped events comps).fired)
  each_once =
      let none : unfired_among (weave stepped events comps).fired events ≡ [] = fired_all (weave stepped events comps).fired events (all_fired serves stepped events comps lawful numbered fits) in
      subst (λ zs. IsPermutation events zs) (ap (λ zs. events_of (weave stepped events comps).fired ++ zs) none ∙ append-nil (events_of (weave stepped events comps).fired)) (once (length events))

  -- so many firings are of so many events
  some_ready : (n : ℕ) → n < length events → length (fired_after n) ≡ n → (o : Option (Event × ℕ)) → least_ready (fired_after n) events ≡ o → (r : Event × ℕ) × (o ≡ Some r)
  some_ready n l count None is =
      let none : unfired_among (fired_after n) events ≡ [] = fired_all (fired_after n) events (all_fired_from_none events numbered (fired_after n) is) in
      let whole : events_of (fired_after n) ++ unfired_among (fired_after n) events ≡ events_of (fired_after n) = ap (λ zs. events_of (fired_after n) ++ zs) none ∙ append-nil (events_of (fired_after n)) in
      absurd (omega (arith, length_permutation _ _ (once n), ap length whole, length-map (fired_after n) (λ x. x.event), count, l))
  some_ready n l count (Some r) is = (r, refl)

  pub counted : (n : ℕ) → n ≤ length events → length (fired_after n) ≡ n
  counted zero l = ap (λ v. length v.fired) (after_first_firing serves stepped events comps)
  counted (suc n) l =
      let count : length (fired_after n) ≡ n = counted n (omega arith) in
      let r : (r : Event × ℕ) × (least_ready (fired_after n) events ≡ Some r) = some_ready n (omega arith) count (least_ready (fired_after n) events) refl in
      let f : Fires n r.0 = fires n r.0 r.1 in
      omega (arith, ap length f.fired, length-append (fired_after n) (f.next ∷ []), count)

  -- what fired keeps its index
  grows_by : (n : ℕ) (o : Option (Event × ℕ)) → least_ready (fired_after n) events ≡ o → (rest : List FiredEvent) × (fired_after (suc n) ≡ fired_after n ++ rest)
  grows_by n None is = ([], fires_none n is ∙ sym (append-nil (fired_after n)))
  grows_by n (Some r) is = let f : Fires n r = fires n r is in (f.next ∷ [], f.fired)

  grows : (n more : ℕ) → (rest : List FiredEvent) × (fired_after (n + more) ≡ fired_after n ++ rest)
  grows n zero = ([], ap (λ k. fired_after k) (omega arith) ∙ sym (append-nil (fired_after n)))
  grows n (suc more) =
      let a : (rest : List FiredEvent) × (fired_after (n + more) ≡ fired_after n ++ rest) = grows n more in
      let b : (rest : List FiredEvent) × (fired_after (suc (n + more)) ≡ fired_after (n + more) ++ rest) = grows_by (n + more) (least_ready (fired_after (n + more)) events) refl in
      let k : n + suc more ≡ suc (n + more) = omega arith in
      (a.0 ++ b.0, ap (λ m. fired_after m) k ∙ (b.1 ∙ (ap (λ xs. xs ++ b.0) a.1 ∙ append_assoc (fired_after n) a.0 b.0)))

  begins_with : (n : ℕ) → n ≤ length events → (rest : List FiredEvent) × ((weave stepped events comps).fired ≡ fired_after n ++ rest)
  begins_with n l =
      let g : (rest : List FiredEvent) × (fired_after (n + (length events - n)) ≡ fired_after n ++ rest) = grows n (length events - n) in
      let k : length events ≡ n + (length events - n) = omega (arith, l) in
      (g.0, ap (λ m. fired_after m) k ∙ g.1)

  pub first_of_weave : (n : ℕ) → fired_after n ≡ take n (weave stepped events comps).fired
  first_of_weave n =
      elim (cases_lt n (length events)) [
        | inl l ↦
            let b : (rest : List FiredEvent) × ((weave stepped events comps).fired ≡ fired_after n ++ rest) = begins_with n (omega arith) in
            sym (ap (λ xs. take n xs) b.1
            ∙ (ap (λ k. take k (fired_after n ++ b.0)) (sym (counted n (omega arith))) ∙ take-append_seam (fired_after n) b.0))
        | inr l ↦
            ap (λ v. v.fired) (stays serves stepped events comps lawful numbered fits (length events) (all_fired serves stepped events comps lawful numbered fits) n l)
            ∙ sym (take_all n (weave stepped events comps).fired (omega (arith, counted (length events) (omega arith), l)))
      ]

  -- what fires at an index of the weave was the least ready event
  pub fires_at : (n : ℕ) (x : FiredEvent) → slice_get (weave stepped events comps).fired n ≡ Some x → IsLeast (fired_after n) events x.event x.start
  fires_at n x at =
      let l : n < length events = omega (arith, get_within (weave stepped events comps).fired n x at, counted (length events) (omega arith)) in
      let count : length (fired_after n) ≡ n = counted n (omega arith) in
      let r : (r : Event × ℕ) × (least_ready (fired_after n) events ≡ Some r) = some_ready n l count (least_ready (fired_after n) events) refl in
      let f : Fires n r.0 = fires n r.0 r.1 in
      let b : (rest : List FiredEvent) × ((weave stepped events comps).fired ≡ fired_after (suc n) ++ rest) = begins_with (suc n) (omega (arith, l)) in
      let stands : slice_get (weave stepped events comps).fired n ≡ Some f.next =
      ap (λ xs. slice_get xs n) (b.1 ∙ ap (λ xs. xs ++ b.0) f.fired)
      ∙ (slice_get_left (fired_after n ++ f.next ∷ []) b.0 n (omega (arith, count, length-append (fired_after n) (f.next ∷ [])))
      ∙ (ap (λ k. slice_get (fired_after n ++ f.next ∷ []) k) (omega (arith, count)) ∙ slice_get_right (fired_after n) (f.next ∷ []) zero))
      in
      let same : f.next ≡ x = cc in
      subst (λ (z : FiredEvent). IsLeast (fired_after n) events z.event z.start) same
      (subst (λ e. IsLeast (fired_after n) events e f.next.start) (sym f.event) (subst (λ s. IsLeast (fired_after n) events r.0.0 s) (sym f.start) f.least))

  -- a firing while an event is unfired
  pub firing_at : (n : ℕ) → n < length events → (x : FiredEvent) × (c : C) × FiresNext serves stepped events (after_firings stepped events comps n) (after_firings stepped events comps (suc n)) x c
  firing_at n l =
      let count : length (fired_after n) ≡ n = counted n (omega (arith, l)) in
      let r : (r : Event × ℕ) × (least_ready (fired_after n) events ≡ Some r) = some_ready n l count (least_ready (fired_after n) events) refl in
      let m : IsLeast (fired_after n) events r.0.0 r.0.1 = least_some (fired_after n) events r.0 r.1 in
      let f : IsServed serves (after_firings stepped events comps n).comps r.0.0 = (holds serves stepped events comps lawful numbered fits n).are_served r.0.0 m.member in
      let next : after_firings stepped events comps (suc n) ≡ served stepped (after_firings stepped events comps n) r.0.0 r.0.1 (Some f.0) =
      after_more serves stepped events comps n ∙ fire_least_serves serves stepped events comps (after_firings stepped events comps n) r.0 f.0 r.1 f.1.0
      in
      let x : FiredEvent = record { event = r.0.0; start = r.0.1; finish = (stepped f.0 r.0.0.kind r.0.1).1 } in (
        x,
        f.0,
        record {
          next = next_from_least (fired_after n) events numbered x m;
          there = f.1.0;
          served = f.1.1;
          finish = refl;
          fired = ap (λ v. v.fired) next;
          comps = ap (λ v. v.comps) next;
        },
      )
