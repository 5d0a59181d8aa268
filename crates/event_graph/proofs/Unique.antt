-- A solution of the timing rules is the weave's.
use Rattle.std.proofs.Common.{◌≡◌, ◌≤◌, ◌<◌, ◌==◌, ℕ, suc, Bool, true, false, List, [], ◌∷◌, ◌++◌, map, length, ◌⊎◌, inl, inr, Option, Some, None, sym, ◌∙◌, ap, subst, refl, arith}
use Rattle.std.specs.Prelude.{IsTrue, slice_get}
use Rattle.std.specs.List.{AllPairs}
use Rattle.std.proofs.lemmas.Bool.{cases_Bool, cases_lt, cond-true, eq-eqb, eqb-true, false≢true}
use Rattle.std.proofs.lemmas.List.{append-nil, append_assoc}
use Rattle.std.proofs.lemmas.List.Elements.{filter-append}
use Rattle.component.specs.declared.kind.Kind.{Kind}
use Rattle.event_graph.specs.declared.event.Event.{Event}
use Rattle.event_graph.specs.declared.event.Parent.{Parent}
use Rattle.event_graph.specs.Numbered.{IsNumbered}
use Rattle.event_graph.specs.OneListWeave.{FiredEvent, Weave, after_firings, finish_in, finish_or_zero, fire_least, is_event_before, is_fired, is_parent_fired, least_ready, start_of, fired_event_in, weave, woven}
use Rattle.event_graph.specs.ServedEvents.{after_serving, of_component}
use Rattle.event_graph.specs.TimingSolution.{IsSolution, ServesInTurn}
use Rattle.event_graph.proofs.FindFired.{AreParentsFired, Extends, IsOneEach, after_first, after_second, find_from_in, extends_from, fired_in, is_fired_from_in, start_extends}
use Rattle.event_graph.proofs.Least.{least_is, ready_from, ready_parts}
use Rattle.event_graph.proofs.Lists.{In, contains_in, from_filter, from_map, get-map, in_at, in_cases, in_contains, in_filter, in_left, in_map, in_right, map_itself, map_map, pairs_from, pairs_front}
use Rattle.event_graph.proofs.Order.{not_before_itself, start_from_before}
use Rattle.event_graph.proofs.Progress.{AllFired, after_first_firing, after_more, all_fired, event_below, fire_least_serves, first_below, holds, second_below, stays}
use Rattle.event_graph.proofs.BetweenFirings.{HoldsBetween, IsLawful, IsServed}
use Rattle.event_graph.proofs.Solves.{answer_at, woven-is}
use Rattle.event_graph.proofs.Turns.{turns_at, turns_grow}

abbrev Before : FiredEvent → FiredEvent → Type 0
Before x y = IsTrue (is_event_before x.event x.start y.event y.start)

same_timed : (x : FiredEvent) (s f : ℕ) → s ≡ x.start → f ≡ x.finish → record { event = x.event; start = s; finish = f } ≡ x
same_timed x s f a b =
    let from : ℕ → FiredEvent = λ n. record { event = x.event; start = n; finish = f } in
    let to : ℕ → FiredEvent = λ n. record { event = x.event; start = x.start; finish = n } in
    ap from a ∙ ap to b

parent_fired : (fired : List FiredEvent) (o : Option Parent) → ((p : Parent) → o ≡ Some p → is_fired fired p.number ≡ true) → is_parent_fired fired o ≡ true
parent_fired fired None h = refl
parent_fired fired (Some p) h = h p refl

module _ {C : Type 0} (serves : C → Kind → Bool) (stepped : C → Kind → ℕ → C × ℕ) (events : List Event) (comps : List C)
    (lawful : IsLawful serves stepped) (numbered : IsNumbered events) (fits : (e : Event) → In e events → IsServed serves comps e)
    (timed : List FiredEvent) (sol : IsSolution stepped events comps timed) where
  to_timed : (x : FiredEvent) → In x sol.sorted → In x timed
  to_timed x m = in_contains x timed ((sol.same x).0 (contains_in x sol.sorted m))

  to_sorted : (x : FiredEvent) → In x timed → In x sol.sorted
  to_sorted x m = in_contains x sol.sorted ((sol.same x).1 (contains_in x timed m))

  member : (x : FiredEvent) → In x timed → In x.event events
  member x m = subst (λ es. In x.event es) sol.events_are (in_map (λ (z : FiredEvent). z.event) x timed m)

  numbered_at : (x : FiredEvent) (i : ℕ) → slice_get timed i ≡ Some x → x.event.number ≡ i
  numbered_at x i h = numbered.number i x.event (subst (λ es. slice_get es i ≡ Some x.event) sol.events_are (get-map (λ (z : FiredEvent). z.event) x timed i h))

  one_each : IsOneEach timed
  one_each x y mx my q =
      let a : (i : ℕ) × (slice_get timed i ≡ Some x) = in_at x timed mx in
      let b : (i : ℕ) × (slice_get timed i ≡ Some y) = in_at y timed my in
      let same : a.0 ≡ b.0 = sym (numbered_at x a.0 a.1) ∙ (q ∙ numbered_at y b.0 b.1) in
      let k : slice_get timed b.0 ≡ Some x = subst (λ i. slice_get timed i ≡ Some x) same a.1 in
      cc

  timed_for : (e : Event) → In e events → (x : FiredEvent) × (In x timed × (x.event ≡ e))
  timed_for e m = from_map (λ (z : FiredEvent). z.event) e timed (subst (λ es. In e es) (sym sol.events_are) m)

  -- each finish is later than its start
  grows : (x : FiredEvent) → In x sol.sorted → x.start < x.finish
  grows x m =
      let f : IsServed serves comps x.event = fits x.event (member x (to_timed x m)) in
      let each : (z : FiredEvent) → In z (of_component x.event.component sol.sorted) → IsTrue (serves f.0 z.event.kind) =
      λ z k.
      let r : In z sol.sorted × ((z.event.component == x.event.component) ≡ true) = from_filter (λ (t : FiredEvent). t.event.component == x.event.component) z sol.sorted k in
      let g : IsServed serves comps z.event = fits z.event (member z (to_timed z r.0)) in
      let at : slice_get comps x.event.component ≡ Some g.0 = subst (λ n. slice_get comps n ≡ Some g.0) (eqb-true z.event.component x.event.component r.1) g.1.0 in
      let same : g.0 ≡ f.0 = (let fa : slice_get comps x.event.component ≡ Some f.0 = f.1.0 in cc) in
      subst (λ c. IsTrue (serves c z.event.kind)) same g.1.1
      in
      turns_grow stepped serves lawful.stays lawful.grows f.0 (of_component x.event.component sol.sorted) each (sol.finishes x.event.component f.0 f.1.0) x
      (in_filter (λ (t : FiredEvent). t.event.component == x.event.component) x sol.sorted m (eq-eqb x.event.component x.event.component refl))

  -- the next of the solution's events fires next
  module _ (w : Weave C) (x : FiredEvent) (rest : List FiredEvent) (h : HoldsBetween serves stepped events comps w) (split : sol.sorted ≡ w.fired ++ x ∷ rest) where
    pairs : AllPairs Before (w.fired ++ x ∷ rest)
    pairs = subst (λ xs. AllPairs Before xs) split sol.in_order

    now : In x sol.sorted
    now = subst (λ xs. In x xs) (sym split) (in_right x w.fired (x ∷ rest) (inl refl))

    earlier : (z : FiredEvent) → In z w.fired → In z sol.sorted
    earlier z m = subst (λ xs. In z xs) (sym split) (in_left z w.fired (x ∷ rest) m)

    among : (z : FiredEvent) → In z timed → In z w.fired ⊎ ((x ≡ z) ⊎ In z rest)
    among z m = in_cases z w.fired (x ∷ rest) (subst (λ xs. In z xs) split (to_sorted z m))

    extends : Extends w.fired timed
    extends = extends_from w.fired timed one_each (λ z m. to_timed z (earlier z m))

    unfired : is_fired w.fired x.event.number ≡ false
    unfired =
        elim (cases_Bool (is_fired w.fired x.event.number)) [
          | inl t ↦
              let r : (z : FiredEvent) × (In z w.fired × (z.event.number ≡ x.event.number)) = fired_in w.fired x.event.number t in
              let same : r.0 ≡ x = one_each r.0 x (to_timed r.0 (earlier r.0 r.1.0)) (to_timed x now) r.1.1 in
              let b : Before x x = subst (λ z. Before z x) same (pairs_front Before w.fired x r.0 rest pairs r.1.0) in
              absurd (false≢true (sym (not_before_itself x.event x.start) ∙ b))
          | inr f ↦ f
        ]

    -- a parent of it stands earlier
    parent : (p : Parent) → p.number < x.event.number → finish_in timed p.number ≤ start_of (finish_in timed) x.event → is_fired w.fired p.number ≡ true
    parent p below late =
        let q : (q : Event) × (In q events × (q.number ≡ p.number)) = event_below events numbered x.event (member x (to_timed x now)) p.number below in
        let y : (y : FiredEvent) × (In y timed × (y.event ≡ q.0)) = timed_for q.0 q.1.0 in
        let number : y.0.event.number ≡ p.number = ap (λ (e : Event). e.number) y.1.1 ∙ q.1.1 in
        let finish : finish_in timed p.number ≡ y.0.finish = ap finish_or_zero (find_from_in timed one_each y.0 p.number y.1.0 number) in
        elim (among y.0 y.1.0) [
          | inl m ↦ is_fired_from_in w.fired y.0 p.number m number
          | inr k ↦ elim k [
            | inl same ↦ absurd (omega (arith, below, number, ap (λ (z : FiredEvent). z.event.number) same))
            | inr m ↦
                let a : x.start ≤ y.0.start = start_from_before x.event x.start y.0.event y.0.start (pairs_from Before w.fired x y.0 rest pairs m) in
                let b : y.0.start < y.0.finish = grows y.0 (to_sorted y.0 y.1.0) in
                let c : x.start ≡ start_of (finish_in timed) x.event = sol.starts x (contains_in x timed (to_timed x now)) in
                absurd (omega (arith, a, b, c, late, finish))
          ]
        ]

    parents : AreParentsFired w.fired x.event
    parents = (
      parent_fired w.fired x.event.first (λ p k. parent p (first_below events numbered x.event (member x (to_timed x now)) p k) (after_first (finish_in timed) x.event p k)),
      parent_fired w.fired x.event.second (λ p k. parent p (second_below events numbered x.event (member x (to_timed x now)) p k) (after_second (finish_in timed) x.event p k)),
    )

    start_is : (z : FiredEvent) → In z timed → AreParentsFired w.fired z.event → z.start ≡ start_of (finish_in w.fired) z.event
    start_is z m p = sol.starts z (contains_in z timed m) ∙ start_extends w.fired timed extends z.event p

    least : least_ready w.fired events ≡ Some (x.event, start_of (finish_in w.fired) x.event)
    least =
        least_is w.fired events x.event (member x (to_timed x now)) (ready_from w.fired x.event unfired parents)
        (λ y m ready.
        let z : (z : FiredEvent) × (In z timed × (z.event ≡ y)) = timed_for y m in
        let parts : (is_fired w.fired y.number ≡ false) × AreParentsFired w.fired y = ready_parts w.fired y ready in
        elim (among z.0 z.1.0) [
          | inl old ↦ absurd (false≢true (sym parts.0 ∙ is_fired_from_in w.fired z.0 y.number old (ap (λ (e : Event). e.number) z.1.1)))
          | inr k ↦ elim k [
            | inl same ↦ inl (sym z.1.1 ∙ ap (λ (t : FiredEvent). t.event) (sym same))
            | inr later ↦
                let b : Before x z.0 = pairs_from Before w.fired x z.0 rest pairs later in
                let s : x.start ≡ start_of (finish_in w.fired) x.event = start_is x (to_timed x now) parents in
                let t : z.0.start ≡ start_of (finish_in w.fired) z.0.event = start_is z.0 z.1.0 (subst (λ e. AreParentsFired w.fired e) (sym z.1.1) parts.1) in
                inr (subst (λ e. is_event_before x.event (start_of (finish_in w.fired) x.event) e (start_of (finish_in w.fired) e) ≡ true) z.1.1
                (subst (λ n. is_event_before x.event (start_of (finish_in w.fired) x.event) z.0.event n ≡ true) t
                (subst (λ n. is_event_before x.event n z.0.event z.0.start ≡ true) s b)))
          ]
        ])

    fires : (fire_least stepped events w).fired ≡ w.fired ++ x ∷ []
    fires =
        let k : ℕ = x.event.component in
        let f : IsServed serves comps x.event = fits x.event (member x (to_timed x now)) in
        let g : IsServed serves w.comps x.event = h.are_served x.event (member x (to_timed x now)) in
        let s : x.start ≡ start_of (finish_in w.fired) x.event = start_is x (to_timed x now) parents in
        let state : g.0 ≡ after_serving stepped f.0 (of_component k w.fired) =
        (let a : slice_get w.comps k ≡ Some g.0 = g.1.0 in
        let b : slice_get w.comps k ≡ Some (after_serving stepped f.0 (of_component k w.fired)) = h.left k f.0 f.1.0 in
        cc)
        in
        let cut : of_component k sol.sorted ≡ of_component k w.fired ++ x ∷ of_component k rest =
        ap (λ xs. of_component k xs) split
        ∙ (filter-append (λ (t : FiredEvent). t.event.component == k) w.fired (x ∷ rest)
        ∙ ap (λ zs. of_component k w.fired ++ zs) (cond-true (k == k) (x ∷ of_component k rest) (of_component k rest) (eq-eqb k k refl)))
        in
        let turn : x.finish ≡ (stepped (after_serving stepped f.0 (of_component k w.fired)) x.event.kind x.start).1 =
        turns_at stepped f.0 (of_component k w.fired) x (of_component k rest) (subst (λ xs. ServesInTurn stepped f.0 xs) cut (sol.finishes k f.0 f.1.0))
        in
        let finish : (stepped g.0 x.event.kind (start_of (finish_in w.fired) x.event)).1 ≡ x.finish =
        ap (λ n. (stepped g.0 x.event.kind n).1) (sym s) ∙ (ap (λ c. (stepped c x.event.kind x.start).1) state ∙ sym turn)
        in
        ap (λ v. v.fired) (fire_least_serves serves stepped events comps w (x.event, start_of (finish_in w.fired) x.event) g.0 least g.1.0)
        ∙ ap (λ t. w.fired ++ t ∷ []) (same_timed x (start_of (finish_in w.fired) x.event) (stepped g.0 x.event.kind (start_of (finish_in w.fired) x.event)).1 (sym s) finish)

  reaches : (rest : List FiredEvent) (n : ℕ) → sol.sorted ≡ (after_firings stepped events comps n).fired ++ rest → (m : ℕ) × ((after_firings stepped events comps m).fired ≡ sol.sorted)
  reaches [] n split = (n, sym (split ∙ append-nil (after_firings stepped events comps n).fired))
  reaches (x ∷ rest) n split =
      let w : Weave C = after_firings stepped events comps n in
      let next : (after_firings stepped events comps (suc n)).fired ≡ w.fired ++ x ∷ [] =
      ap (λ v. v.fired) (after_more serves stepped events comps n)
      ∙ fires w x rest (holds serves stepped events comps lawful numbered fits n) split
      in
      reaches rest (suc n) (split ∙ (sym (append_assoc w.fired (x ∷ []) rest) ∙ ap (λ xs. xs ++ rest) (sym next)))

  all_sorted : AllFired sol.sorted events
  all_sorted e m =
      let z : (z : FiredEvent) × (In z timed × (z.event ≡ e)) = timed_for e m in
      is_fired_from_in sol.sorted z.0 e.number (to_sorted z.0 z.1.0) (ap (λ (y : Event). y.number) z.1.1)

  fired_is_sorted : (weave stepped events comps).fired ≡ sol.sorted
  fired_is_sorted =
      let r : (m : ℕ) × ((after_firings stepped events comps m).fired ≡ sol.sorted) =
      reaches sol.sorted 0 (ap (λ (v : Weave C). v.fired ++ sol.sorted) (sym (after_first_firing serves stepped events comps)))
      in
      let at_m : AllFired (after_firings stepped events comps r.0).fired events = subst (λ xs. AllFired xs events) (sym r.1) all_sorted in
      let at_end : AllFired (weave stepped events comps).fired events = all_fired serves stepped events comps lawful numbered fits in
      elim (cases_lt r.0 (length events)) [
        | inl l ↦ ap (λ v. v.fired) (stays serves stepped events comps lawful numbered fits r.0 at_m (length events) (omega arith)) ∙ r.1
        | inr l ↦ ap (λ v. v.fired) (sym (stays serves stepped events comps lawful numbered fits (length events) at_end r.0 l)) ∙ r.1
      ]

  pub is_woven : timed ≡ woven stepped events comps
  is_woven =
      sym (map_itself (λ x. fired_event_in (weave stepped events comps).fired x.event) timed
      (λ x m. answer_at serves stepped events comps lawful numbered fits x (subst (λ xs. In x xs) (sym fired_is_sorted) (to_sorted x m))))
      ∙ (sym (map_map (λ (x : FiredEvent). x.event) (fired_event_in (weave stepped events comps).fired) timed)
      ∙ (ap (λ es. map (fired_event_in (weave stepped events comps).fired) es) sol.events_are
      ∙ sym (woven-is serves stepped events comps lawful numbered fits)))
