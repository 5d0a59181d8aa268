-- What holds after each firing of the weave.
use Rattle.std.proofs.Common.{◌≡◌, ◌≤◌, ◌<◌, ◌==◌, ℕ, Bool, true, false, List, [], ◌∷◌, ◌++◌, set, ◌⊎◌, inl, inr, get_or, Option, Some, None, sym, ◌∙◌, ap, subst, refl, arith}
use Rattle.std.specs.Prelude.{IsTrue, slice_get}
use Rattle.std.proofs.lemmas.Bool.{cond-true, cond-false, eq-eqb, ne_eqb, cases_Bool, cases_eq, false≢true}
use Rattle.std.proofs.lemmas.List.Quantifiers.{all_pairs_push}
use Rattle.std.proofs.lemmas.List.{append-nil}
use Rattle.std.proofs.lemmas.List.Elements.{filter-append}
use Rattle.component.specs.declared.kind.Kind.{Kind}
use Rattle.event_graph.specs.declared.event.Event.{Event}
use Rattle.event_graph.specs.declared.event.Parent.{Parent}
use Rattle.event_graph.specs.Numbered.{IsNumbered}
use Rattle.event_graph.specs.OneListWeave.{FiredEvent, Weave, finish_in, finish_or_zero, is_event_before, is_fired, is_parent_fired, is_ready, served, start_of}
use Rattle.event_graph.specs.ServedEvents.{after_serving, of_component}
use Rattle.event_graph.specs.TimingSolution.{IsInOrder, ServesInTurn}
use Rattle.event_graph.proofs.FindFired.{AreParentsFired, Extends, IsOneEach, after_first, after_second, find_from_in, extends_from, fired_extends, fired_in, is_fired_from_in, parent_extends, start_extends}
use Rattle.event_graph.proofs.Least.{IsLeast, ready_from, ready_parts}
use Rattle.event_graph.proofs.Lists.{In, get-set_other, get-set_same, in_get, in_left, in_push, in_push_cases}
use Rattle.event_graph.proofs.Order.{before_by_start, before_from_not, before_trans}
use Rattle.event_graph.proofs.Turns.{after_serving-push, turns_push}

-- a component serves what it did before a step, and finishes after it starts
pub record IsLawful {C : Type 0} (serves : C → Kind → Bool) (stepped : C → Kind → ℕ → C × ℕ) : Type 0 where
  pub stays : (c : C) (kind : Kind) (start : ℕ) (other : Kind) → IsTrue (serves c kind) → serves (stepped c kind start).0 other ≡ serves c other
  pub grows : (c : C) (kind : Kind) (start : ℕ) → IsTrue (serves c kind) → start < (stepped c kind start).1

-- the event's component is there, and serves it
abbrev pub IsServed : {C : Type 0} → (C → Kind → Bool) → List C → Event → Type 0
IsServed {C} serves comps e = (c : C) × ((slice_get comps e.component ≡ Some c) × IsTrue (serves c e.kind))

pub of_component_same : (k : ℕ) (xs : List FiredEvent) (y : FiredEvent) → y.event.component ≡ k → of_component k (xs ++ y ∷ []) ≡ of_component k xs ++ y ∷ []
of_component_same k xs y same =
    filter-append (λ (x : FiredEvent). x.event.component == k) xs (y ∷ [])
    ∙ ap (λ zs. of_component k xs ++ zs) (cond-true (y.event.component == k) (y ∷ []) [] (eq-eqb y.event.component k same))

pub of_component_other : (k : ℕ) (xs : List FiredEvent) (y : FiredEvent) → (y.event.component ≡ k → ⊥) → of_component k (xs ++ y ∷ []) ≡ of_component k xs
of_component_other k xs y apart =
    filter-append (λ (x : FiredEvent). x.event.component == k) xs (y ∷ [])
    ∙ (ap (λ zs. of_component k xs ++ zs) (cond-false (y.event.component == k) (y ∷ []) [] (ne_eqb y.event.component k apart)) ∙ append-nil (of_component k xs))

module _ {C : Type 0} (serves : C → Kind → Bool) (stepped : C → Kind → ℕ → C × ℕ) (events : List Event) (comps : List C) where
  -- what holds between firings
  pub record HoldsBetween (w : Weave C) : Type 0 where
    pub members : (x : FiredEvent) → In x w.fired → In x.event events
    pub one_each : IsOneEach w.fired
    pub starts : (x : FiredEvent) → In x w.fired → x.start ≡ start_of (finish_in w.fired) x.event
    pub parents : (x : FiredEvent) → In x w.fired → AreParentsFired w.fired x.event
    pub in_order : IsInOrder w.fired
    -- what is ready is later than what fired
    pub later : (x : FiredEvent) (y : Event) → In x w.fired → In y events → is_ready w.fired y ≡ true → is_event_before x.event x.start y (start_of (finish_in w.fired) y) ≡ true
    pub are_served : (e : Event) → In e events → IsServed serves w.comps e
    pub turns : (k : ℕ) (c : C) → slice_get comps k ≡ Some c → ServesInTurn stepped c (of_component k w.fired)
    pub left : (k : ℕ) (c : C) → slice_get comps k ≡ Some c → slice_get w.comps k ≡ Some (after_serving stepped c (of_component k w.fired))

  pub holds_at_first : ((e : Event) → In e events → IsServed serves comps e) → HoldsBetween (record { fired = []; comps = comps })
  holds_at_first fits = record {
    members = λ x m. absurd m;
    one_each = λ x y m _ _. absurd m;
    starts = λ x m. absurd m;
    parents = λ x m. absurd m;
    in_order = λ i j d a b. absurd (omega (arith, b));
    later = λ x y m _ _. absurd m;
    are_served = fits;
    turns = λ k c h. tt;
    left = λ k c h. h;
  }

  -- an event fires
  module _ (lawful : IsLawful serves stepped) (numbered : IsNumbered events) (w : Weave C) (e : Event) (s : ℕ) (c : C)
      (h : HoldsBetween w) (l : IsLeast w.fired events e s) (is : slice_get w.comps e.component ≡ Some c) where
    abbrev next : FiredEvent
    next = record { event = e; start = s; finish = (stepped c e.kind s).1 }

    abbrev new : List FiredEvent
    new = w.fired ++ next ∷ []

    unfired : is_fired w.fired e.number ≡ false
    unfired = (ready_parts w.fired e l.ready).0

    not_among : (x : FiredEvent) → In x w.fired → x.event.number ≡ e.number → ⊥
    not_among x m q = false≢true (sym unfired ∙ is_fired_from_in w.fired x e.number m q)

    one_each : IsOneEach new
    one_each x y mx my q =
        elim (in_push_cases x w.fired next mx) [
          | inl ox ↦ elim (in_push_cases y w.fired next my) [
            | inl oy ↦ h.one_each x y ox oy q
            | inr ey ↦ absurd (not_among x ox (q ∙ ap (λ (z : FiredEvent). z.event.number) (sym ey)))
          ]
          | inr ex ↦ elim (in_push_cases y w.fired next my) [
            | inl oy ↦ absurd (not_among y oy (sym q ∙ ap (λ (z : FiredEvent). z.event.number) (sym ex)))
            | inr ey ↦ sym ex ∙ ey
          ]
        ]

    extends : Extends w.fired new
    extends = extends_from w.fired new one_each (λ x m. in_left x w.fired (next ∷ []) m)

    served_now : IsTrue (serves c e.kind)
    served_now =
        let r : IsServed serves w.comps e = h.are_served e l.member in
        let same : r.0 ≡ c = cc in
        subst (λ z. IsTrue (serves z e.kind)) same r.1.1

    finish_now : finish_in new e.number ≡ (stepped c e.kind s).1
    finish_now = ap finish_or_zero (find_from_in new one_each next e.number (in_push w.fired next) refl)

    before_now : (x : FiredEvent) → In x w.fired → is_event_before x.event x.start e s ≡ true
    before_now x m = subst (λ n. is_event_before x.event x.start e n ≡ true) (sym l.start_is) (h.later x e m l.member l.ready)

    -- a parent that fired did so before, or is this event
    parent_cases : (o : Option Parent) → is_parent_fired new o ≡ true → (is_parent_fired w.fired o ≡ true) ⊎ ((p : Parent) × ((o ≡ Some p) × (p.number ≡ e.number)))
    parent_cases None k = inl refl
    parent_cases (Some p) k =
        let r : (x : FiredEvent) × (In x new × (x.event.number ≡ p.number)) = fired_in new p.number k in
        elim (in_push_cases r.0 w.fired next r.1.0) [
          | inl old ↦ inl (is_fired_from_in w.fired r.0 p.number old r.1.1)
          | inr same ↦ inr (p, (refl, sym r.1.1 ∙ ap (λ (z : FiredEvent). z.event.number) (sym same)))
        ]

    unfired_before : (y : Event) → is_fired new y.number ≡ false → is_fired w.fired y.number ≡ false
    unfired_before y f =
        elim (cases_Bool (is_fired w.fired y.number)) [ inl t ↦ absurd (false≢true (sym f ∙ fired_extends w.fired new extends y.number t)) | inr k ↦ k ]

    -- what is ready now is later than this event
    after_now : (y : Event) → In y events → is_ready new y ≡ true → is_event_before e s y (start_of (finish_in new) y) ≡ true
    after_now y m k =
        let parts : (is_fired new y.number ≡ false) × AreParentsFired new y = ready_parts new y k in
        let other : e.number ≡ y.number → ⊥ = λ q. false≢true (sym parts.0 ∙ is_fired_from_in new next y.number (in_push w.fired next) q) in
        let late : finish_in new e.number ≤ start_of (finish_in new) y → is_event_before e s y (start_of (finish_in new) y) ≡ true =
        λ q. before_by_start e s y (start_of (finish_in new) y) (let g : s < (stepped c e.kind s).1 = lawful.grows c e.kind s served_now in omega (arith, g, q, finish_now)) in
        elim (parent_cases y.first parts.1.0) [
          | inl a ↦ elim (parent_cases y.second parts.1.1) [
            | inl b ↦
                let ready : is_ready w.fired y ≡ true = ready_from w.fired y (unfired_before y parts.0) (a, b) in
                subst (λ n. is_event_before e s y n ≡ true) (sym (start_extends w.fired new extends y (a, b)))
                (before_from_not e s y (start_of (finish_in w.fired) y) (l.least y m ready) other)
            | inr b ↦ late (subst (λ n. finish_in new n ≤ start_of (finish_in new) y) b.1.1 (after_second (finish_in new) y b.0 b.1.0))
          ]
          | inr a ↦ late (subst (λ n. finish_in new n ≤ start_of (finish_in new) y) a.1.1 (after_first (finish_in new) y a.0 a.1.0))
        ]

    later_now : (x : FiredEvent) (y : Event) → In x new → In y events → is_ready new y ≡ true → is_event_before x.event x.start y (start_of (finish_in new) y) ≡ true
    later_now x y mx my k =
        elim (in_push_cases x w.fired next mx) [
          | inl old ↦ before_trans x.event x.start e s y (start_of (finish_in new) y) (before_now x old) (after_now y my k)
          | inr same ↦ subst (λ (z : FiredEvent). is_event_before z.event z.start y (start_of (finish_in new) y) ≡ true) same (after_now y my k)
        ]

    starts_now : (x : FiredEvent) → In x new → (x.start ≡ start_of (finish_in new) x.event) × AreParentsFired new x.event
    starts_now x mx =
        elim (in_push_cases x w.fired next mx) [
          | inl old ↦
              let p : AreParentsFired w.fired x.event = h.parents x old in
              (h.starts x old ∙ sym (start_extends w.fired new extends x.event p), (parent_extends w.fired new extends x.event.first p.0, parent_extends w.fired new extends x.event.second p.1))
          | inr same ↦
              let p : AreParentsFired w.fired e = (ready_parts w.fired e l.ready).1 in
              subst (λ (z : FiredEvent). (z.start ≡ start_of (finish_in new) z.event) × AreParentsFired new z.event) same
              (l.start_is ∙ sym (start_extends w.fired new extends e p), (parent_extends w.fired new extends e.first p.0, parent_extends w.fired new extends e.second p.1))
        ]

    served_after : (y : Event) → In y events → IsServed serves (set w.comps e.component (stepped c e.kind s).0) y
    served_after y m =
        let r : IsServed serves w.comps y = h.are_served y m in
        elim (cases_eq e.component y.component) [
          | inl same ↦
              let at : slice_get w.comps y.component ≡ Some c = subst (λ k. slice_get w.comps k ≡ Some c) same is in
              let q : r.0 ≡ c = cc in
              let k : IsTrue (serves c y.kind) = subst (λ z. IsTrue (serves z y.kind)) q r.1.1 in (
                (stepped c e.kind s).0,
                (
                  subst (λ n. slice_get (set w.comps n (stepped c e.kind s).0) y.component ≡ Some (stepped c e.kind s).0) (sym same) (get-set_same w.comps y.component c (stepped c e.kind s).0 at),
                  subst IsTrue (sym (lawful.stays c e.kind s y.kind served_now)) k,
                ),
              )
          | inr apart ↦ (r.0, (get-set_other w.comps e.component y.component (stepped c e.kind s).0 apart ∙ r.1.0, r.1.1))
        ]

    -- the state of the component that serves it
    state_now : (k : ℕ) (c0 : C) → slice_get comps k ≡ Some c0 → e.component ≡ k → c ≡ after_serving stepped c0 (of_component k w.fired)
    state_now k c0 q same =
        let a : slice_get w.comps k ≡ Some (after_serving stepped c0 (of_component k w.fired)) = h.left k c0 q in
        let b : slice_get w.comps k ≡ Some c = subst (λ n. slice_get w.comps n ≡ Some c) same is in
        cc

    turns_now : (k : ℕ) (c0 : C) → slice_get comps k ≡ Some c0 → ServesInTurn stepped c0 (of_component k new)
    turns_now k c0 q =
        elim (cases_eq e.component k) [
          | inl same ↦
              subst (λ xs. ServesInTurn stepped c0 xs) (sym (of_component_same k w.fired next same))
              (turns_push stepped c0 (of_component k w.fired) next (h.turns k c0 q) (ap (λ z. (stepped z e.kind s).1) (state_now k c0 q same)))
          | inr apart ↦ subst (λ xs. ServesInTurn stepped c0 xs) (sym (of_component_other k w.fired next apart)) (h.turns k c0 q)
        ]

    left_now : (k : ℕ) (c0 : C) → slice_get comps k ≡ Some c0 → slice_get (set w.comps e.component (stepped c e.kind s).0) k ≡ Some (after_serving stepped c0 (of_component k new))
    left_now k c0 q =
        elim (cases_eq e.component k) [
          | inl same ↦
              subst (λ xs. slice_get (set w.comps e.component (stepped c e.kind s).0) k ≡ Some (after_serving stepped c0 xs)) (sym (of_component_same k w.fired next same))
              (subst (λ n. slice_get (set w.comps n (stepped c e.kind s).0) k ≡ Some (after_serving stepped c0 (of_component k w.fired ++ next ∷ []))) (sym same)
              (get-set_same w.comps k c (stepped c e.kind s).0 (subst (λ n. slice_get w.comps n ≡ Some c) same is)
              ∙ ap (λ z. Some z) (ap (λ z. (stepped z e.kind s).0) (state_now k c0 q same) ∙ sym (after_serving-push stepped c0 (of_component k w.fired) next))))
          | inr apart ↦
              subst (λ xs. slice_get (set w.comps e.component (stepped c e.kind s).0) k ≡ Some (after_serving stepped c0 xs)) (sym (of_component_other k w.fired next apart))
              (get-set_other w.comps e.component k (stepped c e.kind s).0 apart ∙ h.left k c0 q)
        ]

    pub holds_after : HoldsBetween (served stepped w e s (Some c))
    holds_after = record {
      members = λ x m. elim (in_push_cases x w.fired next m) [ inl old ↦ h.members x old | inr same ↦ subst (λ (z : FiredEvent). In z.event events) same l.member ];
      one_each = one_each;
      starts = λ x m. (starts_now x m).0;
      parents = λ x m. (starts_now x m).1;
      in_order = all_pairs_push (λ (x y : FiredEvent). IsTrue (is_event_before x.event x.start y.event y.start)) w.fired next h.in_order (λ k d a. before_now (get_or w.fired k d) (in_get w.fired k d a));
      later = later_now;
      are_served = served_after;
      turns = turns_now;
      left = left_now;
    }
