-- The events in the order in which the weave fires them, and those of one domain among them.
use Rattle.std.proofs.Common.{◌≡◌, ◌+◌, ◌<◌, ◌≤◌, ℕ, true, false, eqb, List, take, ◌⊎◌, Option, Some, None, is_some, slice_get, max, sym, ◌∙◌, ap, subst, refl, inl, inr, arith}
use Rattle.std.proofs.lemmas.Bool.{false≢true, cases_lt}
use Rattle.std.proofs.lemmas.Bool.Decides.{nat_tests}
use Rattle.std.proofs.lemmas.Option.{same_Some}
use Rattle.event_graph.specs.declared.event.Event.{Event}
use Rattle.event_graph.specs.declared.event.Parent.{Parent}
use Rattle.event_graph.specs.OneListWeave.{FiredEvent, after_parent, find_fired, finish_in, finish_or_zero, is_event_before, is_fired, is_parent_fired, start_of}
use Rattle.domain_map.specs.Domains.{domain_of_event}
use Rattle.weave_core.specs.DomainMachine.{latency_of}
use Rattle.weave_core.specs.Soundness.{start_in, start_or_zero}
use Rattle.weave_core.specs.Interleavings.{of_domain}
use Rattle.weave_core.proofs.Lists.{In, at_in, find_in, find_some, from_filter, get_take, in_at, in_filter, some_at, take_get, test_cases}

-- All events in an order in which each comes after its parents, which give it its start; by (start, number).
pub record IsOrder (events : List Event) (all : List FiredEvent) : Type 0 where
  pub numbered : (i : ℕ) (e : Event) → slice_get events i ≡ Some e → e.number ≡ i
  pub event : (k : ℕ) (x : FiredEvent) → slice_get all k ≡ Some x → slice_get events x.event.number ≡ Some x.event
  pub each : (e : Event) → slice_get events e.number ≡ Some e → (k : ℕ) × (x : FiredEvent) × (slice_get all k ≡ Some x) × (x.event ≡ e)
  pub once : (k : ℕ) (x : FiredEvent) → slice_get all k ≡ Some x → is_fired (take k all) x.event.number ≡ false
  pub first : (k : ℕ) (x : FiredEvent) → slice_get all k ≡ Some x → is_parent_fired (take k all) x.event.first ≡ true
  pub second : (k : ℕ) (x : FiredEvent) → slice_get all k ≡ Some x → is_parent_fired (take k all) x.event.second ≡ true
  pub start : (k : ℕ) (x : FiredEvent) → slice_get all k ≡ Some x → x.start ≡ start_of (finish_in (take k all)) x.event
  pub time : (k : ℕ) (x : FiredEvent) → slice_get all k ≡ Some x → x.start + latency_of x.event ≤ x.finish
  pub some : (k : ℕ) (x : FiredEvent) → slice_get all k ≡ Some x → 1 ≤ latency_of x.event
  pub order : (i j : ℕ) (x y : FiredEvent) → i < j → slice_get all i ≡ Some x → slice_get all j ≡ Some y → is_event_before x.event x.start y.event y.start ≡ true

-- the order

pub before_start : (x y : FiredEvent) → is_event_before x.event x.start y.event y.start ≡ true → x.start ≤ y.start
before_start x y h = grind (arith, nat_tests)

-- what is known of a number

number_test : (x : FiredEvent) (n : ℕ) → x.event.number ≡ n → eqb x.event.number n ≡ true
number_test x n e = grind (arith, nat_tests)

number_is : (x : FiredEvent) (n : ℕ) → eqb x.event.number n ≡ true → x.event.number ≡ n
number_is x n e = grind (arith, nat_tests)

pub found : (xs : List FiredEvent) (x : FiredEvent) (n : ℕ) → In x xs → x.event.number ≡ n → is_fired xs n ≡ true
found xs x n h e = find_in (λ (y : FiredEvent). eqb y.event.number n) xs x h (number_test x n e)

pub finding : (xs : List FiredEvent) (n : ℕ) → is_fired xs n ≡ true → (x : FiredEvent) × ((find_fired xs n ≡ Some x) × (In x xs × (x.event.number ≡ n)))
finding xs n h =
    let r : (x : FiredEvent) × (find_fired xs n ≡ Some x) = some_at (find_fired xs n) h in
    let s : In r.0 xs × (eqb r.0.event.number n ≡ true) = find_some (λ (y : FiredEvent). eqb y.event.number n) xs r.0 r.1 in
    (r.0, (r.1, (s.0, number_is r.0 n s.1)))

module _ (events : List Event) (all : List FiredEvent) (o : IsOrder events all) where
  not_later : (k j : ℕ) (x y : FiredEvent) → slice_get all k ≡ Some x → slice_get all j ≡ Some y → x.event.number ≡ y.event.number → k < j → ⊥
  not_later k j x y a b e l =
      false≢true (sym (o.once j y b) ∙ found (take j all) x y.event.number (at_in x (take j all) k (take_get all j k x l a)) e)

  -- an event stands once in the order
  pub one_place : (k j : ℕ) (x y : FiredEvent) → slice_get all k ≡ Some x → slice_get all j ≡ Some y → x.event.number ≡ y.event.number → x ≡ y
  one_place k j x y a b e =
      elim (cases_lt k j) [
        | inl l ↦ absurd (not_later k j x y a b e l)
        | inr m ↦
            elim (cases_lt j k) [
              | inl l ↦ absurd (not_later j k y x b a (sym e) l)
              | inr n ↦ let same : k ≡ j = omega arith in same_Some x y (sym a ∙ (ap (slice_get all) same ∙ b))
            ]
      ]

  -- what is known of an event in some of the order is what stands in all of it
  pub known_is : (xs : List FiredEvent) (k : ℕ) (x : FiredEvent) → ((y : FiredEvent) → In y xs → In y all) → slice_get all k ≡ Some x → is_fired xs x.event.number ≡ true
      → find_fired xs x.event.number ≡ Some x
  known_is xs k x sub a h =
      let r : (y : FiredEvent) × ((find_fired xs x.event.number ≡ Some y) × (In y xs × (y.event.number ≡ x.event.number))) = finding xs x.event.number h in
      let place : (j : ℕ) × (slice_get all j ≡ Some r.0) = in_at r.0 all (sub r.0 r.1.1.0) in
      let same : r.0 ≡ x = one_place place.0 k r.0 x place.1 a r.1.1.1 in
      r.1.0 ∙ ap (λ z. Some z) same

  pub all_known : (k : ℕ) (x : FiredEvent) → slice_get all k ≡ Some x → find_fired all x.event.number ≡ Some x
  all_known k x a = known_is all k x (λ y m. m) a (found all x x.event.number (at_in x all k a) refl)

  pub finish_is : (k : ℕ) (x : FiredEvent) → slice_get all k ≡ Some x → finish_in all x.event.number ≡ x.finish
  finish_is k x a = ap finish_or_zero (all_known k x a)

  pub start_is : (k : ℕ) (x : FiredEvent) → slice_get all k ≡ Some x → start_in all x.event.number ≡ x.start
  start_is k x a = ap start_or_zero (all_known k x a)

  in_front : (k : ℕ) (y : FiredEvent) → In y (take k all) → In y all
  in_front k y h =
      let r : (i : ℕ) × (slice_get (take k all) i ≡ Some y) = in_at y (take k all) h in
      at_in y all r.0 (get_take all k r.0 y r.1).1

  -- a parent stands before its child
  pub parent_at : (k : ℕ) (x : FiredEvent) (q : Parent) → slice_get all k ≡ Some x → ((x.event.first ≡ Some q) ⊎ (x.event.second ≡ Some q))
      → (j : ℕ) × ((y : FiredEvent) × ((j < k) × ((slice_get all j ≡ Some y) × (y.event.number ≡ q.number))))
  parent_at k x q a slot =
      let h : is_fired (take k all) q.number ≡ true =
      elim slot [
        | inl e ↦ subst (λ (p : Option Parent). is_parent_fired (take k all) p ≡ true) e (o.first k x a)
        | inr e ↦ subst (λ (p : Option Parent). is_parent_fired (take k all) p ≡ true) e (o.second k x a)
      ]
      in
      let r : (y : FiredEvent) × ((find_fired (take k all) q.number ≡ Some y) × (In y (take k all) × (y.event.number ≡ q.number))) = finding (take k all) q.number h in
      let place : (i : ℕ) × (slice_get (take k all) i ≡ Some r.0) = in_at r.0 (take k all) r.1.1.0 in
      let s : (place.0 < k) × (slice_get all place.0 ≡ Some r.0) = get_take all k place.0 r.0 place.1 in
      (place.0, (r.0, (s.0, (s.1, r.1.1.1))))

  parent_finish : (k : ℕ) (p : Option Parent) → is_parent_fired (take k all) p ≡ true → after_parent (finish_in (take k all)) p ≡ after_parent (finish_in all) p
  parent_finish k None h = refl
  parent_finish k (Some q) h =
      let r : (y : FiredEvent) × ((find_fired (take k all) q.number ≡ Some y) × (In y (take k all) × (y.event.number ≡ q.number))) = finding (take k all) q.number h in
      let place : (i : ℕ) × (slice_get all i ≡ Some r.0) = in_at r.0 all (in_front k r.0 r.1.1.0) in
      let whole : find_fired all q.number ≡ Some r.0 = subst (λ (n : ℕ). find_fired all n ≡ Some r.0) r.1.1.1 (all_known place.0 r.0 place.1) in
      ap (λ (t : Option FiredEvent). finish_or_zero t + q.delay) (r.1.0 ∙ sym whole)

  -- an event starts by the finishes of all events
  pub start_by_all : (k : ℕ) (x : FiredEvent) → slice_get all k ≡ Some x → x.start ≡ start_of (finish_in all) x.event
  start_by_all k x a =
      o.start k x a
      ∙ (ap (λ n. max x.event.min_start (max n (after_parent (finish_in (take k all)) x.event.second))) (parent_finish k x.event.first (o.first k x a))
      ∙ ap (λ n. max x.event.min_start (max (after_parent (finish_in all) x.event.first) n)) (parent_finish k x.event.second (o.second k x a)))

  -- and not before a parent's finish and its delay
  pub start_after_parent : (k : ℕ) (x : FiredEvent) (q : Parent) → slice_get all k ≡ Some x → ((x.event.first ≡ Some q) ⊎ (x.event.second ≡ Some q))
      → finish_in all q.number + q.delay ≤ x.start
  start_after_parent k x q a slot =
      let s : x.start ≡ start_of (finish_in all) x.event = start_by_all k x a in
      elim slot [
        | inl e ↦
            let t : after_parent (finish_in all) x.event.first ≡ finish_in all q.number + q.delay = ap (after_parent (finish_in all)) e in
            omega (arith, s, t)
        | inr e ↦
            let t : after_parent (finish_in all) x.event.second ≡ finish_in all q.number + q.delay = ap (after_parent (finish_in all)) e in
            omega (arith, s, t)
      ]

  -- One domain's events up to a cut.

  module _ (places : List ℕ) (domain : ℕ) where
    domain_test : (x : FiredEvent) → domain_of_event places x.event ≡ domain → eqb (domain_of_event places x.event) domain ≡ true
    domain_test x e = grind (arith, nat_tests)

    domain_is : (x : FiredEvent) → eqb (domain_of_event places x.event) domain ≡ true → domain_of_event places x.event ≡ domain
    domain_is x e = grind (arith, nat_tests)

    pub from_domain : (cut : ℕ) (x : FiredEvent) → In x (of_domain places domain (take cut all))
        → (k : ℕ) × ((k < cut) × ((slice_get all k ≡ Some x) × (domain_of_event places x.event ≡ domain)))
    from_domain cut x h =
        let f : In x (take cut all) × (eqb (domain_of_event places x.event) domain ≡ true) =
        from_filter (λ (y : FiredEvent). eqb (domain_of_event places y.event) domain) x (take cut all) h
        in
        let r : (i : ℕ) × (slice_get (take cut all) i ≡ Some x) = in_at x (take cut all) f.0 in
        let s : (r.0 < cut) × (slice_get all r.0 ≡ Some x) = get_take all cut r.0 x r.1 in
        (r.0, (s.0, (s.1, domain_is x f.1)))

    -- before the cut the domain's events are there
    pub known_before : (cut k : ℕ) (x : FiredEvent) → k < cut → slice_get all k ≡ Some x → domain_of_event places x.event ≡ domain
        → find_fired (of_domain places domain (take cut all)) x.event.number ≡ Some x
    known_before cut k x l a d =
        let there : In x (of_domain places domain (take cut all)) =
        in_filter (λ (y : FiredEvent). eqb (domain_of_event places y.event) domain) x (take cut all) (at_in x (take cut all) k (take_get all cut k x l a)) (domain_test x d)
        in
        known_is (of_domain places domain (take cut all)) k x
        (λ y m. let r : (j : ℕ) × ((j < cut) × ((slice_get all j ≡ Some y) × (domain_of_event places y.event ≡ domain))) = from_domain cut y m in at_in y all r.0 r.1.1.0)
        a (found (of_domain places domain (take cut all)) x x.event.number there refl)

    pub fired_before : (cut k : ℕ) (x : FiredEvent) → k < cut → slice_get all k ≡ Some x → domain_of_event places x.event ≡ domain
        → is_fired (of_domain places domain (take cut all)) x.event.number ≡ true
    fired_before cut k x l a d = ap is_some (known_before cut k x l a d)

    -- what is fired stands before the cut
    pub before_fired : (cut k : ℕ) (x : FiredEvent) → slice_get all k ≡ Some x → is_fired (of_domain places domain (take cut all)) x.event.number ≡ true
        → (k < cut) × (domain_of_event places x.event ≡ domain)
    before_fired cut k x a h =
        let r : (y : FiredEvent) × ((find_fired (of_domain places domain (take cut all)) x.event.number ≡ Some y)
        × (In y (of_domain places domain (take cut all)) × (y.event.number ≡ x.event.number))) =
        finding (of_domain places domain (take cut all)) x.event.number h
        in
        let s : (j : ℕ) × ((j < cut) × ((slice_get all j ≡ Some r.0) × (domain_of_event places r.0.event ≡ domain))) = from_domain cut r.0 r.1.1.0 in
        elim (cases_lt k s.0) [
          | inl l ↦ (omega (arith, s.1.0), subst (λ (z : FiredEvent). domain_of_event places z.event ≡ domain) (one_place s.0 k r.0 x s.1.1.0 a r.1.1.1) s.1.1.1)
          | inr m ↦
              elim (cases_lt s.0 k) [
                | inl l ↦ absurd (not_later s.0 k r.0 x s.1.1.0 a r.1.1.1 l)
                | inr n ↦ (omega (arith, s.1.0), subst (λ (z : FiredEvent). domain_of_event places z.event ≡ domain) (one_place s.0 k r.0 x s.1.1.0 a r.1.1.1) s.1.1.1)
              ]
        ]

    pub unfired_from : (cut k : ℕ) (x : FiredEvent) → cut ≤ k → slice_get all k ≡ Some x → is_fired (of_domain places domain (take cut all)) x.event.number ≡ false
    unfired_from cut k x l a =
        elim (test_cases (is_fired (of_domain places domain (take cut all)) x.event.number)) [
          | inl t ↦ absurd (omega (arith, (before_fired cut k x a t).0))
          | inr f ↦ f
        ]
