-- The fired event of a number, and the start rule over the fired events.
use Rattle.std.proofs.Common.{◌≡◌, ◌≤◌, ◌+◌, ◌==◌, ℕ, true, false, cond, inl, inr, List, [], ◌∷◌, ◌++◌, Option, Some, None, is_some, sym, ◌∙◌, ap, refl, arith}
use Rattle.std.proofs.lemmas.Bool.{cond-true, cond-false, cond_both, eqb-true, eq-eqb, ne_eqb}
use Rattle.event_graph.specs.declared.event.Event.{Event}
use Rattle.event_graph.specs.declared.event.Parent.{Parent}
use Rattle.event_graph.specs.OneListWeave.{FiredEvent, after_parent, find_fired, finish_in, finish_or_zero, is_fired, is_parent_fired, start_of}
use Rattle.event_graph.proofs.Lists.{In}

-- no two of them have one number
abbrev pub IsOneEach : List FiredEvent → Type 0
IsOneEach xs = (x y : FiredEvent) → In x xs → In y xs → x.event.number ≡ y.event.number → x ≡ y

pub some_from_fired : (o : Option FiredEvent) → is_some o ≡ true → (x : FiredEvent) × (o ≡ Some x)
some_from_fired None h = absurd (cc)
some_from_fired (Some x) h = (x, refl)

pub found_in : (xs : List FiredEvent) (n : ℕ) (x : FiredEvent) → find_fired xs n ≡ Some x → In x xs × (x.event.number ≡ n)
found_in [] n x h = absurd (cc)
found_in (y ∷ xs) n x h =
    cond_both (y.event.number == n) (Some y) (find_fired xs n) (λ o. o ≡ Some x → In x (y ∷ xs) × (x.event.number ≡ n))
    (λ t k. let e : y ≡ x = cc in (inl e, ap (λ (z : FiredEvent). z.event.number) (sym e) ∙ eqb-true y.event.number n t))
    (λ _ k. let r : In x xs × (x.event.number ≡ n) = found_in xs n x k in (inr r.0, r.1))
    h

pub is_fired_from_in : (xs : List FiredEvent) (x : FiredEvent) (n : ℕ) → In x xs → x.event.number ≡ n → is_fired xs n ≡ true
is_fired_from_in [] x n m e = absurd m
is_fired_from_in (y ∷ xs) x n m e =
    elim m [
      | inl same ↦
          let t : (y.event.number == n) ≡ true = eq-eqb y.event.number n (ap (λ (z : FiredEvent). z.event.number) same ∙ e) in
          ap (λ o. is_some o) (cond-true (y.event.number == n) (Some y) (find_fired xs n) t)
      | inr rest ↦
          cond_both (y.event.number == n) (Some y) (find_fired xs n) (λ o. is_some o ≡ true) (λ _. refl) (λ _. is_fired_from_in xs x n rest e)
    ]

pub find_from_in : (xs : List FiredEvent) → IsOneEach xs → (x : FiredEvent) (n : ℕ) → In x xs → x.event.number ≡ n → find_fired xs n ≡ Some x
find_from_in xs one x n m e =
    let r : (y : FiredEvent) × (find_fired xs n ≡ Some y) = some_from_fired (find_fired xs n) (is_fired_from_in xs x n m e) in
    let f : In r.0 xs × (r.0.event.number ≡ n) = found_in xs n r.0 r.1 in
    let same : r.0 ≡ x = one r.0 x f.0 m (f.1 ∙ sym e) in
    r.1 ∙ ap (λ z. Some z) same

pub fired_in : (xs : List FiredEvent) (n : ℕ) → is_fired xs n ≡ true → (x : FiredEvent) × (In x xs × (x.event.number ≡ n))
fired_in xs n h =
    let r : (y : FiredEvent) × (find_fired xs n ≡ Some y) = some_from_fired (find_fired xs n) h in
    (r.0, found_in xs n r.0 r.1)

-- ys has what xs has
abbrev pub Extends : List FiredEvent → List FiredEvent → Type 0
Extends xs ys = (n : ℕ) → is_fired xs n ≡ true → find_fired ys n ≡ find_fired xs n

pub extends_from : (xs ys : List FiredEvent) → IsOneEach ys → ((x : FiredEvent) → In x xs → In x ys) → Extends xs ys
extends_from xs ys one sub n h =
    let r : (y : FiredEvent) × (find_fired xs n ≡ Some y) = some_from_fired (find_fired xs n) h in
    let f : In r.0 xs × (r.0.event.number ≡ n) = found_in xs n r.0 r.1 in
    find_from_in ys one r.0 n (sub r.0 f.0) f.1 ∙ sym r.1

pub fired_extends : (xs ys : List FiredEvent) → Extends xs ys → (n : ℕ) → is_fired xs n ≡ true → is_fired ys n ≡ true
fired_extends xs ys ext n h = ap (λ o. is_some o) (ext n h) ∙ h

-- both parents fired

abbrev pub AreParentsFired : List FiredEvent → Event → Type 0
AreParentsFired fired e = (is_parent_fired fired e.first ≡ true) × (is_parent_fired fired e.second ≡ true)

pub parent_extends : (xs ys : List FiredEvent) → Extends xs ys → (o : Option Parent) → is_parent_fired xs o ≡ true → is_parent_fired ys o ≡ true
parent_extends xs ys ext None h = h
parent_extends xs ys ext (Some p) h = fired_extends xs ys ext p.number h

pub after_parent_extends : (xs ys : List FiredEvent) → Extends xs ys → (o : Option Parent) → is_parent_fired xs o ≡ true → after_parent (finish_in ys) o ≡ after_parent (finish_in xs) o
after_parent_extends xs ys ext None h = refl
after_parent_extends xs ys ext (Some p) h = ap (λ o. finish_or_zero o + p.delay) (ext p.number h)

pub start_extends : (xs ys : List FiredEvent) → Extends xs ys → (e : Event) → AreParentsFired xs e → start_of (finish_in ys) e ≡ start_of (finish_in xs) e
start_extends xs ys ext e h =
    let a : after_parent (finish_in ys) e.first ≡ after_parent (finish_in xs) e.first = after_parent_extends xs ys ext e.first h.0 in
    let b : after_parent (finish_in ys) e.second ≡ after_parent (finish_in xs) e.second = after_parent_extends xs ys ext e.second h.1 in
    cc

-- a start is no earlier where finishes are later

after_parent_mono : (F G : ℕ → ℕ) → ((n : ℕ) → F n ≤ G n) → (o : Option Parent) → after_parent F o ≤ after_parent G o
after_parent_mono F G h None = omega arith
after_parent_mono F G h (Some p) = omega (arith, h p.number)

pub start_mono : (F G : ℕ → ℕ) → ((n : ℕ) → F n ≤ G n) → (e : Event) → start_of F e ≤ start_of G e
start_mono F G h e = omega (arith, after_parent_mono F G h e.first, after_parent_mono F G h e.second)

-- the start is no earlier than a parent's finish

pub after_first : (finish : ℕ → ℕ) (e : Event) (p : Parent) → e.first ≡ Some p → finish p.number ≤ start_of finish e
after_first finish e p h =
    let a : after_parent finish e.first ≡ finish p.number + p.delay = ap (λ o. after_parent finish o) h in
    omega arith

pub after_second : (finish : ℕ → ℕ) (e : Event) (p : Parent) → e.second ≡ Some p → finish p.number ≤ start_of finish e
after_second finish e p h =
    let a : after_parent finish e.second ≡ finish p.number + p.delay = ap (λ o. after_parent finish o) h in
    omega arith

-- one more that fired

pub find_push_other : (xs : List FiredEvent) (y : FiredEvent) (n : ℕ) → (y.event.number ≡ n → ⊥) → find_fired (xs ++ y ∷ []) n ≡ find_fired xs n
find_push_other [] y n ne = cond-false (y.event.number == n) (Some y) None (ne_eqb y.event.number n ne)
find_push_other (x ∷ xs) y n ne = ap (λ o. cond (x.event.number == n) (Some x) o) (find_push_other xs y n ne)

pub find_push_new : (xs : List FiredEvent) (y : FiredEvent) (n : ℕ) → is_fired xs n ≡ false → y.event.number ≡ n → find_fired (xs ++ y ∷ []) n ≡ Some y
find_push_new [] y n f e = cond-true (y.event.number == n) (Some y) None (eq-eqb y.event.number n e)
find_push_new (x ∷ xs) y n f e =
    cond_both (x.event.number == n) (Some x) (find_fired xs n) (λ o. is_some o ≡ false → cond (x.event.number == n) (Some x) (find_fired (xs ++ y ∷ []) n) ≡ Some y)
    (λ _ k. absurd (cc))
    (λ t k. cond-false (x.event.number == n) (Some x) (find_fired (xs ++ y ∷ []) n) t ∙ find_push_new xs y n k e)
    f
