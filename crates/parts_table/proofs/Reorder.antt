-- Accesses of cores to parts, in two orders with the same accesses of each core. The one is a run: each access is right where
-- it is made. The other is in order of times. Then that is a run too, and it leaves the same. For two accesses of two cores
-- that touch a common part have different keys, in the order in which they were made, and all others commute.
use Rattle.std.proofs.Common.{◌≡◌, ℕ, ◌+◌, ◌*◌, ◌<◌, ◌≤◌, ◌==◌, ◌⊎◌, Bool, true, false, cond, if◌then◌else◌, eqb, List, [], ◌∷◌, ◌++◌, refl, sym, ap, ◌∙◌, subst, arith, inl, inr}
use mathlib.Core.Path.{fun_ext}
use Rattle.std.specs.List.{filter}
use Rattle.std.proofs.lemmas.Bool.{both_ways, cases_Bool, cases_eq, eq-eqb, eqb-true, ne_eqb}

-- ---- lists
abbrev pub Each : {X : Type 0} → (X → Type 0) → List X → Type 0
Each P [] = Unit {0}
Each P (x ∷ xs) = P x × Each P xs

-- the first element that passes a test
pub record IsSplit {X : Type 0} (p : X → Bool) (xs : List X) (a : X) (rest : List X) : Type 0 where
  pub before : List X
  pub behind : List X
  pub list_is : xs ≡ before ++ a ∷ behind
  pub passes : p a ≡ true
  pub none : filter p before ≡ []
  pub rest_is : filter p behind ≡ rest

head_is : {X : Type 0} (x y : X) (xs ys : List X) → x ∷ xs ≡ y ∷ ys → (x ≡ y) × (xs ≡ ys)
head_is x y xs ys e = (cc, cc)

not_empty : {X : Type 0} (x : X) (xs : List X) → x ∷ xs ≡ [] → ⊥
not_empty x xs e = cc

split_step : {X : Type 0} (p : X → Bool) (x : X) (xs : List X) (a : X) (rest : List X) → (filter p xs ≡ a ∷ rest → IsSplit p xs a rest)
    → (t : Bool) → p x ≡ t → cond t (x ∷ filter p xs) (filter p xs) ≡ a ∷ rest → IsSplit p (x ∷ xs) a rest
split_step p x xs a rest below true is e = let h = head_is x a (filter p xs) rest e in
    record { before = []; behind = xs; list_is = ap (λ y. y ∷ xs) h.0; passes = subst (λ y. p y ≡ true) h.0 is; none = refl; rest_is = h.1 }
split_step p x xs a rest below false is e = let h = below e in
    record {
      before = x ∷ h.before;
      behind = h.behind;
      list_is = ap (λ ys. x ∷ ys) h.list_is;
      passes = h.passes;
      none = subst (λ t. cond t (x ∷ filter p h.before) (filter p h.before) ≡ []) (sym is) h.none;
      rest_is = h.rest_is;
    }

split_first : {X : Type 0} (p : X → Bool) (xs : List X) (a : X) (rest : List X) → filter p xs ≡ a ∷ rest → IsSplit p xs a rest
split_first p [] a rest e = absurd (not_empty a rest (sym e))
split_first p (x ∷ xs) a rest e = split_step p x xs a rest (split_first p xs a rest) (p x) refl e

filter_append : {X : Type 0} (p : X → Bool) (xs ys : List X) → filter p (xs ++ ys) ≡ filter p xs ++ filter p ys
filter_append p [] ys = refl
filter_append p (x ∷ xs) ys = elim (p x) as (λ t. cond t (x ∷ filter p (xs ++ ys)) (filter p (xs ++ ys)) ≡ cond t (x ∷ filter p xs) (filter p xs) ++ filter p ys) [
  | true ↦ ap (λ zs. x ∷ zs) (filter_append p xs ys)
  | false ↦ filter_append p xs ys
]

each_filtered : {X : Type 0} (p : X → Bool) (P : X → Type 0) (xs : List X) → Each P xs → Each P (filter p xs)
each_filtered p P [] all = tt
each_filtered p P (x ∷ xs) all = elim (p x) as (λ t. Each P (cond t (x ∷ filter p xs) (filter p xs))) [
  | true ↦ (all.0, each_filtered p P xs all.1)
  | false ↦ each_filtered p P xs all.1
]

each_tail : {X : Type 0} (P : X → Type 0) (x : X) (xs : List X) (t : Bool) → Each P (cond t (x ∷ xs) xs) → Each P xs
each_tail P x xs true all = all.1
each_tail P x xs false all = all

each_append_left : {X : Type 0} (P : X → Type 0) (xs ys : List X) → Each P (xs ++ ys) → Each P xs
each_append_left P [] ys all = tt
each_append_left P (x ∷ xs) ys all = (all.0, each_append_left P xs ys all.1)

module _ {Access : Type 0} (core : Access → ℕ) where
  abbrev pub of_core : (c : ℕ) → List Access → List Access
  of_core c list = filter (λ a. core a == c) list

  pub of_own : (a : Access) (list : List Access) → of_core (core a) (a ∷ list) ≡ a ∷ of_core (core a) list
  of_own a list = rw (eq-eqb (core a) (core a) refl) refl

  pub of_other : (c : ℕ) (a : Access) (list : List Access) → (core a ≡ c → ⊥) → of_core c (a ∷ list) ≡ of_core c list
  of_other c a list other = rw (ne_eqb (core a) c other) refl

  -- what holds of each core's accesses holds of all
  each_of_cores : (P : Access → Type 0) (list : List Access) → ((c : ℕ) → Each P (of_core c list)) → Each P list
  each_of_cores P [] all = tt
  each_of_cores P (a ∷ list) all =
      let own : Each P (a ∷ of_core (core a) list) = subst (Each P) (of_own a list) (all (core a)) in
      (own.0, each_of_cores P list (λ c. each_tail P a (of_core c list) (core a == c) (all c)))

  -- no access of this core
  none_of : (c : ℕ) (list : List Access) → of_core c list ≡ [] → Each (λ b. core b ≡ c → ⊥) list
  none_of c [] e = tt
  none_of c (b ∷ list) e = elim (cases_eq (core b) c) [
    | inl is ↦ absurd (not_empty b (of_core c list) (sym (rw (eq-eqb (core b) c is) refl) ∙ e))
    | inr other ↦ (other, none_of c list (sym (of_other c b list other) ∙ e))
  ]

  -- no access at all
  none_at_all : (list : List Access) → ((c : ℕ) → of_core c list ≡ []) → list ≡ []
  none_at_all [] e = refl
  none_at_all (b ∷ list) e = absurd (not_empty b (of_core (core b) list) (sym (of_own b list) ∙ e (core b)))

-- ---- accesses to parts
module _ {Part Access : Type 0} (core : Access → ℕ) (time : Access → ℕ) (shared : Access → Bool)
    (touches : (ℕ → Part) → Access → ℕ → Bool) (moved : (ℕ → Part) → Access → ℕ → Part)
    (IsRight : (ℕ → Part) → Access → Type 0) (IsFine : (ℕ → Part) → Type 0) (time_of : Part → ℕ) where
  abbrev World : Type 0
  World = ℕ → Part

  abbrev pub after : World → Access → World
  after w a = λ k. if touches w a k then moved w a k else w k

  abbrev pub lived : World → List Access → World
  lived w [] = w
  lived w (a ∷ list) = lived (after w a) list

  abbrev pub AreRight : World → List Access → Type 0
  AreRight w [] = Unit {0}
  AreRight w (a ∷ list) = IsRight w a × AreRight (after w a) list

  -- the other world is the same in all that an access touches
  abbrev pub Agrees : World → World → Access → Type 0
  Agrees w v a = (k : ℕ) → touches w a k ≡ true → v k ≡ w k

  -- What is asked of the accesses.
  pub record AreLocal : Type 0 where
    -- an access that is right goes by the parts that it touches
    pub touches_same : (w v : World) (a : Access) → IsFine w → IsFine v → IsRight w a → Agrees w v a → (k : ℕ) → touches v a k ≡ touches w a k
    pub moved_same : (w v : World) (a : Access) → IsFine w → IsFine v → IsRight w a → Agrees w v a → (k : ℕ) → touches w a k ≡ true → moved v a k ≡ moved w a k
    pub right_same : (w v : World) (a : Access) → IsFine w → IsFine v → IsRight w a → Agrees w v a → IsRight v a
    pub fine : (w : World) (a : Access) → IsFine w → IsRight w a → IsFine (after w a)
    -- an access touches the part of its own core, a private one no other, and that has its time
    pub own : (w : World) (a : Access) → IsFine w → IsRight w a → touches w a (core a) ≡ true
    pub alone : (w : World) (a : Access) → IsFine w → IsRight w a → shared a ≡ false → (k : ℕ) → touches w a k ≡ true → k ≡ core a
    pub alone_time : (w : World) (a : Access) → IsFine w → IsRight w a → shared a ≡ false → time a ≡ time_of (w (core a))
    -- a shared one has a time past those of all parts that it touches
    pub later : (w : World) (a : Access) → IsFine w → IsRight w a → shared a ≡ true → (k : ℕ) → touches w a k ≡ true → time_of (w k) < time a
    pub timed : (w : World) (a : Access) → IsFine w → IsRight w a → (k : ℕ) → touches w a k ≡ true → time_of (moved w a k) ≡ time a

  abbrev pub key_of : Access → ℕ
  key_of a = 2 * time a + (if shared a then 0 else 1)

  abbrev pub ComesFirst : Access → Access → Type 0
  ComesFirst a b = (key_of a < key_of b) ⊎ ((key_of a ≡ key_of b) × (core a ≤ core b))

  abbrev pub IsBefore : Access → List Access → Type 0
  IsBefore a [] = Unit {0}
  IsBefore a (b ∷ list) = ComesFirst a b

  abbrev pub AreInOrder : List Access → Type 0
  AreInOrder [] = Unit {0}
  AreInOrder (a ∷ list) = IsBefore a list × AreInOrder list

  key_least : (a b : Access) → ComesFirst a b → key_of a ≤ key_of b
  key_least a b (inl h) = omega arith
  key_least a b (inr h) = omega arith

  key_shared : (a : Access) → shared a ≡ true → key_of a ≡ 2 * time a
  key_shared a is = ap (λ (t : Bool). 2 * time a + (if t then 0 else 1)) is ∙ omega arith

  key_private : (a : Access) → shared a ≡ false → key_of a ≡ 2 * time a + 1
  key_private a is = ap (λ (t : Bool). 2 * time a + (if t then 0 else 1)) is

  -- the first key is the least
  first_least : (n : ℕ) (a : Access) (list : List Access) → n ≤ key_of a → IsBefore a list → AreInOrder list → Each (λ b. n ≤ key_of b) list
  first_least n a [] low first order = tt
  first_least n a (b ∷ list) low first order =
      let here : n ≤ key_of b = (let l = key_least a b first in omega arith) in (here, first_least n b list here order.0 order.1)

  touched_after : (w : World) (a : Access) (k : ℕ) → touches w a k ≡ true → after w a k ≡ moved w a k
  touched_after w a k is = rw is refl

  other_after : (w : World) (a : Access) (k : ℕ) → touches w a k ≡ false → after w a k ≡ w k
  other_after w a k is = rw is refl

  module _ (local : AreLocal) where
    -- An access touches nothing that the access behind it touches, if that is another core's and its key isn't greater.
    are_apart : (w : World) (b a : Access) → IsFine w → IsRight w b → IsRight (after w b) a → (core b ≡ core a → ⊥) → key_of a ≤ key_of b
        → (k : ℕ) → touches w b k ≡ true → touches (after w b) a k ≡ true → ⊥
    are_apart w b a fine rb ra other low k tb ta = by_kind (cases_Bool (shared a)) (cases_Bool (shared b)) (local.fine w b fine rb) (ap time_of (touched_after w b k tb) ∙ local.timed w b fine rb k tb)
      where
        by_kind : (shared a ≡ true) ⊎ (shared a ≡ false) → (shared b ≡ true) ⊎ (shared b ≡ false) → IsFine (after w b) → time_of (after w b k) ≡ time b → ⊥
        by_kind (inl is) s then_fine now =
            let high : time_of (after w b k) < time a = local.later (after w b) a then_fine ra is k ta in
            let here : key_of a ≡ 2 * time a = key_shared a is in
            let most : key_of b ≤ 2 * time b + 1 = elim s [ inl i ↦ (let e = key_shared b i in omega arith) | inr i ↦ (let e = key_private b i in omega arith) ] in
            omega arith
        by_kind (inr is) (inl s) then_fine now =
            let at : k ≡ core a = local.alone (after w b) a then_fine ra is k ta in
            let same : time a ≡ time_of (after w b k) = local.alone_time (after w b) a then_fine ra is ∙ ap (λ (n : ℕ). time_of (after w b n)) (sym at) in
            let here : key_of a ≡ 2 * time a + 1 = key_private a is in
            let there : key_of b ≡ 2 * time b = key_shared b s in
            omega arith
        by_kind (inr is) (inr s) then_fine now =
            other (sym (local.alone w b fine rb s k tb) ∙ local.alone (after w b) a then_fine ra is k ta)

    -- ---- two accesses that touch nothing in common are right in the other order too
    pub record AreSwapped (w : World) (b a : Access) : Type 0 where
      pub first : IsRight w a
      pub next : IsRight (after w a) b
      pub left : after (after w a) b ≡ after (after w b) a

    module _ (w : World) (b a : Access) (fine : IsFine w) (rb : IsRight w b) (ra : IsRight (after w b) a)
        (apart : (k : ℕ) → touches w b k ≡ true → touches (after w b) a k ≡ true → ⊥) where
      v : World
      v = after w b

      v_fine : IsFine v
      unfolding v
      v_fine = local.fine w b fine rb

      -- b leaves what a touches as it was
      same_for_a : Agrees v w a
      unfolding v
      same_for_a k ta = elim (cases_Bool (touches w b k)) [ inl tb ↦ absurd (apart k tb ta) | inr nb ↦ sym (other_after w b k nb) ]

      a_touches : (k : ℕ) → touches w a k ≡ touches v a k
      unfolding v
      a_touches = local.touches_same v w a v_fine fine ra same_for_a

      a_moves : (k : ℕ) → touches v a k ≡ true → moved w a k ≡ moved v a k
      unfolding v
      a_moves = local.moved_same v w a v_fine fine ra same_for_a

      a_first : IsRight w a
      unfolding v
      a_first = local.right_same v w a v_fine fine ra same_for_a

      u : World
      u = after w a

      u_fine : IsFine u
      unfolding u
      u_fine = local.fine w a fine a_first

      -- and a what b touches
      same_for_b : Agrees w u b
      unfolding u v
      same_for_b k tb = elim (cases_Bool (touches v a k)) [ inl ta ↦ absurd (apart k tb ta) | inr na ↦ other_after w a k (a_touches k ∙ na) ]

      b_touches : (k : ℕ) → touches u b k ≡ touches w b k
      b_touches = local.touches_same w u b fine u_fine rb same_for_b

      b_moves : (k : ℕ) → touches w b k ≡ true → moved u b k ≡ moved w b k
      b_moves = local.moved_same w u b fine u_fine rb same_for_b

      b_next : IsRight u b
      b_next = local.right_same w u b fine u_fine rb same_for_b

      left_at : (k : ℕ) → (touches w b k ≡ true) ⊎ (touches w b k ≡ false) → (touches v a k ≡ true) ⊎ (touches v a k ≡ false) → after u b k ≡ after v a k
      unfolding u v
      left_at k (inl tb) (inl ta) = absurd (apart k tb ta)
      left_at k (inl tb) (inr na) = touched_after u b k (b_touches k ∙ tb) ∙ b_moves k tb ∙ sym (touched_after w b k tb) ∙ sym (other_after v a k na)
      left_at k (inr nb) (inl ta) = other_after u b k (b_touches k ∙ nb) ∙ touched_after w a k (a_touches k ∙ ta) ∙ a_moves k ta ∙ sym (touched_after v a k ta)
      left_at k (inr nb) (inr na) = other_after u b k (b_touches k ∙ nb) ∙ other_after w a k (a_touches k ∙ na) ∙ sym (other_after w b k nb) ∙ sym (other_after v a k na)

      swapped : AreSwapped w b a
      unfolding u v
      swapped = record {
        first = a_first;
        next = b_next;
        left = fun_ext (λ k. left_at k (cases_Bool (touches w b k)) (cases_Bool (touches v a k)));
      }

    -- ---- the first access of its core is moved to the front
    pub record IsMoved (w : World) (before : List Access) (a : Access) (behind : List Access) : Type 0 where
      pub right : AreRight w (a ∷ (before ++ behind))
      pub left : lived w (a ∷ (before ++ behind)) ≡ lived w (before ++ a ∷ behind)

    to_front : (w : World) → IsFine w → (before : List Access) (a : Access) (behind : List Access) → AreRight w (before ++ a ∷ behind)
        → Each (λ b. core b ≡ core a → ⊥) before → Each (λ b. key_of a ≤ key_of b) before → IsMoved w before a behind
    to_front w fine [] a behind right others low = record { right = right; left = refl }
    to_front w fine (b ∷ before) a behind right others low =
        let h : IsMoved (after w b) before a behind = to_front (after w b) (local.fine w b fine right.0) before a behind right.1 others.1 low.1 in
        let s : AreSwapped w b a = swapped w b a fine right.0 h.right.0 (are_apart w b a fine right.0 h.right.0 others.0 low.0) in
        record {
          right = (s.first, (s.next, subst (λ (x : World). AreRight x (before ++ behind)) (sym s.left) h.right.1));
          left = ap (λ (x : World). lived x (before ++ behind)) s.left ∙ h.left;
        }

    -- ---- the theorem
    pub record AreReordered (w : World) (history sorted : List Access) : Type 0 where
      pub right : AreRight w sorted
      pub left : lived w sorted ≡ lived w history

    abbrev pub SameOfEachCore : List Access → List Access → Type 0
    SameOfEachCore history sorted = (c : ℕ) → of_core core c history ≡ of_core core c sorted

    -- what is left of both behind the first
    same_rest : (before : List Access) (a : Access) (behind sorted : List Access) → of_core core (core a) before ≡ [] → of_core core (core a) behind ≡ of_core core (core a) sorted
        → SameOfEachCore (before ++ a ∷ behind) (a ∷ sorted) → SameOfEachCore (before ++ behind) sorted
    same_rest before a behind sorted none rest same c = elim (cases_eq (core a) c) [
      | inl is ↦ subst (λ (n : ℕ). of_core core n (before ++ behind) ≡ of_core core n sorted) is
          (filter_append (λ b. core b == core a) before behind ∙ ap (λ (xs : List Access). xs ++ of_core core (core a) behind) none ∙ rest)
      | inr other ↦ filter_append (λ b. core b == c) before behind
          ∙ ap (λ (xs : List Access). of_core core c before ++ xs) (sym (of_other core c a behind other))
          ∙ sym (filter_append (λ b. core b == c) before (a ∷ behind)) ∙ same c ∙ of_other core c a sorted other
    ]

    -- no access has a key less than the first of those in order
    all_low : (a : Access) (history sorted : List Access) → AreInOrder (a ∷ sorted) → SameOfEachCore history (a ∷ sorted) → Each (λ b. key_of a ≤ key_of b) history
    all_low a history sorted order same = each_of_cores core (λ b. key_of a ≤ key_of b) history (λ c.
        subst (Each (λ b. key_of a ≤ key_of b)) (sym (same c))
        (each_filtered (λ b. core b == c) (λ b. key_of a ≤ key_of b) (a ∷ sorted) (omega arith, first_least (key_of a) a sorted (omega arith) order.0 order.1)))

    reordered_from : (w : World) → IsFine w → (a : Access) (sorted history : List Access) → AreRight w history → AreInOrder (a ∷ sorted) → SameOfEachCore history (a ∷ sorted)
        → ((v : World) → IsFine v → (rest : List Access) → AreRight v rest → SameOfEachCore rest sorted → AreReordered v rest sorted)
        → AreReordered w history (a ∷ sorted)
    reordered_from w fine a sorted history right order same next =
        let s : IsSplit (λ b. core b == core a) history a (of_core core (core a) sorted) = split_first (λ b. core b == core a) history a (of_core core (core a) sorted) (same (core a) ∙ of_own core a sorted) in
        let low : Each (λ b. key_of a ≤ key_of b) (s.before ++ a ∷ s.behind) = subst (Each (λ b. key_of a ≤ key_of b)) s.list_is (all_low a history sorted order same) in
        let m : IsMoved w s.before a s.behind = to_front w fine s.before a s.behind (subst (AreRight w) s.list_is right) (none_of core (core a) s.before s.none)
        (each_append_left (λ b. key_of a ≤ key_of b) s.before (a ∷ s.behind) low) in
        let r : AreReordered (after w a) (s.before ++ s.behind) sorted = next (after w a) (local.fine w a fine m.right.0) (s.before ++ s.behind) m.right.1
        (same_rest s.before a s.behind sorted s.none s.rest_is (subst (λ (xs : List Access). SameOfEachCore xs (a ∷ sorted)) s.list_is same)) in
        record {
          right = (m.right.0, r.right);
          left = r.left ∙ m.left ∙ ap (lived w) (sym s.list_is);
        }

    pub reordered : (sorted : List Access) (w : World) → IsFine w → (history : List Access) → AreRight w history → AreInOrder sorted → SameOfEachCore history sorted → AreReordered w history sorted
    reordered [] w fine history right order same = record { right = tt; left = ap (lived w) (sym (none_at_all core history same)) }
    reordered (a ∷ sorted) w fine history right order same =
        reordered_from w fine a sorted history right order same (λ v f rest r s. reordered sorted v f rest r order.1 s)
