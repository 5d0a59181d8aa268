-- Lists of lists of which all change, or one.
use Rattle.std.proofs.Common.{◌≡◌, ◌≢◌, ℕ, zero, suc, ◌+◌, ◌<◌, List, [], ◌∷◌, length, get_or, map, set, replicate, Some, refl, sym, ap, ◌∙◌, subst, arith, inl, inr}
use Rattle.std.specs.List.{enumerate_from}
use Rattle.std.specs.Prelude.{slice_get}
use Rattle.std.proofs.lemmas.Bool.{cases_eq, cases_lt}
use Rattle.std.proofs.lemmas.List.{get_or-map, get_or-replicate, get_or-set_same, get_or-set_other, get_or_past, length-map, length-replicate, length-set}
use Rattle.std.proofs.lemmas.List.FromFn.{get_or-enumerate_from, length-enumerate_from}

-- ---- lists of lists, as the sets of all cores: each list changes
-- what a core has after each core's was changed
pub mapped_at : {X : Type 0} (f : List X → List X) (xs : List (List X)) (core : ℕ) → f [] ≡ [] → get_or (map f xs) core [] ≡ f (get_or xs core [])
mapped_at f xs core none =
    elim (cases_lt core (length xs)) as (λ _. get_or (map f xs) core [] ≡ f (get_or xs core [])) [
      | inl l ↦ get_or-map f xs core [] [] l
      | inr l ↦ rw (get_or_past (map f xs) core [] (omega (arith, length-map xs f)), get_or_past xs core [] l) (sym none)
    ]

-- and after each was by its number
pub numbered_at : {X : Type 0} (g : ℕ × List X → List X) (xs : List (List X)) (core : ℕ) → g (core, []) ≡ [] → get_or (map g (enumerate_from 0 xs)) core [] ≡ g (core, get_or xs core [])
numbered_at g xs core none =
    let longer : length (enumerate_from 0 xs) ≡ length xs = length-enumerate_from 0 xs in
    elim (cases_lt core (length xs)) as (λ _. get_or (map g (enumerate_from 0 xs)) core [] ≡ g (core, get_or xs core [])) [
      | inl l ↦
          let zero_core : 0 + core ≡ core = omega arith in
          get_or-map g (enumerate_from 0 xs) core (0, []) [] (omega (arith, longer)) ∙ rw (get_or-enumerate_from 0 xs core (0, []) l, zero_core) refl
      | inr l ↦ rw (get_or_past (map g (enumerate_from 0 xs)) core [] (omega (arith, longer, length-map (enumerate_from 0 xs) g)), get_or_past xs core [] l) (sym none)
    ]

-- ---- one list is set
pub set_read : {X : Type 0} (P : List X → Type 0) (xs : List (List X)) (k : ℕ) (v : List X) (n : ℕ) → (n ≡ k → P v) → P (get_or xs n []) → P (get_or (set xs k v) n [])
set_read P xs k v n own old =
    elim (cases_eq n k) as (λ _. P (get_or (set xs k v) n [])) [
      | inl e ↦ elim (cases_lt k (length xs)) as (λ _. P (get_or (set xs k v) n [])) [
        | inl l ↦ rw (e, get_or-set_same xs k v [] l) (own e)
        | inr l ↦ subst P (get_or_past xs n [] (omega arith) ∙ sym (get_or_past (set xs k v) n [] (omega (arith, length-set xs k v)))) old
      ]
      | inr e ↦ rw (get_or-set_other xs k n v [] e) old
    ]

-- two lists in which the same place is set
pub both_set : {X Y : Type 0} (P : List X → List Y → Type 0) (xs : List (List X)) (ys : List (List Y)) → length ys ≡ length xs → (k : ℕ) (v : List X) (w : List Y) (i : ℕ) → P v w → P (get_or xs i []) (get_or ys i [])
    → P (get_or (set xs k v) i []) (get_or (set ys k w) i [])
both_set P xs ys long k v w i new old =
    elim (cases_eq i k) as (λ _. P (get_or (set xs k v) i []) (get_or (set ys k w) i [])) [
      | inl e ↦ elim (cases_lt k (length xs)) as (λ _. P (get_or (set xs k v) i []) (get_or (set ys k w) i [])) [
        | inl l ↦ rw (e, get_or-set_same xs k v [] l, get_or-set_same ys k w [] (omega arith)) new
        | inr l ↦
            let first : P [] (get_or ys i []) = subst (λ s. P s (get_or ys i [])) (get_or_past xs i [] (omega arith)) old in
            let second : P [] [] = subst (λ s. P [] s) (get_or_past ys i [] (omega arith)) first in
            rw (get_or_past (set xs k v) i [] (omega (arith, length-set xs k v)), get_or_past (set ys k w) i [] (omega (arith, length-set ys k w))) second
      ]
      | inr e ↦ rw (get_or-set_other xs k i v [] e, get_or-set_other ys k i w [] e) old
    ]

-- ---- lists without an element
pub empty_at : {X : Type 0} (n k : ℕ) → get_or (replicate {A = List X} n []) k [] ≡ []
empty_at {X = X} n k =
    elim (cases_lt k n) as (λ _. get_or (replicate {A = List X} n []) k [] ≡ []) [
      | inl l ↦ get_or-replicate n k [] [] l
      | inr l ↦ get_or_past (replicate n []) k [] (omega (arith, length-replicate {A = List X} n []))
    ]

-- ---- one place of a list is set
module _ {X : Type 0} where
  get-set_same : (xs : List X) (k : ℕ) (v : X) → k < length xs → slice_get (set xs k v) k ≡ Some v
  get-set_same [] k v l = absurd (omega arith)
  get-set_same (x ∷ xs) zero v l = refl
  get-set_same (x ∷ xs) (suc k) v l = get-set_same xs k v (omega arith)

  get-set_other : (xs : List X) (k j : ℕ) (v : X) → j ≢ k → slice_get (set xs k v) j ≡ slice_get xs j
  get-set_other [] k j v h = refl
  get-set_other (x ∷ xs) zero zero v h = absurd (h refl)
  get-set_other (x ∷ xs) zero (suc j) v h = refl
  get-set_other (x ∷ xs) (suc k) zero v h = refl
  get-set_other (x ∷ xs) (suc k) (suc j) v h = get-set_other xs k j v (λ e. h (ap (λ (i : ℕ). suc i) e))

  -- what holds of the element that was set, and of the others, holds of each
  pub each_after_set : (Q : ℕ → X → Type 0) (xs : List X) (k : ℕ) (v : X) → k < length xs → Q k v → ((j : ℕ) (x : X) → j ≢ k → slice_get xs j ≡ Some x → Q j x)
      → (j : ℕ) (x : X) → slice_get (set xs k v) j ≡ Some x → Q j x
  each_after_set Q xs k v l own others j x e =
      elim (cases_eq j k) as (λ _. Q j x) [
        | inl same ↦
            let at : Some v ≡ Some x = sym (get-set_same xs k v l) ∙ subst (λ (i : ℕ). slice_get (set xs k v) i ≡ Some x) same e in
            let is : v ≡ x = cc in
            subst (λ (i : ℕ). Q i x) (sym same) (subst (Q k) is own)
        | inr apart ↦ others j x apart (sym (get-set_other xs k j v apart) ∙ e)
      ]
