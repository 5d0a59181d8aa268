-- What each element of a list keeps, when one is set or added.
use Rattle.std.proofs.Common.{◌≡◌, ◌≢◌, ℕ, zero, suc, ◌<◌, List, [], ◌∷◌, ◌++◌, length, set, Some, inl, inr, refl, ap, sym, ◌∙◌, arith, subst}
use Rattle.std.specs.Prelude.{slice_get}
use Rattle.std.proofs.lemmas.Bool.{cases_eq}

module _ {X : Type 0} where
  pub get-set_same : (xs : List X) (k : ℕ) (v : X) → k < length xs → slice_get (set xs k v) k ≡ Some v
  get-set_same [] k v l = absurd (omega arith)
  get-set_same (x ∷ xs) zero v l = refl
  get-set_same (x ∷ xs) (suc k) v l = get-set_same xs k v (omega arith)

  pub get-set_other : (xs : List X) (k j : ℕ) (v : X) → j ≢ k → slice_get (set xs k v) j ≡ slice_get xs j
  get-set_other [] k j v h = refl
  get-set_other (x ∷ xs) zero zero v h = absurd (h refl)
  get-set_other (x ∷ xs) zero (suc j) v h = refl
  get-set_other (x ∷ xs) (suc k) zero v h = refl
  get-set_other (x ∷ xs) (suc k) (suc j) v h = get-set_other xs k j v (λ e. h (ap (λ (i : ℕ). suc i) e))

  -- what holds of the element that was set, and of the others, holds of each
  pub each_after_set : (Q : ℕ → X → Type 0) (xs : List X) (k : ℕ) (v : X) → k < length xs → Q k v → ((j : ℕ) (x : X) → j ≢ k → slice_get xs j ≡ Some x → Q j x)
      → (j : ℕ) (x : X) → slice_get (set xs k v) j ≡ Some x → Q j x
  each_after_set Q xs k v l own others j x e =
      elim (cases_eq j k) as (λ _. Q j x) [
        | inl same ↦
            let at : Some v ≡ Some x = sym (get-set_same xs k v l) ∙ subst (λ (i : ℕ). slice_get (set xs k v) i ≡ Some x) same e in
            let is : v ≡ x = cc in
            subst (λ (i : ℕ). Q i x) (sym same) (subst (Q k) is own)
        | inr apart ↦ others j x apart (sym (get-set_other xs k j v apart) ∙ e)
      ]

  -- the same of one that is added at the end
  pub each_after_push : (Q : ℕ → X → Type 0) (xs : List X) (v : X) → Q (length xs) v → ((j : ℕ) (x : X) → slice_get xs j ≡ Some x → Q j x)
      → (j : ℕ) (x : X) → slice_get (xs ++ v ∷ []) j ≡ Some x → Q j x
  each_after_push Q [] v own others zero x e = let is : v ≡ x = cc in subst (Q 0) is own
  each_after_push Q [] v own others (suc j) x e = cc
  each_after_push Q (y ∷ ys) v own others zero x e = others zero x e
  each_after_push Q (y ∷ ys) v own others (suc j) x e = each_after_push (λ i. Q (suc i)) ys v own (λ i z at. others (suc i) z at) j x e
