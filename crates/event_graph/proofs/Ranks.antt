-- At which place an element stands among those that pass a test.
use Rattle.std.proofs.Common.{◌≡◌, ◌<◌, ℕ, zero, suc, Bool, true, false, List, [], ◌∷◌, length, take, Some, inl, inr, sym, ap, subst, refl, arith, ◌∙◌}
use Rattle.std.specs.List.{filter, slice_get}
use Rattle.std.proofs.lemmas.Bool.{cases_Bool, cond-true, cond-false}

module _ {X : Type 0} (p : X → Bool) where
  -- how many before a place pass
  abbrev pub rank : List X → ℕ → ℕ
  rank xs n = length (filter p (take n xs))

  passes : (y : X) (ys : List X) → p y ≡ true → filter p (y ∷ ys) ≡ y ∷ filter p ys
  passes y ys t = cond-true (p y) (y ∷ filter p ys) (filter p ys) t

  fails : (y : X) (ys : List X) → p y ≡ false → filter p (y ∷ ys) ≡ filter p ys
  fails y ys f = cond-false (p y) (y ∷ filter p ys) (filter p ys) f

  pub rank_past : (y : X) (xs : List X) (n : ℕ) → p y ≡ true → rank (y ∷ xs) (suc n) ≡ suc (rank xs n)
  rank_past y xs n t = ap length (passes y (take n xs) t)

  pub rank_over : (y : X) (xs : List X) (n : ℕ) → p y ≡ false → rank (y ∷ xs) (suc n) ≡ rank xs n
  rank_over y xs n f = ap length (fails y (take n xs) f)

  -- an element that passes stands at its rank
  pub at_rank : (xs : List X) (n : ℕ) (x : X) → slice_get xs n ≡ Some x → p x ≡ true → slice_get (filter p xs) (rank xs n) ≡ Some x
  at_rank [] n x is t = absurd (cc)
  at_rank (y ∷ xs) zero x is t =
      let e : y ≡ x = cc in
      let k : p y ≡ true = ap p e ∙ t in
      subst (λ zs. slice_get zs 0 ≡ Some x) (sym (passes y xs k)) (ap (λ z. Some z) e)
  at_rank (y ∷ xs) (suc n) x is t =
      elim (cases_Bool (p y)) [
        | inl k ↦ rw (passes y xs k, rank_past y xs n k) (at_rank xs n x is t)
        | inr f ↦ rw (fails y xs f, rank_over y xs n f) (at_rank xs n x is t)
      ]

  abbrev pub Stands : List X → ℕ → X → Type 0
  Stands xs r x = (n : ℕ) × ((slice_get xs n ≡ Some x) × ((p x ≡ true) × (rank xs n ≡ r)))

  -- what stands at a place of those that pass stands somewhere in the list, at that rank
  behind_head : (y : X) (xs : List X) (r : ℕ) (x : X) → p y ≡ true → ((i : ℕ) → slice_get (filter p xs) i ≡ Some x → Stands xs i x) → slice_get (y ∷ filter p xs) r ≡ Some x → Stands (y ∷ xs) r x
  behind_head y xs zero x k rest is = let e : y ≡ x = cc in (zero, (ap (λ z. Some z) e, (subst (λ z. p z ≡ true) e k, refl)))
  behind_head y xs (suc r) x k rest is = let s : Stands xs r x = rest r is in (suc s.0, (s.1.0, (s.1.1.0, rank_past y xs s.0 k ∙ ap suc s.1.1.1)))

  pub from_rank : (xs : List X) (r : ℕ) (x : X) → slice_get (filter p xs) r ≡ Some x → Stands xs r x
  from_rank [] r x is = absurd (cc)
  from_rank (y ∷ xs) r x is =
      elim (cases_Bool (p y)) [
        | inl k ↦ behind_head y xs r x k (λ i at. from_rank xs i x at) (subst (λ zs. slice_get zs r ≡ Some x) (passes y xs k) is)
        | inr f ↦
            let s : Stands xs r x = from_rank xs r x (subst (λ zs. slice_get zs r ≡ Some x) (fails y xs f) is) in
            (suc s.0, (s.1.0, (s.1.1.0, rank_over y xs s.0 f ∙ s.1.1.1)))
      ]

  -- later places have greater ranks
  pub rank_rises : (xs : List X) (n m : ℕ) (x : X) → slice_get xs n ≡ Some x → p x ≡ true → n < m → rank xs n < rank xs m
  rank_rises [] n m x is t less = absurd (cc)
  rank_rises (y ∷ xs) n zero x is t less = absurd (omega (arith, less))
  rank_rises (y ∷ xs) zero (suc m) x is t less =
      let e : y ≡ x = cc in
      let k : p y ≡ true = subst (λ z. p z ≡ true) (sym e) t in
      omega (arith, rank_past y xs m k)
  rank_rises (y ∷ xs) (suc n) (suc m) x is t less =
      let rest : rank xs n < rank xs m = rank_rises xs n m x is t (omega (arith, less)) in
      elim (cases_Bool (p y)) [
        | inl k ↦ omega (arith, rest, rank_past y xs n k, rank_past y xs m k)
        | inr f ↦ omega (arith, rest, rank_over y xs n f, rank_over y xs m f)
      ]
