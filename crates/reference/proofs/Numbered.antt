-- A list of things, each with its own entries of a list.
use Rattle.std.proofs.Common.{◌≡◌, ℕ, zero, suc, ◌+◌, ◌<◌, List, [], ◌∷◌, map, Some, refl, sym, ◌∙◌, ap, subst, arith, inl, inr}
use Rattle.std.specs.Prelude.{slice_get, slice_set}
use Rattle.std.specs.List.{enumerate_from, fold}
use Rattle.std.proofs.lemmas.Bool.{cases_eq, eq-eqb, ne_eqb}
use Rattle.std.proofs.lemmas.Option.{same_Some}
use Rattle.zs_num.specs.declared.entry.Entry.{Entry}
use Rattle.access_log.specs.History.{each_after, of_number}
use Rattle.reference.proofs.Lists.{get_set}

pub get_set_other : {A : Type 0} (xs : List A) (i j : ℕ) (y : A) → (i ≡ j → ⊥) → slice_get (slice_set xs i y) j ≡ slice_get xs j
get_set_other [] i j y apart = refl
get_set_other (x ∷ xs) zero zero y apart = absurd (apart refl)
get_set_other (x ∷ xs) zero (suc j) y apart = refl
get_set_other (x ∷ xs) (suc i) zero y apart = refl
get_set_other (x ∷ xs) (suc i) (suc j) y apart = get_set_other xs i j y (λ s. apart (ap suc s))

-- ---- the entries with a number

module _ (number_of : Entry → ℕ) (number : ℕ) (e : Entry) (entries : List Entry) where
  pub own_first : number_of e ≡ number → of_number number_of number (e ∷ entries) ≡ e ∷ of_number number_of number entries
  own_first own = rw (eq-eqb (number_of e) number own) refl

  pub other_first : (number_of e ≡ number → ⊥) → of_number number_of number (e ∷ entries) ≡ of_number number_of number entries
  other_first other = rw (ne_eqb (number_of e) number other) refl

-- ---- what holds of each thing and its own entries

-- `P` holds of each thing and its entries
abbrev pub EachHolds : {X : Type 0} → (X → List Entry → Type 0) → (Entry → ℕ) → List X → List Entry → Type 0
EachHolds {X} P number_of xs entries = (number : ℕ) (x : X) → slice_get xs number ≡ Some x → P x (of_number number_of number entries)

module _ {X : Type 0} (P : X → List Entry → Type 0) (step : X → Entry → X) (number_of : Entry → ℕ) (xs : List X) (e : Entry) (entries : List Entry) (x : X) (here : slice_get xs (number_of e) ≡ Some x) where
  -- of the thing that the first entry belongs to
  pub first_holds : EachHolds P number_of xs (e ∷ entries) → P x (e ∷ of_number number_of (number_of e) entries)
  first_holds each = subst (P x) (own_first number_of (number_of e) e entries refl) (each (number_of e) x here)

  -- what is left of each after the first entry
  pub rest_holds : ((more : List Entry) → P x (e ∷ more) → P (step x e) more) → EachHolds P number_of xs (e ∷ entries)
      → EachHolds P number_of (slice_set xs (number_of e) (step x e)) entries
  rest_holds next each = λ number y there.
      elim (cases_eq (number_of e) number) as (λ _. P y (of_number number_of number entries)) [
        | inl own ↦
            let set : slice_get (slice_set xs (number_of e) (step x e)) number ≡ Some (step x e) = ap (slice_get (slice_set xs (number_of e) (step x e))) (sym own) ∙ get_set xs (number_of e) x (step x e) here in
            let same : step x e ≡ y = same_Some (step x e) y (sym set ∙ there) in
            let first : P x (e ∷ of_number number_of number entries) = subst (λ (n : ℕ). P x (e ∷ of_number number_of n entries)) own (first_holds each) in
            subst (λ (z : X). P z (of_number number_of number entries)) same (next (of_number number_of number entries) first)
        | inr other ↦
            let before : slice_get xs number ≡ Some y = sym (get_set_other xs (number_of e) number (step x e) other) ∙ there in
            subst (P y) (other_first number_of number e entries other) (each number y before)
      ]

  -- and back
  pub all_hold : ((more : List Entry) → P (step x e) more → P x (e ∷ more)) → EachHolds P number_of (slice_set xs (number_of e) (step x e)) entries
      → EachHolds P number_of xs (e ∷ entries)
  all_hold before each = λ number y there.
      elim (cases_eq (number_of e) number) as (λ _. P y (of_number number_of number (e ∷ entries))) [
        | inl own ↦
            let found : slice_get xs number ≡ Some x = ap (slice_get xs) (sym own) ∙ here in
            let same : x ≡ y = same_Some x y (sym found ∙ there) in
            let set : slice_get (slice_set xs (number_of e) (step x e)) number ≡ Some (step x e) = ap (slice_get (slice_set xs (number_of e) (step x e))) (sym own) ∙ get_set xs (number_of e) x (step x e) here in
            let whole : P x (e ∷ of_number number_of number entries) = before (of_number number_of number entries) (each number (step x e) set) in
            subst (P y) (sym (own_first number_of number e entries own)) (subst (λ (z : X). P z (e ∷ of_number number_of number entries)) same whole)
        | inr other ↦
            let after : slice_get (slice_set xs (number_of e) (step x e)) number ≡ Some y = get_set_other xs (number_of e) number (step x e) other ∙ there in
            subst (P y) (sym (other_first number_of number e entries other)) (each number y after)
      ]

-- ---- where each thing comes to

module _ {X : Type 0} (step : X → Entry → X) (number_of : Entry → ℕ) where
  abbrev at_from : ℕ → List Entry → List X → List X
  at_from a entries xs = map (λ (at : ℕ × X). fold step at.1 (of_number number_of at.0 entries)) (enumerate_from a xs)

  nothing_left : (a : ℕ) (xs : List X) → at_from a [] xs ≡ xs
  nothing_left a [] = refl
  nothing_left a (x ∷ xs) = ap (λ (ys : List X). x ∷ ys) (nothing_left (a + 1) xs)

  none_own : (a : ℕ) (e : Entry) (entries : List Entry) (xs : List X) → number_of e < a → at_from a (e ∷ entries) xs ≡ at_from a entries xs
  none_own a e entries [] below = refl
  none_own a e entries (x ∷ xs) below =
      let other = other_first number_of a e entries (λ s. omega (arith, s, below)) in
      rw (other, none_own (a + 1) e entries xs (omega (arith, below))) refl

  one_own : (a i : ℕ) (e : Entry) (entries : List Entry) (xs : List X) (x : X) → number_of e ≡ a + i → slice_get xs i ≡ Some x
      → at_from a (e ∷ entries) xs ≡ at_from a entries (slice_set xs i (step x e))
  one_own a i e entries [] x is here = refl
  one_own a zero e entries (y ∷ ys) x is here =
      let own : number_of e ≡ a = omega (arith, is) in
      let same : y ≡ x = same_Some y x here in
      rw (own_first number_of a e entries own, same, none_own (a + 1) e entries ys (omega (arith, own))) refl
  one_own a (suc i) e entries (y ∷ ys) x is here =
      let other = other_first number_of a e entries (λ s. omega (arith, s, is)) in
      rw (other, one_own (a + 1) i e entries ys x (omega (arith, is)) here) refl

  pub after_none : (xs : List X) → each_after step number_of [] xs ≡ xs
  after_none xs = nothing_left 0 xs

  pub after_first : (e : Entry) (entries : List Entry) (xs : List X) (x : X) → slice_get xs (number_of e) ≡ Some x
      → each_after step number_of (e ∷ entries) xs ≡ each_after step number_of entries (slice_set xs (number_of e) (step x e))
  after_first e entries xs x here = one_own 0 (number_of e) e entries xs x (omega arith) here

  same_from : (a : ℕ) (entries others : List Entry) → ((number : ℕ) → of_number number_of number others ≡ of_number number_of number entries) → (xs : List X) → at_from a others xs ≡ at_from a entries xs
  same_from a entries others same [] = refl
  same_from a entries others same (x ∷ xs) = rw (same a, same_from (a + 1) entries others same xs) refl

  -- where the entries of each are the same
  pub after_same_entries : (entries others : List Entry) → ((number : ℕ) → of_number number_of number others ≡ of_number number_of number entries)
      → (xs : List X) → each_after step number_of others xs ≡ each_after step number_of entries xs
  after_same_entries entries others same xs = same_from 0 entries others same xs
