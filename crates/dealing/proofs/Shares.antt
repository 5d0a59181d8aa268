-- The shares of workers.
use Rattle.std.proofs.Common.{◌≡◌, ◌≢◌, ◌+◌, ◌%◌, ◌≤◌, ℕ, zero, suc, List, [], ◌∷◌, length, slice_get, Some, sym, ◌∙◌, ap, refl, inl, inr, arith}
use Rattle.std.proofs.lemmas.Bool.{cases_eq, eq-eqb, ne_eqb}
use Rattle.std.proofs.lemmas.Option.{none-some}
use Rattle.dealing.specs.Dealing.{share_of}

module _ {T : Type 0} where
  pub own_share : (workers worker number : ℕ) (x : T) (xs : List T) → number % workers ≡ worker → share_of workers worker number (x ∷ xs) ≡ x ∷ share_of workers worker (number + 1) xs
  own_share workers worker number x xs own = rw (eq-eqb (number % workers) worker own) refl

  pub other_share : (workers worker number : ℕ) (x : T) (xs : List T) → number % workers ≢ worker → share_of workers worker number (x ∷ xs) ≡ share_of workers worker (number + 1) xs
  other_share workers worker number x xs other = rw (ne_eqb (number % workers) worker other) refl

  pub few_in_share : (workers worker number : ℕ) (xs : List T) → length (share_of workers worker number xs) ≤ length xs
  few_in_share workers worker number [] = omega arith
  few_in_share workers worker number (x ∷ xs) =
      let later = few_in_share workers worker (number + 1) xs in
      elim (cases_eq (number % workers) worker) as (λ _. length (share_of workers worker number (x ∷ xs)) ≤ length (x ∷ xs)) [
        | inl own ↦ let is = ap length (own_share workers worker number x xs own) in omega (arith, later, is)
        | inr other ↦ let is = ap length (other_share workers worker number x xs other) in omega (arith, later, is)
      ]

  -- what stands in a share stands among all
  pub in_share : (workers worker number : ℕ) (xs : List T) (place : ℕ) (y : T) → slice_get (share_of workers worker number xs) place ≡ Some y → (i : ℕ) × (slice_get xs i ≡ Some y)
  in_share workers worker number [] place y at = absurd (none-some y at)
  in_share workers worker number (x ∷ xs) place y at =
      elim (cases_eq (number % workers) worker) as (λ _. (i : ℕ) × (slice_get (x ∷ xs) i ≡ Some y)) [
        | inl own ↦
            first (share_of workers worker (number + 1) xs) (λ k at. in_share workers worker (number + 1) xs k y at) place
            (ap (λ (ys : List T). slice_get ys place) (sym (own_share workers worker number x xs own)) ∙ at)
        | inr other ↦
            let later = in_share workers worker (number + 1) xs place y (ap (λ (ys : List T). slice_get ys place) (sym (other_share workers worker number x xs other)) ∙ at) in
            (suc later.0, later.1)
      ]
    where
      first : (rest : List T) → ((k : ℕ) → slice_get rest k ≡ Some y → (i : ℕ) × (slice_get xs i ≡ Some y)) → (k : ℕ) → slice_get (x ∷ rest) k ≡ Some y → (i : ℕ) × (slice_get (x ∷ xs) i ≡ Some y)
      first rest among zero here = (0, here)
      first rest among (suc k) here = let later = among k here in (suc later.0, later.1)
