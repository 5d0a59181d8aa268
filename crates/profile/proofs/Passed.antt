-- Numbers that a walk from each candidate to the next has passed.
use Rattle.std.proofs.Common.{◌≡◌, ℕ, ◌+◌, ◌<◌, ◌≤◌, Bool, false, ◌⊎◌, inl, inr, ◌∙◌, ap, arith}
use Rattle.std.proofs.lemmas.Bool.{cases_lt, cases_order}

-- a test that holds of none from the first number up to here, of none from here up to the next candidate, and not of this
-- one, holds of none up to behind it
module _ (test : ℕ → Bool) (first at : ℕ) (passed : (n : ℕ) → first ≤ n → n < at → test n ≡ false) where
  pub up_to : (next : ℕ) → ((n : ℕ) → at ≤ n → n < next → test n ≡ false) → (n : ℕ) → first ≤ n → n < next → test n ≡ false
  up_to next between n le lt = by (cases_lt n at)
    where
      by : (n < at) ⊎ (at ≤ n) → test n ≡ false
      by (inl before) = passed n le before
      by (inr behind) = between n behind lt

  pub behind : (next : ℕ) → ((n : ℕ) → at ≤ n → n < next → test n ≡ false) → test next ≡ false → (n : ℕ) → first ≤ n → n < next + 1 → test n ≡ false
  behind next between here n le lt = by (cases_order n next)
    where
      by : (n ≡ next) ⊎ ((n < next) ⊎ (next < n)) → test n ≡ false
      by (inl is) = ap test is ∙ here
      by (inr (inl before)) = up_to next between n le before
      by (inr (inr past)) = absurd (omega (arith, lt, past))

  -- where none follows the last number that fits
  pub past : (last : ℕ) → ((n : ℕ) → at ≤ n → n < last → test n ≡ false) → test last ≡ false → ((n : ℕ) → last < n → test n ≡ false) → (n : ℕ) → first ≤ n → test n ≡ false
  past last between here beyond n le = by (cases_lt last n)
    where
      by : (last < n) ⊎ (n ≤ last) → test n ≡ false
      by (inl over) = beyond n over
      by (inr within) = behind last between here n le (omega (arith, within))

  pub to_end : ((n : ℕ) → at ≤ n → test n ≡ false) → (n : ℕ) → first ≤ n → test n ≡ false
  to_end between n le = by (cases_lt n at)
    where
      by : (n < at) ⊎ (at ≤ n) → test n ≡ false
      by (inl before) = passed n le before
      by (inr behind_it) = between n behind_it
