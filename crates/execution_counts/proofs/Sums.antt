-- Sums of which one part changes.
use Rattle.std.proofs.Common.{◌≡◌, ◌≢◌, ℕ, zero, suc, ◌+◌, ◌<◌, ◌≤◌, inl, inr, refl, sym, ap, arith}
use Rattle.std.proofs.lemmas.Bool.{cases_eq}
use Rattle.execution_counts.specs.Counted.{sum_below}

pub sum_none : (f : ℕ → ℕ) → ((k : ℕ) → f k ≡ 0) → (m : ℕ) → sum_below f m ≡ 0
sum_none f none zero = refl
sum_none f none (suc m) = omega (arith, none m, sum_none f none m)

pub sum_same : (f g : ℕ → ℕ) (m : ℕ) → ((k : ℕ) → k < m → f k ≡ g k) → sum_below f m ≡ sum_below g m
sum_same f g zero same = refl
sum_same f g (suc m) same =
    let last : f m ≡ g m = same m (omega arith) in
    let rest : sum_below f m ≡ sum_below g m = sum_same f g m (λ k lt. same k (omega (arith, lt))) in
    omega (arith, last, rest)

pub sum_changed : (f g : ℕ → ℕ) (j m : ℕ) → j < m → ((k : ℕ) → k ≢ j → f k ≡ g k) → sum_below g m + f j ≡ sum_below f m + g j
sum_changed f g j zero within same = absurd (omega (arith, within))
sum_changed f g j (suc m) within same =
    elim (cases_eq m j) [
      | inl is ↦
          let rest : sum_below f m ≡ sum_below g m = sum_same f g m (λ k lt. same k (λ e. omega (arith, e, is, lt))) in
          omega (arith, rest, ap f is, ap g is)
      | inr not ↦
          let last : f m ≡ g m = same m not in
          let rest = sum_changed f g j m (omega (arith, within, λ (e : j ≡ m). not (sym e))) same in
          omega (arith, last, rest)
    ]

pub sum_has : (f : ℕ → ℕ) (j m : ℕ) → j < m → f j ≤ sum_below f m
sum_has f j zero within = absurd (omega (arith, within))
sum_has f j (suc m) within =
    elim (cases_eq m j) [
      | inl is ↦ omega (arith, ap f is)
      | inr not ↦
          let rest = sum_has f j m (omega (arith, within, λ (e : j ≡ m). not (sym e))) in
          omega (arith, rest)
    ]

pub sum_some : (f : ℕ → ℕ) (j m : ℕ) → j < m → 0 < f j → 0 < sum_below f m
sum_some f j zero within some = absurd (omega (arith, within))
sum_some f j (suc m) within some =
    elim (cases_eq m j) [
      | inl is ↦ omega (arith, some, ap f is)
      | inr not ↦
          let rest = sum_some f j m (omega (arith, within, λ (e : j ≡ m). not (sym e))) some in
          omega (arith, rest)
    ]
