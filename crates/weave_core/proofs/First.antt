-- The first of the fired events that passes a test.
use Rattle.std.proofs.Common.{◌≡◌, ◌<◌, ◌≤◌, ℕ, zero, suc, Bool, true, false, List, ◌⊎◌, Option, Some, None, slice_get, sym, ◌∙◌, ap, subst, refl, inl, inr, arith}
use Rattle.std.proofs.lemmas.Bool.{false≢true, cases_lt}
use Rattle.std.proofs.lemmas.Option.{same_Some, none-some}
use Rattle.event_graph.specs.OneListWeave.{FiredEvent}
use Rattle.weave_core.proofs.Lists.{test_cases}

module _ (test : ℕ → FiredEvent → Bool) (all : List FiredEvent) where
  abbrev pub NoneBelow : ℕ → Type 0
  NoneBelow n = (j : ℕ) (y : FiredEvent) → j < n → slice_get all j ≡ Some y → test j y ≡ false

  pub record IsFirst (k : ℕ) (x : FiredEvent) : Type 0 where
    pub there : slice_get all k ≡ Some x
    pub passes : test k x ≡ true
    pub before : NoneBelow k

  abbrev Found : ℕ → Type 0
  Found n = (k : ℕ) × ((x : FiredEvent) × ((k < n) × IsFirst k x))

  one_more : (n : ℕ) → NoneBelow n → ((y : FiredEvent) → slice_get all n ≡ Some y → test n y ≡ false) → NoneBelow (suc n)
  one_more n none here j y l h =
      elim (cases_lt j n) [
        | inl below ↦ none j y below h
        | inr m ↦
            let same : j ≡ n = omega arith in
            subst (λ i. test i y ≡ false) (sym same) (here y (ap (slice_get all) (sym same) ∙ h))
      ]

  scan : (n : ℕ) → Found n ⊎ NoneBelow n
  scan zero = inr (λ j y l h. absurd (omega arith))
  scan (suc n) =
      elim (scan n) [
        | inl f ↦ inl (f.0, (f.1.0, (omega (arith, f.1.1.0), f.1.1.1)))
        | inr none ↦ at (slice_get all n) refl none
      ]
    where
      at : (o : Option FiredEvent) → slice_get all n ≡ o → NoneBelow n → Found (suc n) ⊎ NoneBelow (suc n)
      at None e none = inr (one_more n none (λ y h. absurd (none-some y (sym e ∙ h))))
      at (Some x) e none =
          elim (test_cases (test n x)) [
            | inl t ↦ inl (n, (x, (omega arith, record { there = e; passes = t; before = none })))
            | inr f ↦ inr (one_more n none (λ y h. subst (λ (z : FiredEvent). test n z ≡ false) (same_Some x y (sym e ∙ h)) f))
          ]

  pub first_of : (k : ℕ) (x : FiredEvent) → slice_get all k ≡ Some x → test k x ≡ true → (j : ℕ) × ((y : FiredEvent) × ((j ≤ k) × IsFirst j y))
  first_of k x h t =
      elim (scan (suc k)) [
        | inl f ↦ (f.0, (f.1.0, (omega (arith, f.1.1.0), f.1.1.1)))
        | inr none ↦ absurd (false≢true (sym (none k x (omega arith) h) ∙ t))
      ]
