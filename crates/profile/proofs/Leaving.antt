-- The copies once that of one core more left, and how many other cores have one.
use Rattle.std.proofs.Common.{◌≡◌, ℕ, ◌+◌, ◌<◌, ◌≤◌, ◌==◌, Bool, Option, ◌⊎◌, inl, inr, if◌then◌else◌, ◌∙◌, ap, arith, eq-eqb}
use Rattle.std.proofs.lemmas.Bool.{cases_eq, ne_eqb}
use Rattle.profile.specs.declared.copies.CopyState.{CopyState}
use Rattle.profile.specs.declared.copies.Leave.{Leave}
use Rattle.profile.specs.CopyTables.{all_left}

module _ (why : Leave) (spared : Option ℕ) (line : ℕ) (first now new : ℕ → ℕ → CopyState) (core : ℕ)
    (done : (c n : ℕ) → c < core → now c n ≡ all_left why spared line first c n)
    (untold : (c n : ℕ) → core ≤ c → now c n ≡ first c n)
    (step : (c n : ℕ) → new c n ≡ (if core == c then all_left why spared line now c n else now c n)) where
  elsewhere : (c n : ℕ) → (core ≡ c → ⊥) → new c n ≡ now c n
  elsewhere c n not = step c n ∙ ap (λ (b : Bool). if b then all_left why spared line now c n else now c n) (ne_eqb core c not)

  here : (c n : ℕ) → core ≡ c → new c n ≡ all_left why spared line first c n
  here c n is =
      step c n ∙ ap (λ (b : Bool). if b then all_left why spared line now c n else now c n) (eq-eqb core c is)
      ∙ ap (λ (copy : CopyState). all_left why spared line (λ _ _. copy) c n) (untold c n (omega (arith, is)))

  pub done_more : (c n : ℕ) → c < core + 1 → new c n ≡ all_left why spared line first c n
  done_more c n lt = by (cases_eq core c)
    where
      by : (core ≡ c) ⊎ (core ≡ c → ⊥) → new c n ≡ all_left why spared line first c n
      by (inl is) = here c n is
      by (inr not) = elsewhere c n not ∙ done c n (omega (arith, lt, not))

  pub untold_more : (c n : ℕ) → core + 1 ≤ c → new c n ≡ first c n
  untold_more c n le = elsewhere c n (λ is. omega (arith, is, le)) ∙ untold c n (omega (arith, le))
