-- The first of a run's lists of turns.
use Rattle.std.proofs.Common.{◌≡◌, ◌⊎◌, inl, inr, ℕ, List, [], ◌∷◌, ◌++◌, drop, get_or, length, refl, sym, ◌∙◌, ap, subst, arith}
use Rattle.elf_load.specs.MemoryImage.{MemoryImage}
use Rattle.machine_desc.specs.declared.machine.Machine.{Machine}
use Rattle.reference.specs.ReferenceRun.{IsKeptInOrder}
use Rattle.run.specs.Waiting.{IsFirstPart}

none_first : (lists rest : List (List ℕ)) → lists ++ rest ≡ [] → lists ≡ []
none_first [] rest is = refl
none_first (x ∷ lists) rest is = absurd (let long = ap length is in omega (arith, long))

pub first_of_none : (lists whole : List (List ℕ)) → whole ≡ [] → IsFirstPart lists whole → lists ≡ []
first_of_none lists whole none part = none_first lists part.rest (part.are ∙ none)

first_more : (lists rest whole : List (List ℕ)) (turns : List ℕ) → lists ++ rest ≡ whole ++ turns ∷ [] → (lists ≡ whole ++ turns ∷ []) ⊎ IsFirstPart lists whole
first_more [] rest whole turns is = inr (record { rest = whole; are = refl })
first_more (x ∷ []) rest [] turns is = inl (ap (λ (y : List ℕ). y ∷ []) (ap (λ (all : List (List ℕ)). get_or all 0 x) is))
first_more (x ∷ y ∷ lists) rest [] turns is = absurd (let long = ap length is in omega (arith, long))
first_more (x ∷ lists) rest (w ∷ whole) turns is =
    let heads : x ≡ w = ap (λ (all : List (List ℕ)). get_or all 0 x) is in
    let tails : lists ++ rest ≡ whole ++ turns ∷ [] = ap (λ (all : List (List ℕ)). drop 1 all) is in
    elim (first_more lists rest whole turns tails) as (λ _. (x ∷ lists ≡ w ∷ (whole ++ turns ∷ [])) ⊎ IsFirstPart (x ∷ lists) (w ∷ whole)) [
      | inl all ↦ inl (ap (λ (y : List ℕ). y ∷ lists) heads ∙ ap (λ (ls : List (List ℕ)). w ∷ ls) all)
      | inr part ↦ inr (record { rest = part.rest; are = ap (λ (y : List ℕ). y ∷ (lists ++ part.rest)) heads ∙ ap (λ (ls : List (List ℕ)). w ∷ ls) part.are })
    ]

module _ (machine : Machine) (image : MemoryImage) where
  -- each first part of these lists is kept in order
  abbrev pub AreFirstsKept : List (List ℕ) → Type 0
  AreFirstsKept whole = (lists : List (List ℕ)) → IsFirstPart lists whole → IsKeptInOrder machine image lists

  -- also where there is a list more
  pub firsts_more : (whole : List (List ℕ)) (turns : List ℕ) → AreFirstsKept whole → IsKeptInOrder machine image (whole ++ turns ∷ []) → AreFirstsKept (whole ++ turns ∷ [])
  firsts_more whole turns firsts all lists part =
      elim (first_more lists part.rest whole turns part.are) as (λ _. IsKeptInOrder machine image lists) [
        | inl same ↦ subst (IsKeptInOrder machine image) (sym same) all
        | inr before ↦ firsts lists before
      ]
