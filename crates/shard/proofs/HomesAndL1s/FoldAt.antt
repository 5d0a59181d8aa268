-- What one place of a list is after steps of named cores.
use Rattle.std.proofs.Common.{◌≡◌, ℕ, true, false, List, [], ◌∷◌, get_or, set, refl, sym, ap, ◌∙◌, subst, inl, inr}
use Rattle.std.specs.Prelude.{nat_eq}
use Rattle.std.specs.Set.{is_member}
use Rattle.std.proofs.lemmas.Bool.{cases_Bool, cases_eq, eq-eqb, ne_eqb}
use Rattle.std.proofs.lemmas.List.{get_or-set_other}
use Rattle.mesi_dir.specs.CoreSets.{without_core}
use Rattle.shard.proofs.HomesAndL1s.FoldIsMap.{one_after_the_other, stepped_same}
use Rattle.shard.proofs.HomesAndL1s.Frame.{not_first}

module _ {X : Type 0} (none : X) (f : X → X) (still : f none ≡ none) where
  pub fold_unnamed : (cores : List ℕ) (xs : List X) (k : ℕ) → is_member nat_eq cores k ≡ false → get_or (one_after_the_other none f still cores xs) k none ≡ get_or xs k none
  fold_unnamed [] xs k h = refl
  fold_unnamed (core ∷ cores) xs k h =
      let first = not_first core k cores h in
      fold_unnamed cores (set xs core (f (get_or xs core none))) k first.1 ∙ get_or-set_other xs core k (f (get_or xs core none)) none first.0

  pub fold_named : (cores : List ℕ) (xs : List X) (k : ℕ) → is_member nat_eq cores k ≡ true → f (f (get_or xs k none)) ≡ f (get_or xs k none)
      → get_or (one_after_the_other none f still cores xs) k none ≡ f (get_or xs k none)
  fold_named [] xs k h again = absurd cc
  fold_named (core ∷ cores) xs k h again =
      let now : List X = set xs core (f (get_or xs core none)) in
      elim (cases_eq k core) as (λ _. get_or (one_after_the_other none f still cores now) k none ≡ f (get_or xs k none)) [
        | inl e ↦
            let here : get_or now k none ≡ f (get_or xs k none)
            = subst (λ (j : ℕ). get_or (set xs j (f (get_or xs j none))) k none ≡ f (get_or xs k none)) e (stepped_same none f still xs k) in
            elim (cases_Bool (is_member nat_eq cores k)) as (λ _. get_or (one_after_the_other none f still cores now) k none ≡ f (get_or xs k none)) [
              | inl t ↦ fold_named cores now k t (subst (λ (x : X). f (f x) ≡ f x) (sym here) (ap f again)) ∙ (ap f here ∙ again)
              | inr t ↦ fold_unnamed cores now k t ∙ here
            ]
        | inr e ↦
            let other : get_or now k none ≡ get_or xs k none = get_or-set_other xs core k (f (get_or xs core none)) none e in
            fold_named cores now k (rw (ne_eqb k core e) at h) (subst (λ (x : X). f (f x) ≡ f x) (sym other) again) ∙ ap f other
      ]

-- a core is not among the others
pub not_own : (core : ℕ) (cores : List ℕ) → is_member nat_eq (without_core core cores) core ≡ false
not_own core [] = refl
not_own core (c ∷ cores) =
    elim (cases_eq c core) as (λ _. is_member nat_eq (without_core core (c ∷ cores)) core ≡ false) [
      | inl e ↦ rw (eq-eqb c core e) (not_own core cores)
      | inr e ↦ rw (ne_eqb c core e) (rw (ne_eqb core c (λ k. e (sym k))) (not_own core cores))
    ]
