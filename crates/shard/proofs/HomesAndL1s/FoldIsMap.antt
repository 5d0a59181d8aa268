-- Steps of named cores, one after the other, are one step of all, where the others' L1s are not changed by it.
use Rattle.std.proofs.Common.{◌≡◌, ◌≢◌, ℕ, false, List, [], ◌∷◌, length, get_or, map, set, refl, sym, ap, ◌∙◌, subst, arith, inl, inr}
use Rattle.std.specs.Prelude.{nat_eq}
use Rattle.std.specs.Set.{is_member}
use Rattle.std.proofs.lemmas.Bool.{cases_eq, cases_lt, ne_eqb}
use Rattle.std.proofs.lemmas.List.{ext_get_or, get_or-map, get_or-set_other, get_or-set_same, get_or_past, length-map, length-set}
use Rattle.l1_cache.specs.L1State.{given_up_in, instruction_given_up_in, no_l1, shared_in}
use Rattle.shard.specs.SharedStep.{Bank, collected, given_up_by, instructions_given_up_by, shared_by, with_l1}

module _ {X : Type 0} (none : X) (f : X → X) (still : f none ≡ none) where
  abbrev pub one_after_the_other : List ℕ → List X → List X
  one_after_the_other [] xs = xs
  one_after_the_other (core ∷ cores) xs = one_after_the_other cores (set xs core (f (get_or xs core none)))

  -- one place after a step of one core
  pub stepped_same : (xs : List X) (core : ℕ) → get_or (set xs core (f (get_or xs core none))) core none ≡ f (get_or xs core none)
  stepped_same xs core =
      elim (cases_lt core (length xs)) as (λ _. get_or (set xs core (f (get_or xs core none))) core none ≡ f (get_or xs core none)) [
        | inl l ↦ get_or-set_same xs core (f (get_or xs core none)) none l
        | inr l ↦
            get_or_past (set xs core (f (get_or xs core none))) core none (omega (arith, length-set xs core (f (get_or xs core none))))
            ∙ (sym still ∙ ap f (sym (get_or_past xs core none l)))
      ]

  pub fold_long : (cores : List ℕ) (xs : List X) → length (one_after_the_other cores xs) ≡ length xs
  fold_long [] xs = refl
  fold_long (core ∷ cores) xs =
      fold_long cores (set xs core (f (get_or xs core none))) ∙ length-set xs core (f (get_or xs core none))

  pub fold_at : (cores : List ℕ) (xs : List X) → ((k : ℕ) → f (f (get_or xs k none)) ≡ f (get_or xs k none)) → ((k : ℕ) → is_member nat_eq cores k ≡ false → f (get_or xs k none) ≡ get_or xs k none)
      → (k : ℕ) → get_or (one_after_the_other cores xs) k none ≡ f (get_or xs k none)
  fold_at [] xs again others k = sym (others k refl)
  fold_at (core ∷ cores) xs again others k =
      let now : List X = set xs core (f (get_or xs core none)) in
      let other : (j : ℕ) → j ≢ core → get_or now j none ≡ get_or xs j none = λ j. get_or-set_other xs core j (f (get_or xs core none)) none in
      let again_now : (j : ℕ) → f (f (get_or now j none)) ≡ f (get_or now j none)
      = λ j. elim (cases_eq j core) as (λ _. f (f (get_or now j none)) ≡ f (get_or now j none)) [
        | inl e ↦ subst (λ (i : ℕ). f (f (get_or now i none)) ≡ f (get_or now i none)) (sym e) (subst (λ (x : X). f (f x) ≡ f x) (sym (stepped_same xs core)) (ap f (again core)))
        | inr e ↦ subst (λ (x : X). f (f x) ≡ f x) (sym (other j e)) (again j)
      ] in
      let others_now : (j : ℕ) → is_member nat_eq cores j ≡ false → f (get_or now j none) ≡ get_or now j none
      = λ j absent. elim (cases_eq j core) as (λ _. f (get_or now j none) ≡ get_or now j none) [
        | inl e ↦ subst (λ (i : ℕ). f (get_or now i none) ≡ get_or now i none) (sym e) (subst (λ (x : X). f x ≡ x) (sym (stepped_same xs core)) (again core))
        | inr e ↦ subst (λ (x : X). f x ≡ x) (sym (other j e)) (others j (rw (ne_eqb j core e) absent))
      ] in
      fold_at cores now again_now others_now k
      ∙ elim (cases_eq k core) as (λ _. f (get_or now k none) ≡ f (get_or xs k none)) [
        | inl e ↦ subst (λ (i : ℕ). f (get_or now i none) ≡ f (get_or xs i none)) (sym e) (ap f (stepped_same xs core) ∙ again core)
        | inr e ↦ ap f (other k e)
      ]

  pub fold_is_map : (cores : List ℕ) (xs : List X) → ((k : ℕ) → f (f (get_or xs k none)) ≡ f (get_or xs k none)) → ((k : ℕ) → is_member nat_eq cores k ≡ false → f (get_or xs k none) ≡ get_or xs k none)
      → one_after_the_other cores xs ≡ map f xs
  fold_is_map cores xs again others =
      ext_get_or none (one_after_the_other cores xs) (map f xs) (fold_long cores xs ∙ sym (length-map xs f))
      (λ i within. fold_at cores xs again others i ∙ sym (get_or-map f xs i none none (omega (arith, fold_long cores xs))))

-- the steps of the bank are such ones of its L1s
pub no_given_up : (line : ℕ) → given_up_in line no_l1 ≡ no_l1
unfolding given_up_in
no_given_up line = refl

pub given_up_l1s : (line : ℕ) (cores : List ℕ) (p : Bank) → (given_up_by line cores p).l1s ≡ one_after_the_other no_l1 (given_up_in line) (no_given_up line) cores p.l1s
given_up_l1s line [] p = refl
given_up_l1s line (core ∷ cores) p = given_up_l1s line cores (with_l1 core (given_up_in line) (collected line core p))

pub no_shared : (line : ℕ) → shared_in line no_l1 ≡ no_l1
unfolding shared_in
no_shared line = refl

pub shared_l1s : (line : ℕ) (cores : List ℕ) (p : Bank) → (shared_by line cores p).l1s ≡ one_after_the_other no_l1 (shared_in line) (no_shared line) cores p.l1s
shared_l1s line [] p = refl
shared_l1s line (core ∷ cores) p = shared_l1s line cores (with_l1 core (shared_in line) (collected line core p))

pub no_instructions_given_up : (line : ℕ) → instruction_given_up_in line no_l1 ≡ no_l1
unfolding instruction_given_up_in
no_instructions_given_up line = refl

pub instructions_given_up_l1s : (line : ℕ) (cores : List ℕ) (p : Bank)
    → (instructions_given_up_by line cores p).l1s ≡ one_after_the_other no_l1 (instruction_given_up_in line) (no_instructions_given_up line) cores p.l1s
instructions_given_up_l1s line [] p = refl
instructions_given_up_l1s line (core ∷ cores) p = instructions_given_up_l1s line cores (with_l1 core (instruction_given_up_in line) p)
