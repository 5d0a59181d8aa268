-- The accesses of one core among those of all.
use Rattle.std.proofs.Common.{◌≡◌, ℕ, zero, suc, ◌+◌, ◌*◌, ◌<◌, ◌≤◌, ◌==◌, nat_lt, true, false, cond, List, [], ◌∷◌, ◌++◌, length, All, refl, sym, ◌∙◌, ap, arith, inl, inr}
use Rattle.std.proofs.lemmas.Bool.{cases_eq, cases_lt, eq-eqb, ne_eqb}
use Rattle.std.proofs.lemmas.Bool.Decides.{nat_tests}
use Rattle.std.proofs.lemmas.List.Elements.{All-head, All-tail, filter-append}
use Rattle.parts_table.specs.declared.view.Made.{Made}
use Rattle.parts_table.specs.TurnOrder.{by_core}

pub own_first : (core : ℕ) (a : Made) (list : List Made) → a.entry.core ≡ core → by_core core (a ∷ list) ≡ a ∷ by_core core list
own_first core a list own = rw (eq-eqb a.entry.core core own) refl

pub other_first : (core : ℕ) (a : Made) (list : List Made) → (a.entry.core ≡ core → ⊥) → by_core core (a ∷ list) ≡ by_core core list
other_first core a list other = rw (ne_eqb a.entry.core core other) refl

pub by_core_append : (core : ℕ) (xs ys : List Made) → by_core core (xs ++ ys) ≡ by_core core xs ++ by_core core ys
by_core_append core xs ys = filter-append (λ a. a.entry.core == core) xs ys

pub all_own : (core : ℕ) (list : List Made) → All (λ a. a.entry.core ≡ core) list → by_core core list ≡ list
all_own core [] own = refl
all_own core (a ∷ list) own =
    let P : Made → Type 0 = λ x. x.entry.core ≡ core in
    own_first core a list (All-head P a list own) ∙ ap (λ (xs : List Made). a ∷ xs) (all_own core list (All-tail P a list own))

pub none_own : (core : ℕ) (list : List Made) → All (λ a. a.entry.core ≡ core → ⊥) list → by_core core list ≡ []
none_own core [] none = refl
none_own core (a ∷ list) none =
    let P : Made → Type 0 = λ x. x.entry.core ≡ core → ⊥ in
    other_first core a list (All-head P a list none) ∙ none_own core list (All-tail P a list none)

-- of a list of a core's own
pub own_again : (core : ℕ) (list : List Made) → by_core core (by_core core list) ≡ by_core core list
own_again core [] = refl
own_again core (a ∷ list) =
    elim (cases_eq a.entry.core core) as (λ _. by_core core (by_core core (a ∷ list)) ≡ by_core core (a ∷ list)) [
      | inl own ↦
          let first : by_core core (a ∷ list) ≡ a ∷ by_core core list = own_first core a list own in
          ap (by_core core) first ∙ (own_first core a (by_core core list) own ∙ (ap (λ (xs : List Made). a ∷ xs) (own_again core list) ∙ sym first))
      | inr other ↦
          let first : by_core core (a ∷ list) ≡ by_core core list = other_first core a list other in
          ap (by_core core) first ∙ (own_again core list ∙ sym first)
    ]

pub other_none : (core other : ℕ) → (core ≡ other → ⊥) → (list : List Made) → by_core core (by_core other list) ≡ []
other_none core other apart [] = refl
other_none core other apart (a ∷ list) =
    elim (cases_eq a.entry.core other) as (λ _. by_core core (by_core other (a ∷ list)) ≡ []) [
      | inl own ↦
          ap (by_core core) (own_first other a list own)
          ∙ (other_first core a (by_core other list) (λ same. apart (sym same ∙ own)) ∙ other_none core other apart list)
      | inr not ↦ ap (by_core core) (other_first other a list not) ∙ other_none core other apart list
    ]

-- ---- how many there are

-- how many accesses are of cores below this one
abbrev below : ℕ → List Made → ℕ
below core [] = 0
below core (a ∷ list) = cond (nat_lt a.entry.core core) 1 0 + below core list

none_below : (list : List Made) → below 0 list ≡ 0
none_below [] = refl
none_below (a ∷ list) = let later = none_below list in let not : nat_lt a.entry.core 0 ≡ false = grind (arith, nat_tests) in rw not (omega (arith, later))

one_core_more : (core : ℕ) (list : List Made) → below (suc core) list ≡ below core list + length (by_core core list)
one_core_more core [] = omega arith
one_core_more core (a ∷ list) =
    let later = one_core_more core list in
    elim (cases_eq a.entry.core core) as (λ _. below (suc core) (a ∷ list) ≡ below core (a ∷ list) + length (by_core core (a ∷ list))) [
      | inl own ↦
          let up : nat_lt a.entry.core (suc core) ≡ true = grind (arith, nat_tests) in
          let down : nat_lt a.entry.core core ≡ false = grind (arith, nat_tests) in
          rw (eq-eqb a.entry.core core own, up, down) (omega (arith, later))
      | inr other ↦
          let same : nat_lt a.entry.core (suc core) ≡ nat_lt a.entry.core core = elim (cases_lt a.entry.core core) as (λ _. nat_lt a.entry.core (suc core) ≡ nat_lt a.entry.core core) [
            | inl is ↦ grind (arith, nat_tests)
            | inr not ↦ grind (arith, nat_tests)
          ] in
          rw (ne_eqb a.entry.core core other, same) (omega (arith, later))
    ]

all_below : (cores : ℕ) (list : List Made) → All (λ a. a.entry.core < cores) list → below cores list ≡ length list
all_below cores [] known = refl
all_below cores (a ∷ list) known =
    let P : Made → Type 0 = λ x. x.entry.core < cores in
    let here : a.entry.core < cores = All-head P a list known in
    let is : nat_lt a.entry.core cores ≡ true = grind (arith, nat_tests) in
    let later = all_below cores list (All-tail P a list known) in
    rw is (omega (arith, later))

few_below : (cores room : ℕ) (list : List Made) → ((core : ℕ) → length (by_core core list) ≤ room) → below cores list ≤ cores * room
few_below zero room list fits = omega (arith, none_below list)
few_below (suc cores) room list fits = omega (arith, few_below cores room list fits, one_core_more cores list, fits cores)

pub few_accesses : (cores room : ℕ) (list : List Made) → All (λ a. a.entry.core < cores) list → ((core : ℕ) → length (by_core core list) ≤ room) → length list ≤ cores * room
few_accesses cores room list known fits = omega (arith, few_below cores room list fits, all_below cores list known)
