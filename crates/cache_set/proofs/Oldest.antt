-- The first place of a word, and the least of some ages.
use Rattle.std.proofs.Common.{◌≡◌, ℕ, zero, suc, ◌<◌, ◌≤◌, true, false, min, List, [], ◌∷◌, length, get_or, Some, None, refl, sym, ap, ◌∙◌, arith, inl, inr}
use Rattle.std.specs.List.{position, position_or_len}
use Rattle.std.specs.Prelude.{nat_eq, unwrap_or, ◌⊎◌}
use Rattle.std.proofs.lemmas.Bool.{cases_lt, eq-eqb, eqb-true, lt-ltb}
use Rattle.std.proofs.lemmas.List.Sums.{fails_before_first, passes_at_first}
use Rattle.std.proofs.lemmas.List.Quantifiers.{position-Some}
use Rattle.lanes.specs.Words.{least_from, least_of}

module _ (list : List ℕ) (x k : ℕ) (within : k < length list) (is : get_or list k 0 ≡ x) where
  abbrev first : ℕ
  first = position_or_len (λ y. nat_eq y x) list

  first_within : first < length list
  first_within =
      elim (cases_lt k first) as (λ _. first < length list) [
        | inl l ↦
            let no : nat_eq (get_or list k 0) x ≡ false = fails_before_first (λ y. nat_eq y x) list k 0 l in
            let yes : nat_eq (get_or list k 0) x ≡ true = eq-eqb (get_or list k 0) x is in
            absurd cc
        | inr g ↦ omega (arith, g, within)
      ]

  found : position (λ y. nat_eq y x) list ≡ Some first
  found = rw (lt-ltb first (length list) first_within) refl

  pub not_missing : position (λ y. nat_eq y x) list ≡ None → ⊥
  not_missing none = let some = found in absurd cc

  pub found_is : get_or list (unwrap_or (position (λ y. nat_eq y x) list) 0) 0 ≡ x
  found_is =
      ap (λ o. get_or list (unwrap_or o 0) 0) found ∙ eqb-true (get_or list first 0) x (passes_at_first (λ y. nat_eq y x) list 0 first_within)

pub place_within : (list : List ℕ) (x i : ℕ) → position (λ y. nat_eq y x) list ≡ Some i → i < length list
place_within list x i e = (position-Some (λ y. nat_eq y x) list i 0 e).0

pub place_is : (list : List ℕ) (x i : ℕ) → position (λ y. nat_eq y x) list ≡ Some i → get_or list i 0 ≡ x
place_is list x i e = eqb-true (get_or list i 0) x (position-Some (λ y. nat_eq y x) list i 0 e).1

least_from_le : (m : ℕ) (words : List ℕ) → least_from m words ≤ m
least_from_le m [] = omega arith
least_from_le m (w ∷ words) = omega (arith, least_from_le (min m w) words)

least_le : (m : ℕ) (words : List ℕ) (k : ℕ) → k < length words → least_from m words ≤ get_or words k 0
least_le m [] k l = absurd (omega arith)
least_le m (w ∷ words) zero l = omega (arith, least_from_le (min m w) words)
least_le m (w ∷ words) (suc k) l = least_le (min m w) words k (omega arith)

abbrev pub Occurs : List ℕ → ℕ → Type 0
Occurs list x = (k : ℕ) × (k < length list) × (get_or list k 0 ≡ x)

least_there : (m : ℕ) (words : List ℕ) → (least_from m words ≡ m) ⊎ Occurs words (least_from m words)
least_there m [] = inl refl
least_there m (w ∷ words) =
    elim (least_there (min m w) words) as (λ _. (least_from m (w ∷ words) ≡ m) ⊎ Occurs (w ∷ words) (least_from m (w ∷ words))) [
      | inl e ↦ elim (cases_lt m w) as (λ _. (least_from m (w ∷ words) ≡ m) ⊎ Occurs (w ∷ words) (least_from m (w ∷ words))) [
        | inl l ↦ inl (omega (arith, e, l))
        | inr g ↦ inr (0, omega arith, omega (arith, e, g))
      ]
      | inr o ↦ inr (suc o.0, omega (arith, o.1), o.2)
    ]

occurs : (ages : List ℕ) (age : ℕ) → least_of ages ≡ Some age → Occurs ages age
occurs [] age e = absurd cc
occurs (a ∷ ages) age e =
    let is : least_from a ages ≡ age = cc in
    elim (least_there a ages) as (λ _. Occurs (a ∷ ages) age) [
      | inl s ↦ (0, omega arith, sym s ∙ is)
      | inr o ↦ (suc o.0, omega (arith, o.1), o.2 ∙ is)
    ]

below_all : (ages : List ℕ) (age k : ℕ) → least_of ages ≡ Some age → k < length ages → age ≤ get_or ages k 0
below_all [] age k e l = absurd (omega arith)
below_all (a ∷ ages) age zero e l =
    let is : least_from a ages ≡ age = cc in
    omega (arith, is, least_from_le a ages)
below_all (a ∷ ages) age (suc k) e l =
    let is : least_from a ages ≡ age = cc in
    omega (arith, is, least_le a ages k (omega arith))

pub oldest : (ages : List ℕ) (age k : ℕ) → least_of ages ≡ Some age → k < length ages → get_or ages (unwrap_or (position (λ y. nat_eq y age) ages) 0) 0 ≤ get_or ages k 0
oldest ages age k e l =
    let o = occurs ages age e in
    omega (arith, found_is ages age o.0 o.1 o.2, below_all ages age k e l)
