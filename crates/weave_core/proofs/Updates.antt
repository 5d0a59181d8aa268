-- What is read of a state after a step wrote it.
use Rattle.std.proofs.Common.{◌≡◌, ◌<◌, ◌≤◌, ℕ, zero, suc, List, [], ◌∷◌, length, map, set, get_or, ◌⊎◌, Some, slice_get, ◌∙◌, ap, refl, inl, inr, arith}
use Rattle.std.proofs.lemmas.Bool.{cases_lt, cases_eq}
use Rattle.std.proofs.lemmas.List.{get_or-set_same, get_or-set_other}
use Rattle.weave_core.specs.DomainMachine.{DomainState, fresh_domain, with_floor}

set_past : {X : Type 0} (xs : List X) (i : ℕ) (v : X) → length xs ≤ i → set xs i v ≡ xs
set_past [] i v l = refl
set_past (x ∷ xs) zero v l = absurd (omega arith)
set_past (x ∷ xs) (suc i) v l = ap (λ (ys : List _). x ∷ ys) (set_past xs i v (omega arith))

-- the value that was written at its place, or what was there before
pub read_after : {X : Type 0} (xs : List X) (i : ℕ) (v d : X) (j : ℕ) → ((j ≡ i) × (get_or (set xs i v) j d ≡ v)) ⊎ (get_or (set xs i v) j d ≡ get_or xs j d)
read_after xs i v d j =
    elim (cases_eq j i) [
      | inr apart ↦ inr (get_or-set_other xs i j v d apart)
      | inl same ↦
          elim (cases_lt i (length xs)) [
            | inl below ↦ inl (same, ap (λ n. get_or (set xs i v) n d) same ∙ get_or-set_same xs i v d below)
            | inr past ↦ inr (ap (λ ys. get_or ys j d) (set_past xs i v past))
          ]
    ]

-- the floor of each domain is written, and nothing else
pub floors_after : (floor : ℕ) (xs : List DomainState) (d : ℕ)
    → (get_or (map (with_floor floor) xs) d fresh_domain ≡ with_floor floor (get_or xs d fresh_domain))
    ⊎ (get_or (map (with_floor floor) xs) d fresh_domain ≡ get_or xs d fresh_domain)
floors_after floor [] d = inr refl
floors_after floor (x ∷ xs) zero = inl refl
floors_after floor (x ∷ xs) (suc d) = floors_after floor xs d

pub floor_below : (floor : ℕ) (xs : List DomainState) (d : ℕ) → d < length xs
    → get_or (map (with_floor floor) xs) d fresh_domain ≡ with_floor floor (get_or xs d fresh_domain)
floor_below floor [] d l = absurd (omega arith)
floor_below floor (x ∷ xs) zero l = refl
floor_below floor (x ∷ xs) (suc d) l = floor_below floor xs d (omega arith)

pub get_set_same : {X : Type 0} (xs : List X) (i : ℕ) (v x : X) → slice_get xs i ≡ Some x → slice_get (set xs i v) i ≡ Some v
get_set_same [] i v x h = absurd (cc)
get_set_same (y ∷ xs) zero v x h = refl
get_set_same (y ∷ xs) (suc i) v x h = get_set_same xs i v x h

pub get_set_other : {X : Type 0} (xs : List X) (i j : ℕ) (v : X) → (j ≡ i → ⊥) → slice_get (set xs i v) j ≡ slice_get xs j
get_set_other [] i j v h = refl
get_set_other (y ∷ xs) zero zero v h = absurd (h refl)
get_set_other (y ∷ xs) zero (suc j) v h = refl
get_set_other (y ∷ xs) (suc i) zero v h = refl
get_set_other (y ∷ xs) (suc i) (suc j) v h = get_set_other xs i j v (λ e. h (omega (arith, e)))
