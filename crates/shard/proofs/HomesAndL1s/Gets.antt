-- Elements of lists by their places.
use Rattle.std.proofs.Common.{◌≡◌, ℕ, zero, suc, ◌<◌, ◌⊎◌, List, [], ◌∷◌, length, get_or, set, Some, refl, sym, ◌∙◌, arith, inl, inr}
use Rattle.std.specs.Prelude.{slice_get}
use Rattle.std.proofs.lemmas.Bool.{cases_lt}
use Rattle.std.proofs.lemmas.List.{get_or-set_same, get_or_past, length-set}

pub got : {X : Type 0} (xs : List X) (k : ℕ) (d : X) → k < length xs → slice_get xs k ≡ Some (get_or xs k d)
got [] k d l = absurd (omega arith)
got (x ∷ xs) zero d l = refl
got (x ∷ xs) (suc k) d l = got xs k d (omega arith)

pub got_is : {X : Type 0} (xs : List X) (k : ℕ) (x d : X) → slice_get xs k ≡ Some x → (k < length xs) × (get_or xs k d ≡ x)
got_is [] k x d e = absurd cc
got_is (y ∷ xs) zero x d e = let is : y ≡ x = cc in (omega arith, is)
got_is (y ∷ xs) (suc k) x d e = let rest = got_is xs k x d e in (omega (arith, rest.0), rest.1)

pub any_default : {X : Type 0} (xs : List X) (k : ℕ) (a b : X) → k < length xs → get_or xs k a ≡ get_or xs k b
any_default [] k a b l = absurd (omega arith)
any_default (x ∷ xs) zero a b l = refl
any_default (x ∷ xs) (suc k) a b l = any_default xs k a b (omega arith)

pub set_is : {X : Type 0} (xs : List X) (k : ℕ) (v d : X) → (get_or (set xs k v) k d ≡ v) ⊎ (get_or (set xs k v) k d ≡ get_or xs k d)
set_is xs k v d =
    elim (cases_lt k (length xs)) as (λ _. (get_or (set xs k v) k d ≡ v) ⊎ (get_or (set xs k v) k d ≡ get_or xs k d)) [
      | inl l ↦ inl (get_or-set_same xs k v d l)
      | inr past ↦ inr (get_or_past (set xs k v) k d (omega (arith, length-set xs k v)) ∙ sym (get_or_past xs k d past))
    ]
