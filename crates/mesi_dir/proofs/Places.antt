-- What two lists, of lines and of what is kept of each, say at the place of a line.
use Rattle.std.proofs.Common.{◌≡◌, ◌≢◌, ℕ, zero, suc, ◌+◌, ◌<◌, Bool, true, false, ◌||◌, cond, List, [], ◌∷◌, ◌++◌, length, get_or, set, map, Some, None, refl, sym, ap, ◌∙◌, arith}
use Rattle.std.specs.List.{position, position_from, zip, remove, list_any, IsDistinct}
use Rattle.std.specs.Map.{lookup, remove_entry, set_value}
use Rattle.std.specs.Prelude.{nat_eq}
use Rattle.std.proofs.lemmas.Bool.Decides.{Decides-eqb}
use Rattle.std.proofs.lemmas.Iterator.Adapters.{position_from-zero}
use Rattle.std.proofs.lemmas.List.Quantifiers.{position-Some, all_pairs_remove}
use Rattle.std.proofs.lemmas.Map.Made.{AllPairs-from_IsDistinct, IsDistinct-from_AllPairs}

-- the test passes at this place, and at none before
abbrev pub IsFirst : (test : ℕ → Bool) → List ℕ → ℕ → Type 0
IsFirst test [] i = ⊥
IsFirst test (x ∷ xs) zero = test x ≡ true
IsFirst test (x ∷ xs) (suc i) = (test x ≡ false) × IsFirst test xs i

first_from_places : (test : ℕ → Bool) (xs : List ℕ) (i : ℕ) → i < length xs → test (get_or xs i 0) ≡ true → ((k : ℕ) → k < i → test (get_or xs k 0) ≡ false) → IsFirst test xs i
first_from_places test [] i l h before = absurd (omega arith)
first_from_places test (x ∷ xs) zero l h before = h
first_from_places test (x ∷ xs) (suc i) l h before =
    (before 0 (omega arith), first_from_places test xs i (omega arith) h (λ k below. before (suc k) (omega arith)))

pub first-position : (test : ℕ → Bool) (xs : List ℕ) (i : ℕ) → position test xs ≡ Some i → IsFirst test xs i
first-position test xs i h = let p = position-Some test xs i 0 h in first_from_places test xs i p.0 p.1 p.2

none_passes : (test : ℕ → Bool) (xs : List ℕ) (i : ℕ) → position_from test i xs ≡ None → list_any test xs ≡ false
none_passes test [] i h = refl
none_passes test (x ∷ xs) i h =
    elim (test x) as (λ b. cond b (Some i) (position_from test (i + 1) xs) ≡ None → (b || list_any test xs) ≡ false)
    [ true ↦ λ (k : Some i ≡ None). cc | false ↦ λ k. none_passes test xs (i + 1) k ] h

module _ {X : Type 0} (test : ℕ → Bool) where
  pub lookup_at : (xs : List ℕ) (ys : List X) (i : ℕ) (d : X) → length ys ≡ length xs → IsFirst test xs i → lookup test (zip xs ys) ≡ Some (get_or ys i d)
  lookup_at [] ys i d l h = absurd h
  lookup_at (x ∷ xs) [] i d l h = absurd (omega arith)
  lookup_at (x ∷ xs) (y ∷ ys) zero d l h = rw h refl
  lookup_at (x ∷ xs) (y ∷ ys) (suc i) d l h = rw (h.0) (lookup_at xs ys i d (omega arith) h.1)

  pub remove_at : (xs : List ℕ) (ys : List X) (i : ℕ) → length ys ≡ length xs → IsFirst test xs i → zip (remove xs i) (remove ys i) ≡ remove_entry test (zip xs ys)
  remove_at [] ys i l h = absurd h
  remove_at (x ∷ xs) [] i l h = absurd (omega arith)
  remove_at (x ∷ xs) (y ∷ ys) zero l h = rw h refl
  remove_at (x ∷ xs) (y ∷ ys) (suc i) l h = rw (h.0) (ap (λ (es : List (ℕ × X)). (x, y) ∷ es) (remove_at xs ys i (omega arith) h.1))

  pub set_at : (xs : List ℕ) (ys : List X) (i : ℕ) (v : X) → length ys ≡ length xs → IsFirst test xs i → zip xs (set ys i v) ≡ set_value test (zip xs ys) v
  set_at [] ys i v l h = absurd h
  set_at (x ∷ xs) [] i v l h = absurd (omega arith)
  set_at (x ∷ xs) (y ∷ ys) zero v l h = rw h refl
  set_at (x ∷ xs) (y ∷ ys) (suc i) v l h = rw (h.0) (ap (λ (es : List (ℕ × X)). (x, y) ∷ es) (set_at xs ys i v (omega arith) h.1))

  absent_from : (xs : List ℕ) (ys : List X) (i : ℕ) → position_from test i xs ≡ None → (lookup test (zip xs ys) ≡ None) × (list_any test xs ≡ false)
  absent_from [] ys i h = (refl, refl)
  absent_from (x ∷ xs) [] i h = (refl, none_passes test (x ∷ xs) i h)
  absent_from (x ∷ xs) (y ∷ ys) i h =
      elim (test x) as (λ b. cond b (Some i) (position_from test (i + 1) xs) ≡ None → (cond b (Some y) (lookup test (zip xs ys)) ≡ None) × ((b || list_any test xs) ≡ false)) [
        | true ↦ λ (k : Some i ≡ None). absurd cc
        | false ↦ λ k. absent_from xs ys (i + 1) k
      ] h

  pub absent : (xs : List ℕ) (ys : List X) → position test xs ≡ None → (lookup test (zip xs ys) ≡ None) × (list_any test xs ≡ false)
  absent xs ys h = absent_from xs ys 0 (sym (position_from-zero test xs) ∙ h)

pub zip-push : {X : Type 0} (xs : List ℕ) (ys : List X) (x : ℕ) (y : X) → length ys ≡ length xs → zip (xs ++ x ∷ []) (ys ++ y ∷ []) ≡ zip xs ys ++ (x, y) ∷ []
zip-push [] [] x y l = refl
zip-push [] (b ∷ ys) x y l = absurd (omega arith)
zip-push (a ∷ xs) [] x y l = absurd (omega arith)
zip-push {X} (a ∷ xs) (b ∷ ys) x y l = ap (λ (es : List (ℕ × X)). (a, b) ∷ es) (zip-push xs ys x y (omega arith))

pub distinct-remove : (xs : List ℕ) (i : ℕ) → i < length xs → IsDistinct nat_eq xs → IsDistinct nat_eq (remove xs i)
distinct-remove xs i l h =
    IsDistinct-from_AllPairs Decides-eqb (remove xs i) (all_pairs_remove (λ x y. x ≢ y) xs i l (AllPairs-from_IsDistinct Decides-eqb xs h))

pub map-remove : {X Y : Type 0} (f : X → Y) (xs : List X) (i : ℕ) → map f (remove xs i) ≡ remove (map f xs) i
map-remove f [] zero = refl
map-remove f [] (suc i) = refl
map-remove f (x ∷ xs) zero = refl
map-remove {Y = Y} f (x ∷ xs) (suc i) = ap (λ (ys : List Y). f x ∷ ys) (map-remove f xs i)
