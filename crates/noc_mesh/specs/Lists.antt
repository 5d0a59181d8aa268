-- What is at a place of two lists behind each other.
use Rattle.std.proofs.Common.{◌≡◌, ◌+◌, ◌<◌, ◌++◌, ℕ, zero, suc, List, [], ◌∷◌, length, refl, arith}
use Rattle.std.specs.Prelude.{slice_get}

pub slice_get_left : {X : Type 0} (xs ys : List X) (k : ℕ) → k < length xs → slice_get (xs ++ ys) k ≡ slice_get xs k
slice_get_left [] ys k within = absurd (omega arith)
slice_get_left (x ∷ xs) ys zero within = refl
slice_get_left (x ∷ xs) ys (suc k) within = slice_get_left xs ys k (omega arith)

-- in the second list, by the place there
pub slice_get_right : {X : Type 0} (xs ys : List X) (k j : ℕ) → k ≡ length xs + j → slice_get (xs ++ ys) k ≡ slice_get ys j
slice_get_right [] ys k j is = rw (let same : k ≡ j = omega arith in same)
slice_get_right (x ∷ xs) ys zero j is = absurd (omega arith)
slice_get_right (x ∷ xs) ys (suc k) j is = slice_get_right xs ys k j (omega arith)
