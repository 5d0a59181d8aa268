-- Sums of columns.
use Rattle.std.proofs.Common.{◌≡◌, ◌<◌, ◌+◌, ℕ, zero, suc, List, [], ◌∷◌, length, map, get_or, refl, ap, ◌∙◌, arith}
use Rattle.std.proofs.lemmas.Bool.Decides.{nat_tests}
use Rattle.profile_rows.specs.Tallies.{capped_wide}
use Rattle.profile_files.specs.CallgrindFile.{added}

-- lists of the same length have as many sums
pub length_added : (xs ys : List ℕ) → length xs ≡ length ys → length (map capped_wide (added xs ys)) ≡ length xs
length_added [] ys same = refl
length_added (x ∷ xs) [] same = absurd (omega (arith, same))
length_added (x ∷ xs) (y ∷ ys) same = ap suc (length_added xs ys (omega (arith, same)))

pub added_at : (xs ys : List ℕ) → length xs ≡ length ys → (k : ℕ) → k < length xs → get_or (map capped_wide (added xs ys)) k 0 ≡ capped_wide (get_or xs k 0 + get_or ys k 0)
added_at [] ys same k below = absurd (omega (arith, below))
added_at (x ∷ xs) [] same k below = absurd (omega (arith, same))
added_at (x ∷ xs) (y ∷ ys) same zero below = refl
added_at (x ∷ xs) (y ∷ ys) same (suc k) below = added_at xs ys (omega (arith, same)) k (omega (arith, below))

capped_once : (x y : ℕ) → capped_wide (capped_wide x + y) ≡ capped_wide (x + y)
capped_once x y = grind (arith, nat_tests)

-- what is capped may be capped before
pub capped_before : (xs ys : List ℕ) → map capped_wide (added (map capped_wide xs) ys) ≡ map capped_wide (added xs ys)
capped_before [] ys = refl
capped_before (x ∷ xs) [] = refl
capped_before (x ∷ xs) (y ∷ ys) = ap (λ z. z ∷ map capped_wide (added (map capped_wide xs) ys)) (capped_once x y) ∙ ap (λ zs. capped_wide (x + y) ∷ zs) (capped_before xs ys)
