-- Elements of lists by their places.
use Rattle.std.proofs.Common.{◌≡◌, ◌<◌, ℕ, zero, suc, List, [], ◌∷◌, length, Some, get_or, slice_get, arith}
use Rattle.std.proofs.lemmas.Option.{none-some, get_or_from_slice_get}

pub get_within : {X : Type 0} (xs : List X) (i : ℕ) (x : X) → slice_get xs i ≡ Some x → i < length xs
get_within [] i x h = absurd (none-some x h)
get_within (y ∷ xs) zero x h = omega arith
get_within (y ∷ xs) (suc i) x h = omega (arith, get_within xs i x h)

pub read_is : {X : Type 0} (xs : List X) (i : ℕ) (d x : X) → slice_get xs i ≡ Some x → get_or xs i d ≡ x
read_is xs i d x h = get_or_from_slice_get xs i x d h
