-- What stands at an index of a list that is joined, cut, numbered or mapped.
use Rattle.std.proofs.Common.{◌≡◌, ◌+◌, ◌<◌, ℕ, zero, suc, List, [], ◌∷◌, ◌++◌, length, take, Some, refl, ap, ◌∙◌, sym, arith, zero-add, add-zero, suc-add}
use Rattle.std.specs.List.{slice_get, enumerate_from}
use Rattle.std.specs.Option.{option_map}

pub slice_get_left : {X : Type 0} (xs ys : List X) (i : ℕ) → i < length xs → slice_get (xs ++ ys) i ≡ slice_get xs i
slice_get_left [] ys i below = absurd (omega arith)
slice_get_left (x ∷ xs) ys zero below = refl
slice_get_left (x ∷ xs) ys (suc i) below = slice_get_left xs ys i (omega arith)

pub slice_get_right : {X : Type 0} (xs ys : List X) (i : ℕ) → slice_get (xs ++ ys) (length xs + i) ≡ slice_get ys i
slice_get_right [] ys i = ap (slice_get ys) (zero-add i)
slice_get_right (x ∷ xs) ys i = ap (slice_get (x ∷ xs ++ ys)) (suc-add (length xs) i) ∙ slice_get_right xs ys i

pub slice_get_take : {X : Type 0} (n : ℕ) (xs : List X) (i : ℕ) → i < n → slice_get (take n xs) i ≡ slice_get xs i
slice_get_take zero xs i below = absurd (omega arith)
slice_get_take (suc n) [] i below = refl
slice_get_take (suc n) (x ∷ xs) zero below = refl
slice_get_take (suc n) (x ∷ xs) (suc i) below = slice_get_take n xs i (omega arith)

pub slice_get_enumerate : {X : Type 0} (n : ℕ) (xs : List X) (k : ℕ) → slice_get (enumerate_from n xs) k ≡ option_map (λ (x : X). (n + k, x)) (slice_get xs k)
slice_get_enumerate n [] k = refl
slice_get_enumerate {X} n (x ∷ xs) zero = ap (λ (m : ℕ). Some (m, x)) (sym (add-zero n))
slice_get_enumerate {X} n (x ∷ xs) (suc k) =
    let e : (n + 1) + k ≡ n + suc k = omega arith in
    slice_get_enumerate (n + 1) xs k ∙ ap (λ (m : ℕ). option_map (λ (y : X). (m, y)) (slice_get xs k)) e

-- one element more
pub take_one_more : {X : Type 0} (xs : List X) (k : ℕ) (x : X) → slice_get xs k ≡ Some x → take (k + 1) xs ≡ take k xs ++ x ∷ []
take_one_more [] k x is = cc
take_one_more (y ∷ xs) zero x is = let same : y ≡ x = cc in ap (λ z. z ∷ []) same
take_one_more (y ∷ xs) (suc k) x is =
    let e : suc k + 1 ≡ suc (k + 1) = omega arith in
    ap (λ (n : ℕ). take n (y ∷ xs)) e ∙ ap (λ zs. y ∷ zs) (take_one_more xs k x is)

pub enumerate_one_more : {X : Type 0} (n : ℕ) (xs : List X) (x : X) → enumerate_from n (xs ++ x ∷ []) ≡ enumerate_from n xs ++ (n + length xs, x) ∷ []
enumerate_one_more n [] x = ap (λ (m : ℕ). (m, x) ∷ []) (sym (add-zero n))
enumerate_one_more {X} n (y ∷ xs) x =
    let e : (n + 1) + length xs ≡ n + suc (length xs) = omega arith in
    ap (λ zs. (n, y) ∷ zs) (enumerate_one_more (n + 1) xs x ∙ ap (λ (m : ℕ). enumerate_from (n + 1) xs ++ (m, x) ∷ []) e)
