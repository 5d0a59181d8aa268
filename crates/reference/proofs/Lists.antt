-- Lists, an element at a time.
use Rattle.std.proofs.Common.{◌≡◌, ℕ, zero, suc, List, [], ◌∷◌, ◌++◌, map, All, Some, refl, ap, arith}
use Rattle.std.specs.Prelude.{slice_get, slice_set}
use Rattle.std.proofs.lemmas.List.Elements.{All-append}

pub all_head : {A : Type 0} (P : A → Type 0) (x : A) (xs : List A) → All P (x ∷ xs) → P x
all_head P x xs all = all 0 x (omega arith)

pub all_tail : {A : Type 0} (P : A → Type 0) (x : A) (xs : List A) → All P (x ∷ xs) → All P xs
all_tail P x xs all = λ k d below. all (suc k) d (omega (arith, below))

pub all_none : {A : Type 0} (P : A → Type 0) → All P []
all_none P k d below = absurd (omega (arith, below))

all_one : {A : Type 0} (P : A → Type 0) (x : A) → P x → All P (x ∷ [])
all_one P x holds zero d below = holds
all_one P x holds (suc k) d below = absurd (omega (arith, below))

pub all_and_one : {A : Type 0} (P : A → Type 0) (xs : List A) (x : A) → All P xs → P x → All P (xs ++ x ∷ [])
all_and_one P xs x all one = All-append P xs (x ∷ []) all (all_one P x one)

pub set_same : {A : Type 0} (xs : List A) (i : ℕ) (x : A) → slice_get xs i ≡ Some x → slice_set xs i x ≡ xs
set_same [] i x e = refl
set_same (y ∷ ys) zero x e = let same : y ≡ x = cc in rw same refl
set_same (y ∷ ys) (suc i) x e = ap (λ zs. y ∷ zs) (set_same ys i x e)

pub get_set : {A : Type 0} (xs : List A) (i : ℕ) (x y : A) → slice_get xs i ≡ Some x → slice_get (slice_set xs i y) i ≡ Some y
get_set [] i x y e = cc
get_set (z ∷ zs) zero x y e = refl
get_set (z ∷ zs) (suc i) x y e = get_set zs i x y e

pub set_again : {A : Type 0} (xs : List A) (i : ℕ) (x y : A) → slice_set (slice_set xs i x) i y ≡ slice_set xs i y
set_again [] i x y = refl
set_again (z ∷ zs) zero x y = refl
set_again (z ∷ zs) (suc i) x y = ap (λ ws. z ∷ ws) (set_again zs i x y)

pub map_again : {A : Type 0} (f : A → A) → ((x : A) → f (f x) ≡ f x) → (xs : List A) → map f (map f xs) ≡ map f xs
map_again f again [] = refl
map_again f again (x ∷ xs) = rw (again x, map_again f again xs) refl
