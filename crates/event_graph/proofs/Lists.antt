-- Membership by recursion, and what it has to do with indices, `map`, `++` and `filter`.
use Rattle.std.proofs.Common.{◌≡◌, ◌+◌, ◌<◌, ◌≤◌, ℕ, zero, suc, Bool, true, false, cond, List, [], ◌∷◌, ◌++◌, map, length, set, ◌⊎◌, Some, get_or, sym, ◌∙◌, ap, subst, refl, inl, inr, arith}
use Rattle.std.proofs.lemmas.Bool.{cond-true, cond-false, cond_both}
use Rattle.std.specs.List.{AllPairs, Contains, filter, slice_get}

abbrev pub In : {X : Type 0} → X → List X → Type 0
In x [] = ⊥
In x (y ∷ ys) = (y ≡ x) ⊎ In x ys

pub in_left : {X : Type 0} (x : X) (xs ys : List X) → In x xs → In x (xs ++ ys)
in_left x [] ys h = absurd h
in_left x (y ∷ xs) ys h = elim h [ inl e ↦ inl e | inr m ↦ inr (in_left x xs ys m) ]

pub in_right : {X : Type 0} (x : X) (xs ys : List X) → In x ys → In x (xs ++ ys)
in_right x [] ys h = h
in_right x (y ∷ xs) ys h = inr (in_right x xs ys h)

pub in_cases : {X : Type 0} (x : X) (xs ys : List X) → In x (xs ++ ys) → In x xs ⊎ In x ys
in_cases x [] ys h = inr h
in_cases x (y ∷ xs) ys h =
    elim h [ inl e ↦ inl (inl e) | inr m ↦ elim (in_cases x xs ys m) [ inl a ↦ inl (inr a) | inr b ↦ inr b ] ]

pub in_push_cases : {X : Type 0} (x : X) (xs : List X) (y : X) → In x (xs ++ y ∷ []) → In x xs ⊎ (y ≡ x)
in_push_cases x xs y h =
    elim (in_cases x xs (y ∷ []) h) [ inl a ↦ inl a | inr b ↦ elim b [ inl e ↦ inr e | inr n ↦ absurd n ] ]

pub in_push : {X : Type 0} (xs : List X) (y : X) → In y (xs ++ y ∷ [])
in_push xs y = in_right y xs (y ∷ []) (inl refl)

pub in_map : {X Y : Type 0} (f : X → Y) (x : X) (xs : List X) → In x xs → In (f x) (map f xs)
in_map f x [] h = absurd h
in_map f x (y ∷ xs) h = elim h [ inl e ↦ inl (ap f e) | inr m ↦ inr (in_map f x xs m) ]

pub from_map : {X Y : Type 0} (f : X → Y) (y : Y) (xs : List X) → In y (map f xs) → (x : X) × (In x xs × (f x ≡ y))
from_map f y [] h = absurd h
from_map f y (x ∷ xs) h =
    elim h [
      | inl e ↦ (x, (inl refl, e))
      | inr m ↦ let r : (z : _) × (In z xs × (f z ≡ y)) = from_map f y xs m in (r.0, (inr r.1.0, r.1.1))
    ]

pub map_same : {X Y : Type 0} (f g : X → Y) (xs : List X) → ((x : X) → In x xs → f x ≡ g x) → map f xs ≡ map g xs
map_same f g [] h = refl
map_same f g (x ∷ xs) h =
    let a : f x ≡ g x = h x (inl refl) in
    let b : map f xs ≡ map g xs = map_same f g xs (λ z m. h z (inr m)) in
    cc

pub map_map : {X Y Z : Type 0} (f : X → Y) (g : Y → Z) (xs : List X) → map g (map f xs) ≡ map (λ x. g (f x)) xs
map_map f g [] = refl
map_map f g (x ∷ xs) = ap (λ zs. g (f x) ∷ zs) (map_map f g xs)

pub map_itself : {X : Type 0} (f : X → X) (xs : List X) → ((x : X) → In x xs → f x ≡ x) → map f xs ≡ xs
map_itself f [] h = refl
map_itself f (x ∷ xs) h =
    let a : f x ≡ x = h x (inl refl) in
    let b : map f xs ≡ xs = map_itself f xs (λ z m. h z (inr m)) in
    cc

-- indices

pub in_at : {X : Type 0} (x : X) (xs : List X) → In x xs → (i : ℕ) × (slice_get xs i ≡ Some x)
in_at x [] h = absurd h
in_at x (y ∷ xs) h =
    elim h [ inl e ↦ (zero, ap (λ z. Some z) e) | inr m ↦ let r : (i : ℕ) × (slice_get xs i ≡ Some x) = in_at x xs m in (suc r.0, r.1) ]

pub at_in : {X : Type 0} (x : X) (xs : List X) (i : ℕ) → slice_get xs i ≡ Some x → In x xs
at_in x [] i h = absurd (cc)
at_in x (y ∷ xs) zero h = inl (cc)
at_in x (y ∷ xs) (suc i) h = inr (at_in x xs i h)

pub get-map : {X Y : Type 0} (f : X → Y) (x : X) (xs : List X) (i : ℕ) → slice_get xs i ≡ Some x → slice_get (map f xs) i ≡ Some (f x)
get-map f x [] i h = absurd (cc)
get-map f x (y ∷ xs) zero h = let e : y ≡ x = cc in ap (λ z. Some (f z)) e
get-map f x (y ∷ xs) (suc i) h = get-map f x xs i h

pub in_contains : {X : Type 0} (x : X) (xs : List X) → Contains xs x → In x xs
in_contains x [] h = absurd (omega (arith, h.1))
in_contains x (y ∷ xs) (zero, a, b) = inl b
in_contains x (y ∷ xs) (suc k, a, b) = inr (in_contains x xs (k, omega (arith, a), b))

pub contains_in : {X : Type 0} (x : X) (xs : List X) → In x xs → Contains xs x
contains_in x [] h = absurd h
contains_in x (y ∷ xs) h =
    elim h [
      | inl e ↦ (zero, omega arith, e)
      | inr m ↦ let r : Contains xs x = contains_in x xs m in (suc r.0, omega (arith, r.1), r.2)
    ]

pub in_get : {X : Type 0} (xs : List X) (i : ℕ) (d : X) → i < length xs → In (get_or xs i d) xs
in_get [] i d h = absurd (omega (arith, h))
in_get (x ∷ xs) zero d h = inl refl
in_get (x ∷ xs) (suc i) d h = inr (in_get xs i d (omega (arith, h)))

-- `slice_get` and `set`

pub get-set_same : {X : Type 0} (xs : List X) (i : ℕ) (x y : X) → slice_get xs i ≡ Some x → slice_get (set xs i y) i ≡ Some y
get-set_same [] i x y h = absurd (cc)
get-set_same (z ∷ xs) zero x y h = refl
get-set_same (z ∷ xs) (suc i) x y h = get-set_same xs i x y h

pub get-set_other : {X : Type 0} (xs : List X) (i j : ℕ) (y : X) → (i ≡ j → ⊥) → slice_get (set xs i y) j ≡ slice_get xs j
get-set_other [] i j y h = refl
get-set_other (z ∷ xs) zero zero y h = absurd (h refl)
get-set_other (z ∷ xs) zero (suc j) y h = refl
get-set_other (z ∷ xs) (suc i) zero y h = refl
get-set_other (z ∷ xs) (suc i) (suc j) y h = get-set_other xs i j y (λ e. h (ap suc e))

-- each of the elements stands before those after it

pub pairs_from : {X : Type 0} (R : X → X → Type 0) (pre : List X) (x y : X) (rest : List X) → AllPairs R (pre ++ x ∷ rest) → In y rest → R x y
pairs_from R [] x y rest h m =
    let c : Contains rest y = contains_in y rest m in
    let P : _ → Type 0 = λ z. R x z in
    subst P c.2 (h 0 (suc c.0) y (omega arith) (omega (arith, c.1)))
pairs_from R (z ∷ pre) x y rest h m = pairs_from R pre x y rest (λ i j d a b. h (suc i) (suc j) d (omega (arith, a)) (omega (arith, b))) m

pub pairs_front : {X : Type 0} (R : X → X → Type 0) (pre : List X) (x y : X) (rest : List X) → AllPairs R (pre ++ x ∷ rest) → In y pre → R y x
pairs_front R [] x y rest h m = absurd m
pairs_front R (z ∷ pre) x y rest h m =
    elim m [
      | inl same ↦
          let c : Contains (pre ++ x ∷ rest) x = contains_in x (pre ++ x ∷ rest) (in_right x pre (x ∷ rest) (inl refl)) in
          let P : _ → Type 0 = λ k. R y k in
          let Q : _ → Type 0 = λ k. R k (get_or (pre ++ x ∷ rest) c.0 x) in
          subst P c.2 (subst Q same (h 0 (suc c.0) x (omega arith) (omega (arith, c.1))))
      | inr rest' ↦ pairs_front R pre x y rest (λ i j d a b. h (suc i) (suc j) d (omega (arith, a)) (omega (arith, b))) rest'
    ]

-- `filter`

pub in_filter : {X : Type 0} (p : X → Bool) (x : X) (xs : List X) → In x xs → p x ≡ true → In x (filter p xs)
in_filter p x [] h t = absurd h
in_filter p x (y ∷ xs) h t =
    elim h [
      | inl e ↦ let k : p y ≡ true = ap p e ∙ t in subst (λ zs. In x zs) (sym (cond-true (p y) (y ∷ filter p xs) (filter p xs) k)) (inl e)
      | inr m ↦
          let r : In x (filter p xs) = in_filter p x xs m t in
          cond_both (p y) (y ∷ filter p xs) (filter p xs) (λ zs. In x zs) (λ _. inr r) (λ _. r)
    ]

pub from_filter : {X : Type 0} (p : X → Bool) (x : X) (xs : List X) → In x (filter p xs) → In x xs × (p x ≡ true)
from_filter p x [] h = absurd h
from_filter p x (y ∷ xs) h =
    cond_both (p y) (y ∷ filter p xs) (filter p xs) (λ zs. In x zs → In x (y ∷ xs) × (p x ≡ true))
    (λ t k. elim k [ inl e ↦ (inl e, sym (ap p e) ∙ t) | inr m ↦ let r : In x xs × (p x ≡ true) = from_filter p x xs m in (inr r.0, r.1) ])
    (λ _ m. let r : In x xs × (p x ≡ true) = from_filter p x xs m in (inr r.0, r.1))
    h

-- how many pass a test

abbrev pub count : {X : Type 0} → (X → Bool) → List X → ℕ
count p [] = 0
count p (x ∷ xs) = cond (p x) (count p xs + 1) (count p xs)

pub count_all : {X : Type 0} (p : X → Bool) (xs : List X) → count p xs ≤ length xs
count_all p [] = omega arith
count_all p (y ∷ xs) =
    cond_both (p y) (count p xs + 1) (count p xs) (λ n. n ≤ suc (length xs)) (λ _. omega (arith, count_all p xs)) (λ _. omega (arith, count_all p xs))

pub count_none : {X : Type 0} (p : X → Bool) (xs : List X) → count p xs ≤ 0 → (x : X) → In x xs → p x ≡ false
count_none p [] h x m = absurd m
count_none p (y ∷ xs) h x m =
    cond_both (p y) (count p xs + 1) (count p xs) (λ n. n ≤ 0 → p x ≡ false)
    (λ _ k. absurd (omega arith))
    (λ f k. elim m [ inl e ↦ sym (ap p e) ∙ f | inr n ↦ count_none p xs k x n ])
    h

pub count_more : {X : Type 0} (p q : X → Bool) (xs : List X) → ((x : X) → q x ≡ true → p x ≡ true) → count q xs ≤ count p xs
count_more p q [] h = omega arith
count_more p q (y ∷ xs) h =
    let more : count q xs ≤ count p xs = count_more p q xs h in
    cond_both (q y) (count q xs + 1) (count q xs) (λ n. n ≤ cond (p y) (count p xs + 1) (count p xs))
    (λ t. rw (cond-true (p y) (count p xs + 1) (count p xs) (h y t)) (omega arith))
    (λ f. cond_both (p y) (count p xs + 1) (count p xs) (λ n. count q xs ≤ n) (λ _. omega arith) (λ _. omega arith))

pub count_less : {X : Type 0} (p q : X → Bool) (xs : List X) (e : X) → In e xs → p e ≡ true → q e ≡ false → ((x : X) → q x ≡ true → p x ≡ true) → count q xs + 1 ≤ count p xs
count_less p q [] e m a b h = absurd m
count_less p q (y ∷ xs) e m a b h =
    elim m [
      | inl same ↦
          let more : count q xs ≤ count p xs = count_more p q xs h in
          let t : p y ≡ true = ap p same ∙ a in
          let f : q y ≡ false = ap q same ∙ b in
          rw (cond-true (p y) (count p xs + 1) (count p xs) t, cond-false (q y) (count q xs + 1) (count q xs) f) (omega arith)
      | inr n ↦
          let less : count q xs + 1 ≤ count p xs = count_less p q xs e n a b h in
          cond_both (q y) (count q xs + 1) (count q xs) (λ k. k + 1 ≤ cond (p y) (count p xs + 1) (count p xs))
          (λ t. rw (cond-true (p y) (count p xs + 1) (count p xs) (h y t)) (omega arith))
          (λ f. cond_both (p y) (count p xs + 1) (count p xs) (λ k. count q xs + 1 ≤ k) (λ _. omega arith) (λ _. omega arith))
    ]

-- what a read at an index gives
pub read_is : {X : Type 0} (xs : List X) (i : ℕ) (d x : X) → slice_get xs i ≡ Some x → get_or xs i d ≡ x
read_is [] i d x h = absurd (cc)
read_is (y ∷ xs) zero d x h = cc
read_is (y ∷ xs) (suc i) d x h = read_is xs i d x h

pub get_read : {X : Type 0} (xs : List X) (i : ℕ) (d : X) → i < length xs → slice_get xs i ≡ Some (get_or xs i d)
get_read [] i d h = absurd (omega (arith, h))
get_read (y ∷ xs) zero d h = refl
get_read (y ∷ xs) (suc i) d h = get_read xs i d (omega (arith, h))

pub get_within : {X : Type 0} (xs : List X) (i : ℕ) (x : X) → slice_get xs i ≡ Some x → i < length xs
get_within [] i x h = absurd (cc)
get_within (y ∷ xs) zero x h = omega arith
get_within (y ∷ xs) (suc i) x h = let l : i < length xs = get_within xs i x h in omega arith

pub get_some : {X : Type 0} (xs : List X) (i : ℕ) → i < length xs → (x : X) × (slice_get xs i ≡ Some x)
get_some [] i h = absurd (omega (arith, h))
get_some (y ∷ xs) zero h = (y, refl)
get_some (y ∷ xs) (suc i) h = get_some xs i (omega (arith, h))
