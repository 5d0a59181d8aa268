-- Membership in lists, by recursion, and what the machine's definitions do with lists.
use Rattle.std.proofs.Common.{◌≡◌, ◌+◌, ◌<◌, ◌≤◌, ℕ, zero, suc, Bool, true, false, not, ◌&&◌, ◌||◌, cond, min, List, [], ◌∷◌, ◌++◌, map, length, take, ◌⊎◌, Option, Some, None, is_some, slice_get, sym, ◌∙◌, ap, subst, refl, inl, inr, arith}
use Rattle.std.proofs.lemmas.Bool.{false≢true}
use Rattle.std.proofs.lemmas.Option.{same_Some, none-some, slice_get-get_or, get_or_from_slice_get}
use Rattle.std.specs.List.{Contains, filter, find, enumerate_from, list_all, flat_map}
use Rattle.std.specs.Option.{option_map_or}
use Rattle.weave_core.specs.DomainMachine.{least}

-- tests

pub both : (a b : Bool) → (a && b) ≡ true → (a ≡ true) × (b ≡ true)
both true b h = (refl, h)
both false b h = absurd (false≢true h)

pub and_true : (a b : Bool) → a ≡ true → b ≡ true → (a && b) ≡ true
and_true true b e f = f
and_true false b e f = absurd (false≢true e)

pub not_both : (a b : Bool) → (a && b) ≡ false → a ≡ true → b ≡ false
not_both true b h e = h
not_both false b h e = absurd (false≢true e)

pub either : (a b : Bool) → (a || b) ≡ true → (a ≡ true) ⊎ (b ≡ true)
either true b h = inl refl
either false b h = inr h

pub or_left : (a b : Bool) → a ≡ true → (a || b) ≡ true
or_left true b e = refl
or_left false b e = absurd (false≢true e)

pub or_right : (a b : Bool) → b ≡ true → (a || b) ≡ true
or_right true b e = refl
or_right false b e = e

pub neither : (a b : Bool) → (a || b) ≡ false → (a ≡ false) × (b ≡ false)
neither true b h = absurd (false≢true (sym h))
neither false b h = (refl, h)

pub not_true : (a : Bool) → not a ≡ true → a ≡ false
not_true true h = absurd (false≢true h)
not_true false h = refl

pub not_false : (a : Bool) → not a ≡ false → a ≡ true
not_false true h = refl
not_false false h = absurd (false≢true (sym h))

pub test_cases : (a : Bool) → (a ≡ true) ⊎ (a ≡ false)
test_cases true = inl refl
test_cases false = inr refl

pub some_at : {X : Type 0} (o : Option X) → is_some o ≡ true → (x : X) × (o ≡ Some x)
some_at None h = absurd (false≢true h)
some_at (Some x) h = (x, refl)

-- indices in the front of a list

pub take_get : {X : Type 0} (xs : List X) (k i : ℕ) (x : X) → i < k → slice_get xs i ≡ Some x → slice_get (take k xs) i ≡ Some x
take_get [] k i x l h = absurd (none-some x h)
take_get (y ∷ xs) zero i x l h = absurd (omega arith)
take_get (y ∷ xs) (suc k) zero x l h = h
take_get (y ∷ xs) (suc k) (suc i) x l h = take_get xs k i x (omega arith) h

pub get_take : {X : Type 0} (xs : List X) (k i : ℕ) (x : X) → slice_get (take k xs) i ≡ Some x → (i < k) × (slice_get xs i ≡ Some x)
get_take [] zero i x h = absurd (none-some x h)
get_take [] (suc k) i x h = absurd (none-some x h)
get_take (y ∷ xs) zero i x h = absurd (none-some x h)
get_take (y ∷ xs) (suc k) zero x h = (omega arith, h)
get_take (y ∷ xs) (suc k) (suc i) x h = let r : (i < k) × (slice_get xs i ≡ Some x) = get_take xs k i x h in (omega (arith, r.0), r.1)

pub get_below : {X : Type 0} (xs : List X) (i : ℕ) (x : X) → slice_get xs i ≡ Some x → i < length xs
get_below [] i x h = absurd (none-some x h)
get_below (y ∷ xs) zero x h = omega arith
get_below (y ∷ xs) (suc i) x h = omega (arith, get_below xs i x h)

pub get_there : {X : Type 0} (xs : List X) (i : ℕ) → i < length xs → (x : X) × (slice_get xs i ≡ Some x)
get_there [] i l = absurd (omega arith)
get_there (y ∷ xs) zero l = (y, refl)
get_there (y ∷ xs) (suc i) l = get_there xs i (omega arith)

-- membership

abbrev pub In : {X : Type 0} → X → List X → Type 0
In x [] = ⊥
In x (y ∷ ys) = (y ≡ x) ⊎ In x ys

pub in_left : {X : Type 0} (x : X) (xs ys : List X) → In x xs → In x (xs ++ ys)
in_left x [] ys h = absurd h
in_left x (y ∷ xs) ys h = elim h [ inl e ↦ inl e | inr m ↦ inr (in_left x xs ys m) ]

pub in_right : {X : Type 0} (x : X) (xs ys : List X) → In x ys → In x (xs ++ ys)
in_right x [] ys h = h
in_right x (y ∷ xs) ys h = inr (in_right x xs ys h)

pub in_cases : {X : Type 0} (x : X) (xs ys : List X) → In x (xs ++ ys) → In x xs ⊎ In x ys
in_cases x [] ys h = inr h
in_cases x (y ∷ xs) ys h =
    elim h [ inl e ↦ inl (inl e) | inr m ↦ elim (in_cases x xs ys m) [ inl a ↦ inl (inr a) | inr b ↦ inr b ] ]

pub in_map : {X Y : Type 0} (f : X → Y) (x : X) (xs : List X) → In x xs → In (f x) (map f xs)
in_map f x [] h = absurd h
in_map f x (y ∷ xs) h = elim h [ inl e ↦ inl (ap f e) | inr m ↦ inr (in_map f x xs m) ]

pub in_at : {X : Type 0} (x : X) (xs : List X) → In x xs → (i : ℕ) × (slice_get xs i ≡ Some x)
in_at x [] h = absurd h
in_at x (y ∷ xs) h =
    elim h [ inl e ↦ (zero, ap (λ z. Some z) e) | inr m ↦ let r : (i : ℕ) × (slice_get xs i ≡ Some x) = in_at x xs m in (suc r.0, r.1) ]

pub at_in : {X : Type 0} (x : X) (xs : List X) (i : ℕ) → slice_get xs i ≡ Some x → In x xs
at_in x [] i h = absurd (none-some x h)
at_in x (y ∷ xs) zero h = inl (same_Some y x h)
at_in x (y ∷ xs) (suc i) h = inr (at_in x xs i h)

pub in_filter : {X : Type 0} (test : X → Bool) (x : X) (xs : List X) → In x xs → test x ≡ true → In x (filter test xs)
in_filter test x [] h p = absurd h
in_filter test x (y ∷ xs) h p = by_test (λ m. in_filter test x xs m p) (test y) refl
  where
    by_test : (In x xs → In x (filter test xs)) → (t : Bool) → test y ≡ t → In x (cond t (y ∷ filter test xs) (filter test xs))
    by_test rest true e = elim h [ inl s ↦ inl s | inr m ↦ inr (rest m) ]
    by_test rest false e = elim h [ inl s ↦ absurd (false≢true (sym e ∙ (ap test s ∙ p))) | inr m ↦ rest m ]

pub from_filter : {X : Type 0} (test : X → Bool) (x : X) (xs : List X) → In x (filter test xs) → In x xs × (test x ≡ true)
from_filter test x [] h = absurd h
from_filter test x (y ∷ xs) h = by_test (from_filter test x xs) (test y) refl h
  where
    by_test : (In x (filter test xs) → In x xs × (test x ≡ true)) → (t : Bool) → test y ≡ t → In x (cond t (y ∷ filter test xs) (filter test xs))
        → In x (y ∷ xs) × (test x ≡ true)
    by_test rest true e m = elim m [ inl s ↦ (inl s, ap test (sym s) ∙ e) | inr m ↦ (inr (rest m).0, (rest m).1) ]
    by_test rest false e m = (inr (rest m).0, (rest m).1)

pub find_some : {X : Type 0} (test : X → Bool) (xs : List X) (x : X) → find test xs ≡ Some x → In x xs × (test x ≡ true)
find_some test [] x h = absurd (none-some x h)
find_some test (y ∷ xs) x h = by_test (find_some test xs x) (test y) refl h
  where
    by_test : (find test xs ≡ Some x → In x xs × (test x ≡ true)) → (t : Bool) → test y ≡ t → cond t (Some y) (find test xs) ≡ Some x
        → In x (y ∷ xs) × (test x ≡ true)
    by_test rest true e h = let s : y ≡ x = same_Some y x h in (inl s, ap test (sym s) ∙ e)
    by_test rest false e h = (inr (rest h).0, (rest h).1)

pub find_in : {X : Type 0} (test : X → Bool) (xs : List X) (x : X) → In x xs → test x ≡ true → is_some (find test xs) ≡ true
find_in test [] x h p = absurd h
find_in test (y ∷ xs) x h p = by_test (λ m. find_in test xs x m p) (test y) refl
  where
    by_test : (In x xs → is_some (find test xs) ≡ true) → (t : Bool) → test y ≡ t → is_some (cond t (Some y) (find test xs)) ≡ true
    by_test rest true e = refl
    by_test rest false e = elim h [ inl s ↦ absurd (false≢true (sym e ∙ (ap test s ∙ p))) | inr m ↦ rest m ]

-- numbered lists

enum_at : {X : Type 0} (n : ℕ) (xs : List X) (i : ℕ) (x : X) (m : ℕ) → m ≡ n + i → slice_get xs i ≡ Some x → In (m, x) (enumerate_from n xs)
enum_at n [] i x m e h = absurd (none-some x h)
enum_at {X} n (y ∷ xs) zero x m e h =
    let same : n ≡ m = omega (arith, e) in
    inl (ap (λ (z : ℕ). (z, y)) same ∙ ap (λ (z : X). (m, z)) (same_Some y x h))
enum_at n (y ∷ xs) (suc i) x m e h = inr (enum_at (n + 1) xs i x m (omega (arith, e)) h)

pub in_enum : {X : Type 0} (xs : List X) (i : ℕ) (x : X) → slice_get xs i ≡ Some x → In (i, x) (enumerate_from 0 xs)
in_enum xs i x h = enum_at 0 xs i x i (omega arith) h

at_enum : {X : Type 0} (n : ℕ) (xs : List X) (at : ℕ × X) → In at (enumerate_from n xs) → (i : ℕ) × ((at.0 ≡ n + i) × (slice_get xs i ≡ Some at.1))
at_enum n [] at h = absurd h
at_enum {X} n (y ∷ xs) at h =
    elim h [
      | inl e ↦
          let same : n ≡ at.0 = ap (λ (z : ℕ × X). z.0) e in
          let second : y ≡ at.1 = ap (λ (z : ℕ × X). z.1) e in
          (zero, (omega (arith, same), ap (λ z. Some z) second))
      | inr m ↦
          let r : (i : ℕ) × ((at.0 ≡ (n + 1) + i) × (slice_get xs i ≡ Some at.1)) = at_enum (n + 1) xs at m in
          (suc r.0, (omega (arith, r.1.0), r.1.1))
    ]

pub from_enum : {X : Type 0} (xs : List X) (at : ℕ × X) → In at (enumerate_from 0 xs) → slice_get xs at.0 ≡ Some at.1
from_enum xs at h =
    let r : (i : ℕ) × ((at.0 ≡ 0 + i) × (slice_get xs i ≡ Some at.1)) = at_enum 0 xs at h in
    let same : at.0 ≡ r.0 = omega (arith, r.1.0) in
    ap (slice_get xs) same ∙ r.1.1

-- every element passes

pub all_in : {X : Type 0} (test : X → Bool) (xs : List X) (x : X) → list_all test xs ≡ true → In x xs → test x ≡ true
all_in test [] x a h = absurd h
all_in test (y ∷ xs) x a h =
    let r = both (test y) (list_all test xs) a in
    elim h [ inl e ↦ ap test (sym e) ∙ r.0 | inr m ↦ all_in test xs x r.1 m ]

pub all_from : {X : Type 0} (test : X → Bool) (xs : List X) → ((x : X) → In x xs → test x ≡ true) → list_all test xs ≡ true
all_from test [] h = refl
all_from test (y ∷ xs) h = and_true (test y) (list_all test xs) (h y (inl refl)) (all_from test xs (λ x m. h x (inr m)))

pub one_fails : {X : Type 0} (test : X → Bool) (xs : List X) → list_all test xs ≡ false → (x : X) × (In x xs × (test x ≡ false))
one_fails test [] h = absurd (false≢true (sym h))
one_fails test (y ∷ xs) h =
    elim (test_cases (test y)) [
      | inl t ↦
          let r : (x : _) × (In x xs × (test x ≡ false)) = one_fails test xs (not_both (test y) (list_all test xs) h t) in
          (r.0, (inr r.1.0, r.1.1))
      | inr f ↦ (y, (inl refl, f))
    ]

-- the least of some numbers

least_upto : (n : ℕ) (o : Option ℕ) → option_map_or (min n) o n ≤ n
least_upto n None = omega arith
least_upto n (Some m) = omega arith

pub least_le : (xs : List ℕ) (v : ℕ) → In v xs → (l : ℕ) × ((least xs ≡ Some l) × (l ≤ v))
least_le [] v h = absurd h
least_le (n ∷ ns) v h =
    elim h [
      | inl e ↦ (option_map_or (min n) (least ns) n, (refl, omega (arith, e, least_upto n (least ns))))
      | inr m ↦
          let r : (l : ℕ) × ((least ns ≡ Some l) × (l ≤ v)) = least_le ns v m in
          (min n r.0, (ap (λ (o : Option ℕ). Some (option_map_or (min n) o n)) r.1.0, omega (arith, r.1.1)))
    ]

pub least_above : (xs : List ℕ) (l low : ℕ) → least xs ≡ Some l → ((v : ℕ) → In v xs → low ≤ v) → low ≤ l
least_above [] l low h each = absurd (none-some l h)
least_above (n ∷ ns) l low h each = by_rest (least ns) (λ m e. least_above ns m low e (λ v i. each v (inr i))) (same_Some _ l h)
  where
    by_rest : (o : Option ℕ) → ((m : ℕ) → o ≡ Some m → low ≤ m) → option_map_or (min n) o n ≡ l → low ≤ l
    by_rest None rest e = omega (arith, e, each n (inl refl))
    by_rest (Some m) rest e = omega (arith, e, each n (inl refl), rest m refl)

-- pieces joined

pub in_flat_map : {X Y : Type 0} (f : X → List Y) (xs : List X) (x : X) (y : Y) → In x xs → In y (f x) → In y (flat_map f xs)
in_flat_map f [] x y h m = absurd h
in_flat_map {X} {Y} f (z ∷ xs) x y h m =
    elim h [
      | inl e ↦ in_left y (f z) (flat_map f xs) (subst (λ (w : X). In y (f w)) (sym e) m)
      | inr n ↦ in_right y (f z) (flat_map f xs) (in_flat_map f xs x y n m)
    ]

pub from_flat_map : {X Y : Type 0} (f : X → List Y) (xs : List X) (y : Y) → In y (flat_map f xs) → (x : X) × (In x xs × In y (f x))
from_flat_map f [] y h = absurd h
from_flat_map f (z ∷ xs) y h =
    elim (in_cases y (f z) (flat_map f xs) h) [
      | inl m ↦ (z, (inl refl, m))
      | inr m ↦ let r : (x : _) × (In x xs × In y (f x)) = from_flat_map f xs y m in (r.0, (inr r.1.0, r.1.1))
    ]

-- an option that has a value which passes
pub finding_option : {X : Type 0} (o : Option X) (test : X → Bool) → option_map_or test o false ≡ true → (x : X) × ((o ≡ Some x) × (test x ≡ true))
finding_option None test h = absurd (false≢true h)
finding_option (Some x) test h = (x, (refl, h))

-- membership as std has it

pub contained : {X : Type 0} (xs : List X) (x : X) → Contains xs x → (i : ℕ) × (slice_get xs i ≡ Some x)
contained xs x h = (h.0, slice_get-get_or xs h.0 x h.1 ∙ ap (λ z. Some z) h.2)

pub contains : {X : Type 0} (xs : List X) (i : ℕ) (x : X) → slice_get xs i ≡ Some x → Contains xs x
contains xs i x h = (i, get_below xs i x h, get_or_from_slice_get xs i x x h)

pub last_at : {X : Type 0} (zs : List X) (z : X) → slice_get (zs ++ z ∷ []) (length zs) ≡ Some z
last_at [] z = refl
last_at (w ∷ zs) z = last_at zs z

pub last_same : {X : Type 0} (xs : List X) (x y : X) → xs ++ x ∷ [] ≡ xs ++ y ∷ [] → x ≡ y
last_same {X} xs x y h =
    same_Some x y (sym (last_at xs x) ∙ (ap (λ (zs : List X). slice_get zs (length xs)) h ∙ last_at xs y))
