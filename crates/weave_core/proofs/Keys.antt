-- The keys of a queue after a push and a pop.
use Rattle.std.proofs.Common.{◌≡◌, ◌+◌, ℕ, suc, Bool, true, false, cond, List, [], ◌∷◌, length, drop, get_or, ◌⊎◌, Some, slice_get, sym, ◌∙◌, subst, refl, inl, inr, arith}
use Rattle.std.proofs.lemmas.Bool.{false≢true}
use Rattle.std.proofs.lemmas.Bool.Decides.{nat_tests}
use Rattle.std.proofs.lemmas.Option.{same_Some, none-some, get_or_from_slice_get}
use Rattle.std.specs.List.{Contains}
use Rattle.zs_num.specs.KeyOrder.{is_key_before}
use Rattle.zs_num.specs.declared.time.Key.{Key}
use Rattle.domain_queue.specs.SortedKeys.{IsAscending, put}
use Rattle.weave_core.proofs.Lists.{In, at_in, contained, contains, get_below, in_at}

pub not_both : (k x : Key) → is_key_before k x ≡ true → is_key_before x k ≡ false
not_both k x h = grind (arith, nat_tests)

pub not_itself : (k : Key) → is_key_before k k ≡ false
not_itself k = grind (arith, nat_tests)

-- membership

pub has_in : (keys : List Key) (k : Key) → Contains keys k → In k keys
has_in keys k h = let r : (i : ℕ) × (slice_get keys i ≡ Some k) = contained keys k h in at_in k keys r.0 r.1

pub in_has : (keys : List Key) (k : Key) → In k keys → Contains keys k
in_has keys k h = let r : (i : ℕ) × (slice_get keys i ≡ Some k) = in_at k keys h in contains keys r.0 k r.1

-- a push

pub put_cases : (k x : Key) (keys : List Key) → In x (put k keys) → (k ≡ x) ⊎ In x keys
put_cases k x [] h = elim h [ inl e ↦ inl e | inr m ↦ absurd m ]
put_cases k x (y ∷ keys) h = by_test (put_cases k x keys) (is_key_before k y) h
  where
    by_test : (In x (put k keys) → (k ≡ x) ⊎ In x keys) → (t : Bool) → In x (cond t (k ∷ y ∷ keys) (y ∷ put k keys)) → (k ≡ x) ⊎ In x (y ∷ keys)
    by_test rest true m = m
    by_test rest false m = elim m [ inl e ↦ inr (inl e) | inr n ↦ elim (rest n) [ inl e ↦ inl e | inr o ↦ inr (inr o) ] ]

pub put_new : (k : Key) (keys : List Key) → In k (put k keys)
put_new k [] = inl refl
put_new k (y ∷ keys) = by_test (put_new k keys) (is_key_before k y)
  where
    by_test : In k (put k keys) → (t : Bool) → In k (cond t (k ∷ y ∷ keys) (y ∷ put k keys))
    by_test rest true = inl refl
    by_test rest false = inr rest

pub put_old : (k x : Key) (keys : List Key) → In x keys → In x (put k keys)
put_old k x [] h = absurd h
put_old k x (y ∷ keys) h = by_test (put_old k x keys) (is_key_before k y)
  where
    by_test : (In x keys → In x (put k keys)) → (t : Bool) → In x (cond t (k ∷ y ∷ keys) (y ∷ put k keys))
    by_test rest true = inr h
    by_test rest false = elim h [ inl e ↦ inl e | inr m ↦ inr (rest m) ]

pub length-put : (k : Key) (keys : List Key) → length (put k keys) ≡ length keys + 1
length-put k [] = refl
length-put k (y ∷ keys) = by_test (length-put k keys) (is_key_before k y)
  where
    by_test : length (put k keys) ≡ length keys + 1 → (t : Bool) → length (cond t (k ∷ y ∷ keys) (y ∷ put k keys)) ≡ length (y ∷ keys) + 1
    by_test rest true = omega arith
    by_test rest false = omega (arith, rest)

-- a pop

pub rest_in : (x : Key) (keys : List Key) → In x (drop 1 keys) → In x keys
rest_in x [] h = h
rest_in x (y ∷ keys) h = inr h

pub first_or_rest : (f x : Key) (keys : List Key) → slice_get keys 0 ≡ Some f → In x keys → (f ≡ x) ⊎ In x (drop 1 keys)
first_or_rest f x [] e h = absurd h
first_or_rest f x (y ∷ keys) e h = elim h [ inl s ↦ inl (sym (same_Some y f e) ∙ s) | inr m ↦ inr m ]

pub first_in : (f : Key) (keys : List Key) → slice_get keys 0 ≡ Some f → In f keys
first_in f keys e = at_in f keys 0 e

pub length-rest : (f : Key) (keys : List Key) → slice_get keys 0 ≡ Some f → length keys ≡ length (drop 1 keys) + 1
length-rest f [] e = absurd (none-some f e)
length-rest f (y ∷ keys) e = omega arith

pub first_before : (f x : Key) (keys : List Key) → IsAscending keys → slice_get keys 0 ≡ Some f → In x (drop 1 keys) → is_key_before f x ≡ true
first_before f x [] a e h = absurd h
first_before f x (y ∷ keys) a e h =
    let r : (i : ℕ) × (slice_get keys i ≡ Some x) = in_at x keys h in
    let b : is_key_before y (get_or keys r.0 y) ≡ true = a 0 (suc r.0) y (omega arith) (omega (arith, get_below keys r.0 x r.1)) in
    let s : y ≡ f = same_Some y f e in
    let t : get_or keys r.0 y ≡ x = get_or_from_slice_get keys r.0 x y r.1 in
    subst (λ (z : Key). is_key_before z x ≡ true) s (subst (λ (z : Key). is_key_before y z ≡ true) t b)

pub first_least : (f x : Key) (keys : List Key) → IsAscending keys → slice_get keys 0 ≡ Some f → In x keys → is_key_before x f ≡ false
first_least f x keys a e h =
    elim (first_or_rest f x keys e h) [
      | inl s ↦ subst (λ (z : Key). is_key_before z f ≡ false) s (not_itself f)
      | inr m ↦ not_both f x (first_before f x keys a e m)
    ]

-- what comes after the first isn't the first
pub rest_apart : (f x : Key) (keys : List Key) → IsAscending keys → slice_get keys 0 ≡ Some f → In x (drop 1 keys) → f ≡ x → ⊥
rest_apart f x keys a e h same =
    let b : is_key_before f x ≡ true = first_before f x keys a e h in
    false≢true (sym (not_itself f) ∙ subst (λ (z : Key). is_key_before f z ≡ true) (sym same) b)
