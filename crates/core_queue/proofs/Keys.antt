-- The keys after one is taken in or out.
use Rattle.std.proofs.Common.{◌≡◌, ◌+◌, ◌<◌, ◌≤◌, ℕ, zero, suc, false, List, [], ◌∷◌, length, drop, get_or, Option, Some, None, inl, inr, refl, sym, ap, subst, ◌∙◌, arith, nat_lt, sum_by, unwrap_or, length-set}
use Rattle.std.specs.Prelude.{IfSome, cond, nat_eq, slice_set}
use Rattle.std.specs.List.{Contains, slice_get}
use Rattle.std.proofs.lemmas.Bool.{cases_eq, cases_lt, cond-false, cond-true, cond_both, eq-eqb, eqb-true, lt-ltb, ltb-true}
use Rattle.std.proofs.lemmas.Bool.Decides.{nat_tests}
use Rattle.std.proofs.lemmas.List.{set-set}
use Rattle.std.proofs.lemmas.List.Sums.{sum_by-cons}
use Rattle.std.proofs.lemmas.Option.{get_or_from_slice_get, slice_get-get_or, slice_get_within}
use Rattle.zs_num.specs.KeyOrder.{is_key_before}
use Rattle.zs_num.specs.declared.time.Key.{Key}
use Rattle.domain_queue.specs.Heap.{in_order}
use Rattle.domain_queue.specs.SortedKeys.{IsAscending, put}
use Rattle.domain_queue.proofs.Sorted.{IsAbove, ascending_put, ascending_rest, in_order-least, rising_in_order, rising_same, sum_by-in_order}
use Rattle.core_queue.specs.NextKeys.{with_next}
use Rattle.core_queue.specs.StartKeys.{keys_from, keys_of, never}

abbrev key_of : (start core : ℕ) → Key
key_of start core = record { start = start; number = core }

-- ---- places of a list

set_same : (xs : List ℕ) (i x : ℕ) → i < length xs → slice_get (slice_set xs i x) i ≡ Some x
set_same [] i x within = absurd (omega (arith, within))
set_same (y ∷ ys) zero x within = refl
set_same (y ∷ ys) (suc i) x within = set_same ys i x (omega (arith, within))

set_other : (xs : List ℕ) (i j x : ℕ) → (i ≡ j → ⊥) → slice_get (slice_set xs i x) j ≡ slice_get xs j
set_other [] i j x other = refl
set_other (y ∷ ys) zero zero x other = absurd (other refl)
set_other (y ∷ ys) zero (suc j) x other = refl
set_other (y ∷ ys) (suc i) zero x other = refl
set_other (y ∷ ys) (suc i) (suc j) x other = set_other ys i j x (λ e. other (ap suc e))

set_back : (xs : List ℕ) (i x y : ℕ) → slice_get xs i ≡ Some y → slice_set (slice_set xs i x) i y ≡ xs
set_back [] i x y at = refl
set_back (z ∷ zs) zero x y at = (let same : y ≡ z = cc in ap (λ w. w ∷ zs) same)
set_back (z ∷ zs) (suc i) x y at = ap (λ ws. z ∷ ws) (set_back zs i x y at)

-- ---- the keys of starts

not_less : (s : ℕ) → never ≤ s → nat_lt s never ≡ false
not_less s h = grind (arith, nat_tests)

with_key : (f : Key → ℕ) (n s : ℕ) (ss : List ℕ) → s < never → sum_by f (keys_from n (s ∷ ss)) ≡ f (key_of s n) + sum_by f (keys_from (n + 1) ss)
with_key f n s ss less =
    ap (sum_by f) (cond-true (nat_lt s never) (key_of s n ∷ keys_from (n + 1) ss) (keys_from (n + 1) ss) (lt-ltb s never less)) ∙ sum_by-cons f (key_of s n) (keys_from (n + 1) ss)

without_key : (n s : ℕ) (ss : List ℕ) → never ≤ s → keys_from n (s ∷ ss) ≡ keys_from (n + 1) ss
without_key n s ss not = cond-false (nat_lt s never) (key_of s n ∷ keys_from (n + 1) ss) (keys_from (n + 1) ss) (not_less s not)

-- the key of a core and those of the others
one_apart : (f : Key → ℕ) (n i : ℕ) (ss : List ℕ) (s w : ℕ) → slice_get ss i ≡ Some s → s < never → never ≤ w → sum_by f (keys_from n ss) ≡ f (key_of s (n + i)) + sum_by f (keys_from n (slice_set ss i w))
one_apart f n i [] s w at less none = absurd (cc)
one_apart f n zero (t ∷ ss) s w at less none =
    let same : s ≡ t = cc in
    let here : f (key_of t n) ≡ f (key_of s (n + 0)) = ap (λ z. f (key_of z n)) (sym same) ∙ ap (λ k. f (key_of s k)) (let e : n ≡ n + 0 = omega arith in e) in
    omega (arith, with_key f n t ss (omega (arith, same, less)), here, ap (sum_by f) (without_key n w ss none))
one_apart f n (suc i) (t ∷ ss) s w at less none =
    let rest : sum_by f (keys_from (n + 1) ss) ≡ f (key_of s (n + 1 + i)) + sum_by f (keys_from (n + 1) (slice_set ss i w)) = one_apart f (n + 1) i ss s w at less none in
    let here : f (key_of s (n + 1 + i)) ≡ f (key_of s (n + suc i)) = ap (λ k. f (key_of s k)) (let e : n + 1 + i ≡ n + suc i = omega arith in e) in
    elim (cases_lt t never) [
      | inl has ↦ omega (arith, with_key f n t ss has, with_key f n t (slice_set ss i w) has, rest, here)
      | inr not ↦ omega (arith, ap (sum_by f) (without_key n t ss not), ap (sum_by f) (without_key n t (slice_set ss i w) not), rest, here)
    ]

-- lists with the same keys are in the same order
same_order : (xs ys : List Key) → ((f : Key → ℕ) → sum_by f xs ≡ sum_by f ys) → in_order xs ≡ in_order ys
same_order xs ys h = rising_same (in_order xs) (in_order ys) (rising_in_order xs) (rising_in_order ys) (λ f. sum_by-in_order f xs ∙ (h f ∙ sym (sum_by-in_order f ys)))

first_apart : (i : ℕ) (ss : List ℕ) (s w : ℕ) → slice_get ss i ≡ Some s → s < never → never ≤ w → keys_of ss ≡ in_order (key_of s i ∷ keys_from 0 (slice_set ss i w))
first_apart i ss s w at less none =
    same_order (keys_from 0 ss) (key_of s i ∷ keys_from 0 (slice_set ss i w))
    (λ f. one_apart f 0 i ss s w at less none
    ∙ (ap (λ k. f (key_of s k) + sum_by f (keys_from 0 (slice_set ss i w))) (let e : 0 + i ≡ i = omega arith in e) ∙ sym (sum_by-cons f (key_of s i) (keys_from 0 (slice_set ss i w)))))

-- ---- a key is taken in

contains_put : (k : Key) (xs : List Key) → Contains (put k xs) k
contains_put k [] = (0, omega arith, refl)
contains_put k (x ∷ xs) =
    cond_both (is_key_before k x) (k ∷ x ∷ xs) (x ∷ put k xs) (λ zs. Contains zs k)
    (λ t. (0, omega arith, refl))
    (λ t. let c = contains_put k xs in (suc c.0, omega (arith, c.1), c.2))

-- that of a core that had none
module _ (ss : List ℕ) (key : Key) (within : key.number < length ss) (soon : key.start < never) (none : never ≤ get_or ss key.number 0) where
  abbrev old : ℕ
  old = get_or ss key.number 0

  pub put_there : keys_of (slice_set ss key.number key.start) ≡ put key (keys_of ss)
  put_there =
      first_apart key.number (slice_set ss key.number key.start) key.start old (set_same ss key.number key.start within) soon none
      ∙ ap (λ zs. put key (in_order (keys_from 0 zs))) (set_back ss key.number key.start old (slice_get-get_or ss key.number 0 within))

module _ (ss : List ℕ) (key : Key) (within : key.number < length ss) (soon : key.start < never) (new : (k : Key) → Contains (keys_of ss) k → k.number ≡ key.number → ⊥) where
  had_none : never ≤ get_or ss key.number 0
  had_none =
      elim (cases_lt (get_or ss key.number 0) never) [
        | inl has ↦
            absurd (new (key_of (get_or ss key.number 0) key.number)
            (subst (λ ks. Contains ks (key_of (get_or ss key.number 0) key.number))
            (sym (first_apart key.number ss (get_or ss key.number 0) never (slice_get-get_or ss key.number 0 within) has (omega arith)))
            (contains_put (key_of (get_or ss key.number 0) key.number) (in_order (keys_from 0 (slice_set ss key.number never))))) refl)
        | inr not ↦ not
      ]

  pub pushed : keys_of (slice_set ss key.number key.start) ≡ put key (keys_of ss)
  pushed = put_there ss key within soon had_none

  pub still_ascending : IsAscending (keys_of ss) → IsAscending (keys_of (slice_set ss key.number key.start))
  still_ascending a = subst IsAscending (sym pushed) (ascending_put key (keys_of ss) (λ m. new key m refl) a)

-- ---- the first key

pub none_from : (n : ℕ) (ss : List ℕ) → ((j t : ℕ) → slice_get ss j ≡ Some t → never ≤ t) → keys_from n ss ≡ []
none_from n [] h = refl
none_from n (s ∷ ss) h = without_key n s ss (h 0 s refl) ∙ none_from (n + 1) ss (λ j t at. h (suc j) t at)

pub none_in_time : (ss : List ℕ) (s : ℕ) → ((j t : ℕ) → slice_get ss j ≡ Some t → s ≤ t) → never ≤ s → keys_of ss ≡ []
none_in_time ss s least late = ap in_order (none_from 0 ss (λ j t at. omega (arith, late, least j t at)))

later_start : (t j s i : ℕ) → s < t → is_key_before (key_of t j) (key_of s i) ≡ false
later_start t j s i h = grind (arith, nat_tests)

later_core : (s j i : ℕ) → i ≤ j → is_key_before (key_of s j) (key_of s i) ≡ false
later_core s j i h = grind (arith, nat_tests)

above : (k : Key) (n : ℕ) (ss : List ℕ) → ((j t : ℕ) → slice_get ss j ≡ Some t → t < never → is_key_before (key_of t (n + j)) k ≡ false) → IsAbove k (keys_from n ss)
above k n [] h = tt
above k n (s ∷ ss) h =
    let rest : IsAbove k (keys_from (n + 1) ss) = above k (n + 1) ss (λ j t at less. subst (λ m. is_key_before (key_of t m) k ≡ false) (let e : n + suc j ≡ n + 1 + j = omega arith in e) (h (suc j) t at less)) in
    cond_both (nat_lt s never) (key_of s n ∷ keys_from (n + 1) ss) (keys_from (n + 1) ss) (λ zs. IsAbove k zs)
    (λ has. (subst (λ m. is_key_before (key_of s m) k ≡ false) (let e : n + 0 ≡ n = omega arith in e) (h 0 s refl (ltb-true s never has)), rest))
    (λ none. rest)

module _ (ss : List ℕ) (s i : ℕ) (has : s < never) (here : slice_get ss i ≡ Some s) (least : (j t : ℕ) → slice_get ss j ≡ Some t → s ≤ t) (first : (j t : ℕ) → j < i → slice_get ss j ≡ Some t → s < t) where
  within : i < length ss
  within = slice_get_within ss i s here

  not_before : (j t : ℕ) → slice_get ss j ≡ Some t → is_key_before (key_of t j) (key_of s i) ≡ false
  not_before j t at =
      elim (cases_lt s t) [
        | inl later ↦ later_start t j s i later
        | inr not ↦
            let same : s ≡ t = omega (arith, not, least j t at) in
            elim (cases_lt j i) [
              | inl early ↦ absurd (omega (arith, first j t early at, not))
              | inr behind ↦ subst (λ z. is_key_before (key_of z j) (key_of s i) ≡ false) same (later_core s j i behind)
            ]
      ]

  rest_above : IsAbove (key_of s i) (keys_from 0 (slice_set ss i never))
  rest_above = above (key_of s i) 0 (slice_set ss i never)
      (λ j t at less.
      elim (cases_eq i j) [
        | inl same ↦
            let gone : slice_get (slice_set ss i never) j ≡ Some never = subst (λ k. slice_get (slice_set ss i never) k ≡ Some never) same (set_same ss i never within) in
            let one : never ≡ t = cc in
            absurd (omega (arith, one, less))
        | inr other ↦ subst (λ m. is_key_before (key_of t m) (key_of s i) ≡ false) (let e : j ≡ 0 + j = omega arith in e) (not_before j t (sym (set_other ss i j never other) ∙ at))
      ])

  pub first_is : keys_of ss ≡ key_of s i ∷ keys_of (slice_set ss i never)
  first_is = first_apart i ss s never here has (omega arith) ∙ in_order-least (key_of s i) (keys_from 0 (slice_set ss i never)) rest_above

-- ---- the first key is replaced

-- 1 for the keys of a core
abbrev of : (core : ℕ) → Key → ℕ
of core k = cond (nat_eq k.number core) 1 0

of_it : (core : ℕ) (k : Key) → k.number ≡ core → of core k ≡ 1
of_it core k is = cond-true (nat_eq k.number core) 1 0 (eq-eqb k.number core is)

of_another : (core : ℕ) (k : Key) → (k.number ≡ core → ⊥) → of core k ≡ 0
of_another core k not = cond_both (nat_eq k.number core) 1 0 (λ z. z ≡ 0) (λ t. absurd (not (eqb-true k.number core t))) (λ f. refl)

counts : (core : ℕ) (ks : List Key) (i : ℕ) (k : Key) → slice_get ks i ≡ Some k → k.number ≡ core → 1 ≤ sum_by (of core) ks
counts core [] i k at is = absurd (cc)
counts core (x ∷ ks) zero k at is =
    let same : k ≡ x = cc in
    omega (arith, sum_by-cons (of core) x ks, of_it core x (sym (ap (λ (z : Key). z.number) same) ∙ is))
counts core (x ∷ ks) (suc i) k at is = omega (arith, sum_by-cons (of core) x ks, counts core ks i k at is)

none_of : (core n : ℕ) (ss : List ℕ) → ((j t : ℕ) → slice_get ss j ≡ Some t → n + j ≡ core → never ≤ t) → sum_by (of core) (keys_from n ss) ≡ 0
none_of core n [] h = refl
none_of core n (s ∷ ss) h =
    let rest : sum_by (of core) (keys_from (n + 1) ss) ≡ 0 = none_of core (n + 1) ss (λ j t at is. h (suc j) t at (omega (arith, is))) in
    elim (cases_lt s never) [
      | inl has ↦ omega (arith, with_key (of core) n s ss has, rest, of_another core (key_of s n) (λ is. omega (arith, has, h 0 s refl (omega (arith, is)))))
      | inr not ↦ ap (sum_by (of core)) (without_key n s ss not) ∙ rest
    ]

-- a key before which there is none of its core
head_put : (core : ℕ) (key k : Key) (ks : List Key) → key.number ≡ core → sum_by (of core) ks ≡ 0 → slice_get (put key ks) 0 ≡ Some k → k.number ≡ core → put key ks ≡ key ∷ ks
head_put core key k [] mine gone = λ at is. refl
head_put core key k (x ∷ ks) mine gone =
    cond_both (is_key_before key x) (key ∷ x ∷ ks) (x ∷ put key ks) (λ zs. slice_get zs 0 ≡ Some k → k.number ≡ core → zs ≡ key ∷ x ∷ ks)
    (λ t at is. refl)
    (λ f at is.
    let same : k ≡ x = cc in
    absurd (omega (arith, gone, sum_by-cons (of core) x ks, of_it core x (sym (ap (λ (z : Key). z.number) same) ∙ is))))

module _ (ss : List ℕ) (core : ℕ) (k : Key) (at : slice_get (keys_of ss) 0 ≡ Some k) (is : k.number ≡ core) where
  one_there : 1 ≤ sum_by (of core) (keys_from 0 ss)
  one_there = omega (arith, counts core (keys_of ss) 0 k at is, sum_by-in_order (of core) (keys_from 0 ss))

  pub in_leaves : core < length ss
  in_leaves = elim (cases_lt core (length ss)) [
    | inl less ↦ less
    | inr not ↦ absurd (omega (arith, one_there, none_of core 0 ss (λ j t there is. omega (arith, slice_get_within ss j t there, is, not))))
  ]

  abbrev start : ℕ
  start = get_or ss core 0

  there : slice_get ss core ≡ Some start
  there = slice_get-get_or ss core 0 in_leaves

  has : start < never
  has = elim (cases_lt start never) [
    | inl less ↦ less
    | inr not ↦ absurd (omega (arith, one_there, none_of core 0 ss (λ j t j_there is. omega (arith, not, ap (λ n. get_or ss n 0) (let e : j ≡ core = omega (arith, is) in e), get_or_from_slice_get ss j t 0 j_there))))
  ]

  abbrev pub rest : List ℕ
  rest = slice_set ss core never

  gone : get_or rest core 0 ≡ never
  gone = get_or_from_slice_get rest core never 0 (set_same ss core never in_leaves)

  no_more : sum_by (of core) (keys_of rest) ≡ 0
  no_more =
      sum_by-in_order (of core) (keys_from 0 rest)
      ∙ none_of core 0 rest (λ j t j_there is. omega (arith, gone, ap (λ n. get_or rest n 0) (let e : j ≡ core = omega (arith, is) in e), get_or_from_slice_get rest j t 0 j_there))

  split : keys_of ss ≡ put (key_of start core) (keys_of rest)
  split = first_apart core ss start never there has (omega arith)

  first_and_rest : keys_of ss ≡ key_of start core ∷ keys_of rest
  first_and_rest = split ∙ head_put core (key_of start core) k (keys_of rest) refl no_more (subst (λ ks. slice_get ks 0 ≡ Some k) split at) is

  keys_left : keys_of rest ≡ drop 1 (keys_of ss)
  keys_left = sym (ap (drop 1) first_and_rest)

  left_ascending : IsAscending (keys_of ss) → IsAscending (keys_of rest)
  left_ascending a = ascending_rest (key_of start core) (keys_of rest) (subst IsAscending first_and_rest a)

  module _ (s : ℕ) (soon : s < never) where
    one_more : keys_of (slice_set ss core s) ≡ put (key_of s core) (keys_of rest)
    one_more =
        ap keys_of (sym (set-set ss core never s))
        ∙ put_there rest (key_of s core) (omega (arith, in_leaves, length-set ss core never)) soon (omega (arith, gone))

    one_more_ascending : IsAscending (keys_of ss) → IsAscending (keys_of (slice_set ss core s))
    one_more_ascending a =
        subst IsAscending (sym one_more) (ascending_put (key_of s core) (keys_of rest) (λ m. omega (arith, no_more, counts core (keys_of rest) m.0 (key_of s core) (slice_get-get_or (keys_of rest) m.0 (key_of s core) m.1 ∙ ap Some m.2) refl)) (left_ascending a))

  pub settled : (next : Option ℕ) → IfSome next (λ s. s < never) → keys_of (slice_set ss core (unwrap_or next never)) ≡ with_next core next (drop 1 (keys_of ss))
  settled None soon = keys_left
  settled (Some s) soon = one_more s soon ∙ ap (put (key_of s core)) keys_left

  pub settled_ascending : (next : Option ℕ) → IfSome next (λ s. s < never) → IsAscending (keys_of ss) → IsAscending (keys_of (slice_set ss core (unwrap_or next never)))
  settled_ascending None soon a = left_ascending a
  settled_ascending (Some s) soon a = one_more_ascending s soon a
