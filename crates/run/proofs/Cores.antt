-- What holds of cores, and of their states in time.
use Rattle.std.proofs.Common.{◌≡◌, ℕ, zero, suc, ◌+◌, ◌<◌, ◌≤◌, nat_lt, Bool, ◌||◌, List, [], ◌∷◌, ◌++◌, get_or, length, map, slice_index, All, Some, refl, sym, ◌∙◌, ap, subst, inl, inr, arith}
use Rattle.std.specs.Prelude.{is_some, slice_get}
use Rattle.std.specs.List.{list_all, list_any, range_with_len}
use Rattle.std.specs.Option.{option_map}
use Rattle.std.proofs.lemmas.List.{ext_get_or, get_or-map, length-map}
use Rattle.std.proofs.lemmas.List.FromFn.{length-range_with_len}
use Rattle.std.proofs.lemmas.List.Folds.{list_all-map}
use Rattle.std.proofs.lemmas.Option.{get_or_from_slice_get, slice_get-get_or, slice_get-map, slice_get_cases, slice_get_within}
use Rattle.bound_core.specs.TimedCore.{TimedCore, delayed}
use Rattle.bound_core.specs.NumberedCores.{NumberedCore, timed_of}
use Rattle.reference.specs.Limits.{cycle_limit}
use Rattle.reference.specs.ReferenceRun.{all_delayed}
use Rattle.reference.proofs.Delayed.{waited}
use Rattle.bound_records.specs.CoreRuns.{AreNumbered}

pub get_mapped : {A B : Type 0} (f : A → B) (xs : List A) (i : ℕ) (x : A) → slice_get xs i ≡ Some x → slice_get (map f xs) i ≡ Some (f x)
get_mapped f xs i x here = slice_get-map f xs i ∙ ap (option_map f) here

-- what holds of each core holds of all their states in time, and the other way round
pub all_timed : (P : TimedCore → Type 0) (cores : List NumberedCore) → ((i : ℕ) (c : NumberedCore) → slice_get cores i ≡ Some c → P c.timed) → All P (timed_of cores)
all_timed P cores each = λ k d below.
    let core : NumberedCore = record { number = 0; timed = d; spare = 0 } in
    let within : k < length cores = omega (arith, below, length-map cores (λ (c : NumberedCore). c.timed)) in
    subst P (sym (get_or-map (λ (c : NumberedCore). c.timed) cores k core d within)) (each k (get_or cores k core) (slice_get-get_or cores k core within))

pub each_timed : (P : TimedCore → Type 0) (cores : List NumberedCore) → All P (timed_of cores) → (i : ℕ) (c : NumberedCore) → slice_get cores i ≡ Some c → i < length cores → P c.timed
each_timed P cores all i c here below =
    let there = get_mapped (λ (x : NumberedCore). x.timed) cores i c here in
    subst P (get_or_from_slice_get (timed_of cores) i c.timed c.timed there) (all i c.timed (omega (arith, below, length-map cores (λ (x : NumberedCore). x.timed))))

pub each_clock : (most : ℕ) (cores : List NumberedCore) → All (λ c. c.clock ≤ most) (timed_of cores) → All (λ c. c.timed.clock ≤ most) cores
each_clock most cores all = λ k d below.
    let own = get_or-map (λ (c : NumberedCore). c.timed) cores k d d.timed below in
    subst (λ (t : TimedCore). t.clock ≤ most) own (all k d.timed (omega (arith, below, length-map cores (λ (c : NumberedCore). c.timed))))

-- ---- tests of cores

list_any_map : {X Y : Type 0} (test : X → Bool) (f : Y → X) (ys : List Y) → list_any test (map f ys) ≡ list_any (λ y. test (f y)) ys
list_any_map test f [] = refl
list_any_map test f (y ∷ ys) = ap (λ (rest : Bool). test (f y) || rest) (list_any_map test f ys)

pub halted_each : (cores : List NumberedCore) → list_all (λ c. is_some c.core.halted) (timed_of cores) ≡ list_all (λ c. is_some c.timed.core.halted) cores
halted_each cores = list_all-map (λ (c : TimedCore). is_some c.core.halted) (λ (c : NumberedCore). c.timed) cores

pub late_each : (cores : List NumberedCore) → list_any (λ c. nat_lt cycle_limit c.clock) (timed_of cores) ≡ list_any (λ c. nat_lt cycle_limit c.timed.clock) cores
late_each cores = list_any_map (λ (c : TimedCore). nat_lt cycle_limit c.clock) (λ (c : NumberedCore). c.timed) cores

-- ---- cores that wait one after the other

many_wait : (delays : List ℕ) (from : ℕ) (before after : List NumberedCore) → length after ≡ length before
    → ((k : ℕ) (d : NumberedCore) → k < length before → (get_or after k d).timed ≡ delayed (slice_index delays (from + k)) (get_or before k d).timed)
    → timed_of after ≡ waited delays from (timed_of before)
many_wait delays from [] [] same each = refl
many_wait delays from [] (y ∷ ys) same each = absurd (omega (arith, same))
many_wait delays from (x ∷ xs) [] same each = absurd (omega (arith, same))
many_wait delays from (x ∷ xs) (y ∷ ys) same each =
    let here : from + 0 ≡ from = omega arith in
    let first : y.timed ≡ delayed (slice_index delays from) x.timed = each 0 x (omega arith) ∙ ap (λ (n : ℕ). delayed (slice_index delays n) x.timed) here in
    let rest : timed_of ys ≡ waited delays (from + 1) (timed_of xs) =
    many_wait delays (from + 1) xs ys (omega (arith, same)) (λ k d below.
    let next : from + suc k ≡ from + 1 + k = omega arith in
    each (suc k) d (omega (arith, below)) ∙ ap (λ (n : ℕ). delayed (slice_index delays n) (get_or xs k d).timed) next)
    in
    ap (λ (c : TimedCore). c ∷ timed_of ys) first ∙ ap (λ (cs : List TimedCore). delayed (slice_index delays from) x.timed ∷ cs) rest

pub all_waited : (delays : List ℕ) (before after : List NumberedCore) → length after ≡ length before
    → ((k : ℕ) (d : NumberedCore) → k < length before → (get_or after k d).timed ≡ delayed (slice_index delays k) (get_or before k d).timed)
    → timed_of after ≡ all_delayed delays (timed_of before)
all_waited delays before after same each =
    many_wait delays 0 before after same (λ k d below.
    let here : k ≡ 0 + k = omega arith in
    each k d below ∙ ap (λ (n : ℕ). delayed (slice_index delays n) (get_or before k d).timed) here)

-- the same numbers, one by one
pub same_numbers : (before after : List NumberedCore) → length after ≡ length before → ((k : ℕ) (d : NumberedCore) → (get_or after k d).number ≡ (get_or before k d).number)
    → AreNumbered before → AreNumbered after
same_numbers before after same each numbered = λ i c here.
    let below : i < length before = omega (arith, slice_get_within after i c here, same) in
    let own : get_or after i c ≡ c = get_or_from_slice_get after i c c here in
    ap (λ (x : NumberedCore). x.number) (sym own) ∙ each i c ∙ numbered i (get_or before i c) (slice_get-get_or before i c below)

in_range : (from n i : ℕ) → i < n → get_or (range_with_len from n) i 0 ≡ from + i
in_range from zero i below = absurd (omega (arith, below))
in_range from (suc n) zero below = omega arith
in_range from (suc n) (suc i) below = omega (arith, in_range (from + 1) n i (omega (arith, below)))

-- numbers in order, from 0 on
pub numbered_from : (n : ℕ) (cores : List NumberedCore) → map (λ c. c.number) cores ≡ range_with_len 0 n → AreNumbered cores
numbered_from n cores in_order = λ i c here.
    let many : length cores ≡ n = sym (length-map cores (λ (x : NumberedCore). x.number)) ∙ ap length in_order ∙ length-range_with_len 0 n in
    let below : i < n = omega (arith, slice_get_within cores i c here, many) in
    let there : slice_get (range_with_len 0 n) i ≡ Some c.number = ap (λ (ns : List ℕ). slice_get ns i) (sym in_order) ∙ get_mapped (λ (x : NumberedCore). x.number) cores i c here in
    omega (arith, get_or_from_slice_get (range_with_len 0 n) i c.number 0 there, in_range 0 n i below)

-- and the other way round
pub numbers_are : (n : ℕ) (cores : List NumberedCore) → length cores ≡ n → AreNumbered cores → map (λ c. c.number) cores ≡ range_with_len 0 n
numbers_are n cores many numbered =
    let numbers : List ℕ = map (λ (x : NumberedCore). x.number) cores in
    let as_many : length numbers ≡ n = length-map cores (λ (x : NumberedCore). x.number) ∙ many in
    ext_get_or 0 numbers (range_with_len 0 n) (as_many ∙ sym (length-range_with_len 0 n)) (λ i below.
    let within : i < n = omega (arith, below, as_many) in
    elim (slice_get_cases cores i).1 [
      | inl at ↦
          let own : get_or numbers i 0 ≡ at.0.number = get_or_from_slice_get numbers i at.0.number 0 (get_mapped (λ (x : NumberedCore). x.number) cores i at.0 at.2) in
          omega (arith, own, numbered i at.0 at.2, in_range 0 n i within)
      | inr past ↦ absurd (omega (arith, past.0, many, within))
    ])

one_longer : (from n next : ℕ) → from + n ≡ next → range_with_len from (suc n) ≡ range_with_len from n ++ next ∷ []
one_longer from zero next is = let same : from ≡ next = omega (arith, is) in ap (λ (k : ℕ). k ∷ []) same
one_longer from (suc n) next is = ap (λ (ns : List ℕ). from ∷ ns) (one_longer (from + 1) n next (omega (arith, is)))

pub range_more : (from n next : ℕ) → from + n ≡ next → range_with_len from (n + 1) ≡ range_with_len from n ++ next ∷ []
range_more from n next is = let longer : n + 1 ≡ suc n = omega arith in ap (range_with_len from) longer ∙ one_longer from n next is
