-- Sums of what one field counts: over contributions, and over a core's counts.
use Rattle.std.proofs.Common.{◌≡◌, ℕ, ◌+◌, ◌==◌, Bool, true, false, cond, List, [], ◌∷◌, map, filter, fold, sum_by, refl, arith}
use Rattle.std.specs.Prelude.{slice_index}
use Rattle.std.proofs.lemmas.List.Sums.{sum_by-cons}
use Rattle.zs_num.specs.declared.entry.Entry.{Entry}
use Rattle.stats.specs.declared.counts.CoreCount.{CoreCount}
use Rattle.stats.specs.Counted.{core_plus, core_sum, delay_count, entry_count, no_core_count}
use Rattle.stats.specs.Counts.{Interval, core_count_in, core_total}
use Rattle.profile_rows.specs.declared.tally.Tally.{Tally}
use Rattle.profile_rows.specs.Tallies.{no_tally, plus, total}
use Rattle.profile.specs.declared.contribution.Contribution.{Contribution}
use Rattle.profile.specs.Contributions.{tally_of}

-- what an entry counts, if it passes the test
abbrev pub counted_if : {X : Type 0} → (X → Bool) → (X → ℕ) → X → ℕ
counted_if test count x = cond (test x) (count x) 0

module _ {X : Type 0} (test : X → Bool) (count : X → ℕ) where
  cond_if : (b : Bool) (x : X) (xs : List X) → sum_by count (cond b (x ∷ xs) xs) ≡ cond b (count x) 0 + sum_by count xs
  cond_if true x xs = sum_by-cons count x xs
  cond_if false x xs = omega arith

  -- a sum over those that pass a test is one over all, where the others count nothing
  pub sum_by-filter : (xs : List X) → sum_by count (filter test xs) ≡ sum_by (counted_if test count) xs
  sum_by-filter [] = refl
  sum_by-filter (x ∷ xs) = omega (arith, cond_if (test x) x (filter test xs), sum_by-filter xs, sum_by-cons (counted_if test count) x xs)

-- a sum over what a function makes of things
pub sum_by-map : {X Y : Type 0} (count : Y → ℕ) (make : X → Y) (xs : List X) → sum_by count (map make xs) ≡ sum_by (λ x. count (make x)) xs
sum_by-map count make [] = refl
sum_by-map count make (x ∷ xs) = omega (arith, sum_by-map count make xs, sum_by-cons count (make x) (map make xs), sum_by-cons (λ y. count (make y)) x xs)

-- sums of what is the same
pub sum_by-same : {X : Type 0} (f g : X → ℕ) → ((x : X) → f x ≡ g x) → (xs : List X) → sum_by f xs ≡ sum_by g xs
sum_by-same f g same [] = refl
sum_by-same f g same (x ∷ xs) = omega (arith, same x, sum_by-same f g same xs, sum_by-cons f x xs, sum_by-cons g x xs)

-- things that count nothing
pub none_counted : {X Y : Type 0} (count : Y → ℕ) (make : X → Y) → ((x : X) → count (make x) ≡ 0) → (xs : List X) → sum_by count (map make xs) ≡ 0
none_counted count make none [] = refl
none_counted count make none (x ∷ xs) = omega (arith, sum_by-cons count (make x) (map make xs), none x, none_counted count make none xs)

-- and nothing, where a test holds or not
pub zero_if : (test : Bool) (n : ℕ) → n ≡ 0 → cond test n 0 ≡ 0
zero_if true n none = none
zero_if false n none = refl

-- ---- tallies

-- a field of tallies that adds up
pub record IsSum (field : Tally → ℕ) : Type 0 where
  pub none : field no_tally ≡ 0
  pub both : (a b : Tally) → field (plus a b) ≡ field a + field b

module _ (field : Tally → ℕ) (is : IsSum field) where
  fold_field : (a : Tally) (ts : List Tally) → field (fold plus a ts) ≡ field a + sum_by field ts
  fold_field a [] = omega arith
  fold_field a (t ∷ ts) = omega (arith, fold_field (plus a t) ts, is.both a t, sum_by-cons field t ts)

  map_field : (cs : List Contribution) → sum_by field (map (λ (c : Contribution). c.tally) cs) ≡ sum_by (λ (c : Contribution). field c.tally) cs
  map_field [] = refl
  map_field (c ∷ cs) = omega (arith, map_field cs, sum_by-cons field c.tally (map (λ (c : Contribution). c.tally) cs), sum_by-cons (λ (c : Contribution). field c.tally) c cs)

  -- the field of a total
  pub field_of_total : (ts : List Tally) → field (total ts) ≡ sum_by field ts
  field_of_total ts = omega (arith, fold_field no_tally ts, is.none)

  -- the field of the tally of all
  pub field_of_all : (cs : List Contribution) → field (total (map (λ (c : Contribution). c.tally) cs)) ≡ sum_by (λ (c : Contribution). field c.tally) cs
  field_of_all cs = omega (arith, fold_field no_tally (map (λ (c : Contribution). c.tally) cs), is.none, map_field cs)

  -- and of those of some contributions
  pub field_of : (test : Contribution → Bool) (cs : List Contribution) → field (tally_of test cs) ≡ sum_by (counted_if test (λ c. field c.tally)) cs
  field_of test cs =
      omega (
        arith,
        fold_field no_tally (map (λ (c : Contribution). c.tally) (filter test cs)),
        is.none,
        map_field (filter test cs),
        sum_by-filter test (λ (c : Contribution). field c.tally) cs,
      )

-- ---- counts of a core

-- a field of a core's counts that adds up, and that counts so much of an access, and nothing of delays
pub record IsCount (field : CoreCount → ℕ) (count : Entry → ℕ) : Type 0 where
  pub none : field no_core_count ≡ 0
  pub both : (a b : CoreCount) → field (core_plus a b) ≡ field a + field b
  pub entry : (e : Entry) → field (entry_count e) ≡ count e
  pub delay : (cycles : ℕ) → field (delay_count cycles) ≡ 0

module _ (field : CoreCount → ℕ) (count : Entry → ℕ) (is : IsCount field count) where
  fold_count : (a : CoreCount) (cs : List CoreCount) → field (fold core_plus a cs) ≡ field a + sum_by field cs
  fold_count a [] = omega arith
  fold_count a (c ∷ cs) = omega (arith, fold_count (core_plus a c) cs, is.both a c, sum_by-cons field c cs)

  -- the field of a sum of counts
  pub count_of_sum : (cs : List CoreCount) → field (core_sum cs) ≡ sum_by field cs
  count_of_sum cs = omega (arith, fold_count no_core_count cs, is.none)

  entries_count : (es : List Entry) → sum_by field (map entry_count es) ≡ sum_by count es
  entries_count [] = refl
  entries_count (e ∷ es) = omega (arith, is.entry e, entries_count es, sum_by-cons field (entry_count e) (map entry_count es), sum_by-cons count e es)

  count_in : (i : Interval) (core : ℕ) → field (core_count_in i core) ≡ sum_by (counted_if (λ (e : Entry). e.core == core) count) i.entries
  count_in i core =
      let own = filter (λ (e : Entry). e.core == core) i.entries in
      let delay = delay_count (slice_index i.delays core) in
      omega (
        arith,
        fold_count no_core_count (delay ∷ map entry_count own),
        is.none,
        sum_by-cons field delay (map entry_count own),
        is.delay (slice_index i.delays core),
        entries_count own,
        sum_by-filter (λ (e : Entry). e.core == core) count i.entries,
      )

  counts_in : (intervals : List Interval) (core : ℕ) → sum_by field (map (λ (i : Interval). core_count_in i core) intervals) ≡ sum_by (λ (i : Interval). sum_by (counted_if (λ (e : Entry). e.core == core) count) i.entries) intervals
  counts_in [] core = refl
  counts_in (i ∷ intervals) core =
      omega (
        arith,
        count_in i core,
        counts_in intervals core,
        sum_by-cons field (core_count_in i core) (map (λ (x : Interval). core_count_in x core) intervals),
        sum_by-cons (λ (x : Interval). sum_by (counted_if (λ (e : Entry). e.core == core) count) x.entries) i intervals,
      )

  -- the field of a core's counts over intervals
  pub count_of : (intervals : List Interval) (core : ℕ)
      → field (core_total intervals core) ≡ sum_by (λ (i : Interval). sum_by (counted_if (λ (e : Entry). e.core == core) count) i.entries) intervals
  count_of intervals core =
      omega (arith, fold_count no_core_count (map (λ (i : Interval). core_count_in i core) intervals), is.none, counts_in intervals core)
