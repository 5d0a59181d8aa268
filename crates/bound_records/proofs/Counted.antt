-- What accesses count.
use Rattle.std.proofs.Common.{◌≡◌, ℕ, ◌+◌, ◌^◌, ◌<◌, ◌≤◌, Bool, true, false, List, [], ◌∷◌, ◌++◌, length, map, fold, refl, subst, arith}
use Rattle.zs_num.specs.declared.entry.Entry.{Entry}
use Rattle.stats.specs.declared.counts.CoreCount.{CoreCount}
use Rattle.stats.specs.Counted.{core_plus, entry_count, no_core_count, one_if}
use Rattle.stats.specs.CountsFit.{CoreFits}
use Rattle.stats.specs.Passes.{with_access}
use Rattle.bound_records.specs.Counted.{count_of}

abbrev sum_from : CoreCount → List Entry → CoreCount
sum_from c entries = fold core_plus c (map entry_count entries)

more_from : (c : CoreCount) (entries : List Entry) (e : Entry) → sum_from c (entries ++ e ∷ []) ≡ with_access (sum_from c entries) e
unfolding core_plus
more_from c [] e = refl
more_from c (x ∷ entries) e = more_from (core_plus c (entry_count x)) entries e

-- an access more
pub count_more : (entries : List Entry) (e : Entry) → count_of (entries ++ e ∷ []) ≡ with_access (count_of entries) e
count_more entries e = more_from no_core_count entries e

-- of so many accesses no more are counted
record IsFew (n : ℕ) (c : CoreCount) : Type 0 where
  pub delay : c.delay ≤ n
  pub loads : c.loads ≤ n
  pub stores : c.stores ≤ n
  pub atomics : c.atomics ≤ n
  pub fetches : c.fetches ≤ n
  pub hits : c.hits ≤ n
  pub upgrades : c.upgrades ≤ n
  pub l2hits : c.l2hits ≤ n
  pub misses : c.misses ≤ n

one_more : (m n : ℕ) (b : Bool) → m ≤ n → m + one_if b ≤ n + 1
one_more m n true few = omega (arith, few)
one_more m n false few = omega (arith, few)

few_more : (n : ℕ) (c : CoreCount) (e : Entry) → IsFew n c → IsFew (n + 1) (core_plus c (entry_count e))
unfolding core_plus entry_count
few_more n c e few = record {
  delay = (let d = few.delay in omega (arith, d));
  loads = one_more c.loads n _ few.loads;
  stores = one_more c.stores n _ few.stores;
  atomics = one_more c.atomics n _ few.atomics;
  fetches = one_more c.fetches n _ few.fetches;
  hits = one_more c.hits n _ few.hits;
  upgrades = one_more c.upgrades n _ few.upgrades;
  l2hits = one_more c.l2hits n _ few.l2hits;
  misses = one_more c.misses n _ few.misses;
}

few_none : IsFew 0 no_core_count
few_none = record {
  delay = omega arith;
  loads = omega arith;
  stores = omega arith;
  atomics = omega arith;
  fetches = omega arith;
  hits = omega arith;
  upgrades = omega arith;
  l2hits = omega arith;
  misses = omega arith;
}

few_all : (n : ℕ) (c : CoreCount) (entries : List Entry) → IsFew n c → (m : ℕ) → m ≡ n + length entries → IsFew m (sum_from c entries)
few_all n c [] few m is = let same : n ≡ m = omega (arith, is) in subst (λ (k : ℕ). IsFew k c) same few
few_all n c (e ∷ entries) few m is = few_all (n + 1) (core_plus c (entry_count e)) entries (few_more n c e few) m (omega (arith, is))

-- one more fits
pub more_fits : (entries : List Entry) (e : Entry) → length entries < 2 ^ 32 → CoreFits (with_access (count_of entries) e)
more_fits entries e short =
    let few : IsFew (length entries + 1) (core_plus (count_of entries) (entry_count e)) = few_more (length entries) (count_of entries) e (few_all 0 no_core_count entries few_none (length entries) (omega arith)) in
    record {
      delay = (let h = few.delay in omega (arith, h, short));
      loads = (let h = few.loads in omega (arith, h, short));
      stores = (let h = few.stores in omega (arith, h, short));
      atomics = (let h = few.atomics in omega (arith, h, short));
      fetches = (let h = few.fetches in omega (arith, h, short));
      hits = (let h = few.hits in omega (arith, h, short));
      upgrades = (let h = few.upgrades in omega (arith, h, short));
      l2hits = (let h = few.l2hits in omega (arith, h, short));
      misses = (let h = few.misses in omega (arith, h, short));
    }
