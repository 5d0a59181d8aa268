-- Addresses that have no count.
use Rattle.std.proofs.Common.{◌≡◌, ℕ, zero, suc, ◌+◌, ◌-◌, ◌*◌, ◌/◌, ◌%◌, ◌<◌, ◌≤◌, ◌^◌, Bool, true, false, Option, None, Some, ◌⊎◌, inl, inr, refl, sym, ◌∙◌, ap, arith, tests}
use Rattle.std.specs.Prelude.{nat_le, nat_lt, if◌then◌else◌}
use Rattle.std.proofs.lemmas.Bool.{cases_lt}
use Rattle.sparse_table.specs.ByCore.{IsNextSet, value_at}
use Rattle.sparse_table.specs.Next.{IsNextIn, earlier}
use Rattle.execution_counts.specs.declared.stretch.Stretch.{Stretch}
use Rattle.execution_counts.specs.Counted.{AreSound, Counts, count_of, counted, no_stretch, sum_below, times_as, times_beyond}
use Rattle.execution_counts.proofs.Counting.{place_as}
use Rattle.execution_counts.proofs.Sums.{sum_has, sum_none, sum_same}

-- what tests tell
less : (a b : ℕ) → nat_lt a b ≡ true → a < b
less a b is = grind (arith, tests, is)

no_less : (a b : ℕ) → nat_lt a b ≡ false → b ≤ a
no_less a b is = grind (arith, tests, is)

no_more : (a b : ℕ) → nat_le a b ≡ true → a ≤ b
no_more a b is = grind (arith, tests, is)

module _ (singles : ℕ → ℕ) (stretches : ℕ → Stretch) where
  -- what is in no table has no count
  none_of : (n : ℕ) → singles n ≡ 0 → ((k : ℕ) → k < 128 → times_as stretches n k ≡ 0) → count_of singles stretches n ≡ 0
  none_of n alone together =
      let none : sum_below (times_as stretches n) 128 ≡ 0 = sum_same (times_as stretches n) (λ k. 0) 128 together ∙ sum_none (λ k. 0) (λ k. refl) 128 in
      omega (arith, alone, none)

  -- and what has none is in no stretch
  never_as : (n j : ℕ) → j < 128 → count_of singles stretches n ≡ 0 → times_as stretches n j ≡ 0
  never_as n j few none = omega (arith, none, sum_has (times_as stretches n) j 128 few)

  -- of the one at a place of the stretch that begins so far before it
  as_place : (n k : ℕ) → (4 * k ≤ n → k < (stretches (n - 4 * k)).count → (stretches (n - 4 * k)).times ≡ 0) → times_as stretches n k ≡ 0
  as_place n k never = by (nat_le (4 * k) n) refl
    where
      beyond : 4 * k ≤ n → (test : Bool) → nat_lt k (stretches (n - 4 * k)).count ≡ test → (if test then (stretches (n - 4 * k)).times else 0) ≡ 0
      beyond le true is = never le (less k (stretches (n - 4 * k)).count is)
      beyond le false is = refl

      by : (test : Bool) → nat_le (4 * k) n ≡ test → (if test then times_beyond k (stretches (n - 4 * k)) else 0) ≡ 0
      by true is = beyond (no_more (4 * k) n is) (nat_lt k (stretches (n - 4 * k)).count) refl
      by false is = refl

  -- a stretch whose instruction before has no count was never executed
  never_before : (pc m j k : ℕ) → m ≡ pc + 4 * j → j ≤ k → k < 128 → k < (stretches pc).count → count_of singles stretches m ≡ 0 → (stretches pc).times ≡ 0
  never_before pc m j k at before few within none = by (nat_lt j (stretches pc).count) refl (sym (place_as stretches pc m j at) ∙ never_as m j (omega (arith, before, few)) none)
    where
      by : (test : Bool) → nat_lt j (stretches pc).count ≡ test → (if test then (stretches pc).times else 0) ≡ 0 → (stretches pc).times ≡ 0
      by true is never = never
      by false is never = absurd (omega (arith, no_less j (stretches pc).count is, before, within))

  -- An address has no count where neither it nor a stretch up to it was set from an address on, nor any of the first
  -- four addresses has one.
  none_far : (from n : ℕ) → from ≤ n → singles n ≡ 0 → ((p : ℕ) → from ≤ p → p ≤ n → stretches p ≡ no_stretch)
      → ((m : ℕ) → from ≤ m → m < from + 4 → count_of singles stretches m ≡ 0) → count_of singles stretches n ≡ 0
  none_far from n le alone unset near = none_of n alone (λ k few. as_place n k (λ back within. by k few back within (cases_lt (n - 4 * k) from)))
    where
      by : (k : ℕ) → k < 128 → 4 * k ≤ n → k < (stretches (n - 4 * k)).count → (n - 4 * k < from) ⊎ (from ≤ n - 4 * k) → (stretches (n - 4 * k)).times ≡ 0
      by k few back within (inr behind) = ap (λ (s : Stretch). s.times) (unset (n - 4 * k) behind (omega arith))
      by k few back within (inl before) =
          let q : ℕ = (n - from) / 4 in
          let m : ℕ = from + (n - from) % 4 in
          let at : m ≡ (n - 4 * k) + 4 * (k - q) = omega (arith, le, back, before) in
          never_before (n - 4 * k) m (k - q) k at (omega arith) few within (near m (omega arith) (omega arith))

module _ (counts : Counts) (sound : AreSound counts) (core : ℕ) where
  abbrev alone : ℕ → ℕ
  alone = value_at 0 counts.singles core

  abbrev together : ℕ → Stretch
  together = value_at no_stretch counts.stretches core

  -- there is none behind the addresses of 64 bits
  pub none_behind : ((n : ℕ) → 2 ^ 64 ≤ n → alone n ≡ 0) → (n : ℕ) → 2 ^ 64 ≤ n → counted counts core n ≡ 0
  none_behind last n over =
      none_of alone together n (last n over) (λ k few. as_place alone together n k (λ back within.
      absurd (let fits = sound.within core (n - 4 * k) k within in omega (arith, fits, back, over))))

  -- the next address is one that was set, where none of the first four has a count
  pub next_far : (from : ℕ) (single stretch : Option ℕ) → IsNextSet 0 counts.singles core from single → IsNextSet no_stretch counts.stretches core from stretch
      → ((m : ℕ) → from ≤ m → m < from + 4 → counted counts core m ≡ 0) → IsNextIn 0 (counted counts core) from (earlier single stretch)
  next_far from None None one other near = λ n le. none_far alone together from n le (one n le) (λ p ge up. other p ge) near
  next_far from None (Some y) one other near = λ n le lt. none_far alone together from n le (one n le) (λ p ge up. other p ge (omega (arith, up, lt))) near
  next_far from (Some x) None one other near = λ n le lt. none_far alone together from n le (one n le lt) (λ p ge up. other p ge) near
  next_far from (Some x) (Some y) one other near =
      λ n le lt. none_far alone together from n le (one n le (omega (arith, lt))) (λ p ge up. other p ge (omega (arith, up, lt))) near

-- one address more that has none
pub one_further : (values : ℕ → ℕ) (from place : ℕ) → ((n : ℕ) → from ≤ n → n < from + place → values n ≡ 0) → values (from + place) ≡ 0
    → (n : ℕ) → from ≤ n → n < from + (place + 1) → values n ≡ 0
one_further values from place before here n le lt = by (cases_lt n (from + place))
  where
    by : (n < from + place) ⊎ (from + place ≤ n) → values n ≡ 0
    by (inl less) = before n le less
    by (inr up) = ap values (omega (arith, up, lt)) ∙ here

-- beyond the longest stretch there is nothing to add up
module _ (stretches : ℕ → Stretch) (address longest : ℕ) (short : (pc : ℕ) → (stretches pc).count ≤ longest) where
  none_at : (k : ℕ) → longest ≤ k → times_as stretches address k ≡ 0
  none_at k past = as_place (λ n. 0) stretches address k (λ back within. absurd (omega (arith, short (address - 4 * k), past, within)))

  pub sum_short : (n : ℕ) → longest ≤ n → sum_below (times_as stretches address) longest ≡ sum_below (times_as stretches address) n
  sum_short zero le =
      let same : longest ≡ 0 = omega (arith, le) in
      ap (sum_below (times_as stretches address)) same
  sum_short (suc n) le = by (cases_lt n longest) (sum_short n)
    where
      by : (n < longest) ⊎ (longest ≤ n) → (longest ≤ n → sum_below (times_as stretches address) longest ≡ sum_below (times_as stretches address) n)
          → sum_below (times_as stretches address) longest ≡ sum_below (times_as stretches address) (suc n)
      by (inl few) before =
          let same : longest ≡ suc n = omega (arith, few, le) in
          ap (sum_below (times_as stretches address)) same
      by (inr more) before = omega (arith, before more, none_at n more)
