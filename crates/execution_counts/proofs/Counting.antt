-- What one count more changes.
use Rattle.std.proofs.Common.{◌≡◌, ◌≢◌, ℕ, ◌+◌, ◌-◌, ◌*◌, ◌/◌, ◌<◌, ◌≤◌, ◌^◌, ◌==◌, Bool, true, false, ◌⊎◌, inl, inr, refl, sym, ◌∙◌, ap, arith, subst, tests, eq-eqb}
use Rattle.std.specs.Prelude.{◌&&◌, nat_le, nat_lt, if◌then◌else◌}
use Rattle.std.proofs.lemmas.Bool.{cases_eq}
use Rattle.std.proofs.lemmas.Bool.Decides.{eqb_tells}
use Rattle.sparse_table.specs.ByCore.{with_one}
use Rattle.execution_counts.specs.declared.stretch.Stretch.{Stretch}
use Rattle.execution_counts.specs.Counted.{capped, count_of, is_in_stretch, no_stretch, one_if, sum_below, times_as, times_beyond}
use Rattle.execution_counts.proofs.Sums.{sum_changed, sum_has, sum_none, sum_same}

-- nothing was counted
none_beyond : (place : ℕ) → times_beyond place no_stretch ≡ 0
none_beyond place = by (nat_lt place 0)
  where
    by : (test : Bool) → ◌≡◌ {A = ℕ} (if test then 0 else 0) 0
    by true = refl
    by false = refl

none_as : (address place : ℕ) → times_as (λ n. no_stretch) address place ≡ 0
none_as address place = by (nat_le (4 * place) address)
  where
    by : (test : Bool) → (if test then times_beyond place no_stretch else 0) ≡ 0
    by true = none_beyond place
    by false = refl

pub none_counted : (address : ℕ) → count_of (λ n. 0) (λ n. no_stretch) address ≡ 0
none_counted address = omega (arith, sum_none (times_as (λ n. no_stretch) address) (none_as address) 128)

-- what holds of a value where both tests hold, and where one does not
both : {X : Type 0} (one other : Bool) (value none : X) → one ≡ true → other ≡ true → (if one && other then value else none) ≡ value
both true true value none first second = refl
both true false value none first second = cc
both false other value none first second = cc

not_one : {X : Type 0} (one other : Bool) (value none : X) → one ≡ false → (if one && other then value else none) ≡ none
not_one false other value none fails = refl
not_one true other value none fails = cc

not_other : {X : Type 0} (one other : Bool) (value none : X) → other ≡ false → (if one && other then value else none) ≡ none
not_other true false value none fails = refl
not_other false false value none fails = refl
not_other one true value none fails = cc

grown : (later was rest one : ℕ) → later ≡ capped (was + one) → capped (later + rest) ≡ capped (capped (was + rest) + one)
grown later was rest one is = omega (arith, is)

kept : (later was rest : ℕ) → later ≡ was → capped (later + rest) ≡ capped (capped (was + rest) + 0)
kept later was rest is = omega (arith, is)

summed : (single was now old new : ℕ) → now + old ≡ was + new → new ≡ capped (old + 1) → old ≤ was → capped (single + now) ≡ capped (capped (single + was) + 1)
summed single was now old new sums is part = omega (arith, sums, is, part)

stayed : (single was now : ℕ) → now ≡ was → capped (single + now) ≡ capped (capped (single + was) + 0)
stayed single was now is = omega (arith, is)

-- one more that was counted by itself
pub one_more : (singles later : ℕ → ℕ → ℕ) (stretches : ℕ → ℕ → Stretch) (core pc count : ℕ)
    → count ≡ capped (singles core pc + 1) → ((c n : ℕ) → later c n ≡ with_one core pc count singles c n)
    → (c n : ℕ) → count_of (later c) (stretches c) n ≡ capped (count_of (singles c) (stretches c) n + one_if (core == c && pc == n))
one_more singles later stretches core pc count is sets c n = by (eqb_tells core c) (eqb_tells pc n)
  where
    by : ((core == c) ≡ true × (core ≡ c)) ⊎ ((core == c) ≡ false × (core ≢ c)) → ((pc == n) ≡ true × (pc ≡ n)) ⊎ ((pc == n) ≡ false × (pc ≢ n))
        → count_of (later c) (stretches c) n ≡ capped (count_of (singles c) (stretches c) n + one_if (core == c && pc == n))
    by (inl (by_core, same)) (inl (here, at)) =
        let now : later c n ≡ count = sets c n ∙ both (core == c) (pc == n) count (singles c n) by_core here in
        let was : singles core pc ≡ singles c n = ap (λ k. singles k pc) same ∙ ap (singles c) at in
        rw (by_core, here) (grown (later c n) (singles c n) (sum_below (times_as (stretches c) n) 128) 1 (omega (arith, now, is, was)))
    by (inl (by_core, same)) (inr (not_here, other)) =
        let now : later c n ≡ singles c n = sets c n ∙ not_other (core == c) (pc == n) count (singles c n) not_here in
        rw (by_core, not_here) (kept (later c n) (singles c n) (sum_below (times_as (stretches c) n) 128) now)
    by (inr (no_core, other)) at =
        let now : later c n ≡ singles c n = sets c n ∙ not_one (core == c) (pc == n) count (singles c n) no_core in
        rw no_core (kept (later c n) (singles c n) (sum_below (times_as (stretches c) n) 128) now)

-- a stretch that was never executed, or has as many instructions
abbrev pub IsSame : Stretch → (count : ℕ) → Type 0
IsSame s count = (s.times ≡ 0) ⊎ (s.count ≡ count)

pub within_beyond : (place : ℕ) (s : Stretch) (count : ℕ) → IsSame s count → place < count → times_beyond place s ≡ s.times
within_beyond place s count same within = by (nat_lt place s.count) refl same
  where
    by : (test : Bool) → nat_lt place s.count ≡ test → IsSame s count → (if test then s.times else 0) ≡ s.times
    by true is same = refl
    by false is (inl never) = sym never
    by false is (inr as_many) = absurd (grind (arith, tests, is, as_many, within))

past_beyond : (place : ℕ) (s : Stretch) (count : ℕ) → IsSame s count → count ≤ place → times_beyond place s ≡ 0
past_beyond place s count same past = by (nat_lt place s.count) refl same
  where
    by : (test : Bool) → nat_lt place s.count ≡ test → IsSame s count → (if test then s.times else 0) ≡ 0
    by false is same = refl
    by true is (inl never) = never
    by true is (inr as_many) = absurd (omega (arith, tests, is, as_many, past))

-- the instruction at an address of the stretch that begins there
pub place_as : (s : ℕ → Stretch) (pc n j : ℕ) → n ≡ pc + 4 * j → times_as s n j ≡ times_beyond j (s pc)
place_as s pc n j at = by (nat_le (4 * j) n) refl
  where
    back : n - 4 * j ≡ pc
    back = omega (arith, at)

    by : (test : Bool) → nat_le (4 * j) n ≡ test → (if test then times_beyond j (s (n - 4 * j)) else 0) ≡ times_beyond j (s pc)
    by true is = ap (λ p. times_beyond j (s p)) back
    by false is = absurd (grind (arith, tests, is, at))

module _ (stretches later : ℕ → ℕ → Stretch) (core pc : ℕ) (more : Stretch)
    (sets : (c n : ℕ) → later c n ≡ with_one core pc more stretches c n)
    (times : more.times ≡ capped ((stretches core pc).times + 1)) (same : IsSame (stretches core pc) more.count) (few : more.count ≤ 128) where
  -- stretches of other cores, and those that begin elsewhere, are as they were
  elsewhere : (c n : ℕ) → (core ≢ c) ⊎ (pc ≢ n) → later c n ≡ stretches c n
  elsewhere c n other = by (eqb_tells core c) (eqb_tells pc n) other
    where
      by : ((core == c) ≡ true × (core ≡ c)) ⊎ ((core == c) ≡ false × (core ≢ c)) → ((pc == n) ≡ true × (pc ≡ n)) ⊎ ((pc == n) ≡ false × (pc ≢ n))
          → (core ≢ c) ⊎ (pc ≢ n) → later c n ≡ stretches c n
      by (inr (no_core, not)) at other = sets c n ∙ not_one (core == c) (pc == n) more (stretches c n) no_core
      by (inl (by_core, is)) (inr (not_here, not)) other = sets c n ∙ not_other (core == c) (pc == n) more (stretches c n) not_here
      by (inl (by_core, is)) (inl (here, at)) (inl not) = absurd (not is)
      by (inl (by_core, is)) (inl (here, at)) (inr not) = absurd (not at)

  here : later core pc ≡ more
  here = sets core pc ∙ both (core == core) (pc == pc) more (stretches core pc) (eq-eqb core core refl) (eq-eqb pc pc refl)

  same_as : (c n k : ℕ) → (4 * k ≤ n → later c (n - 4 * k) ≡ stretches c (n - 4 * k)) → times_as (stretches c) n k ≡ times_as (later c) n k
  same_as c n k stays = by (nat_le (4 * k) n) refl
    where
      by : (test : Bool) → nat_le (4 * k) n ≡ test → (if test then times_beyond k (stretches c (n - 4 * k)) else 0) ≡ (if test then times_beyond k (later c (n - 4 * k)) else 0)
      by true is = ap (times_beyond k) (sym (stays (omega (arith, tests, is))))
      by false is = refl

  inside : (n j : ℕ) → n ≡ pc + 4 * j → j < more.count → sum_below (times_as (later core) n) 128 + (stretches core pc).times ≡ sum_below (times_as (stretches core) n) 128 + more.times
  inside n j at within =
      let old : times_as (stretches core) n j ≡ (stretches core pc).times = place_as (stretches core) pc n j at ∙ within_beyond j (stretches core pc) more.count same within in
      let new : times_as (later core) n j ≡ more.times = place_as (later core) pc n j at ∙ ap (times_beyond j) here ∙ within_beyond j more more.count (inr refl) within in
      let rest = sum_changed (times_as (stretches core) n) (times_as (later core) n) j 128 (omega (arith, within, few)) (λ k other. same_as core n k (λ le. elsewhere core (n - 4 * k) (inr (λ e. other (omega (arith, e, at, le)))))) in
      omega (arith, rest, old, new)

  part : (n j : ℕ) → n ≡ pc + 4 * j → j < more.count → (stretches core pc).times ≤ sum_below (times_as (stretches core) n) 128
  part n j at within =
      let old : times_as (stretches core) n j ≡ (stretches core pc).times = place_as (stretches core) pc n j at ∙ within_beyond j (stretches core pc) more.count same within in
      omega (arith, old, sum_has (times_as (stretches core) n) j 128 (omega (arith, within, few)))

  outside : (n : ℕ) → ((j : ℕ) → n ≡ pc + 4 * j → more.count ≤ j) → sum_below (times_as (later core) n) 128 ≡ sum_below (times_as (stretches core) n) 128
  outside n out = sum_same (times_as (later core) n) (times_as (stretches core) n) 128 (λ k lt. each k)
    where
      each : (k : ℕ) → times_as (later core) n k ≡ times_as (stretches core) n k
      each k = elim (cases_eq n (pc + 4 * k)) [
        | inl at ↦
            place_as (later core) pc n k at ∙ ap (times_beyond k) here ∙ past_beyond k more more.count (inr refl) (out k at)
            ∙ sym (place_as (stretches core) pc n k at ∙ past_beyond k (stretches core pc) more.count same (out k at))
        | inr other ↦ sym (same_as core n k (λ le. elsewhere core (n - 4 * k) (inr (λ e. other (omega (arith, e, le))))))
      ]

  -- one more of a whole stretch
  pub stretch_more : (singles : ℕ → ℕ → ℕ) (c n : ℕ)
      → count_of (singles c) (later c) n ≡ capped (count_of (singles c) (stretches c) n + one_if (core == c && is_in_stretch pc more.count n))
  stretch_more singles c n = by (eqb_tells core c)
    where
      others : core ≢ c → sum_below (times_as (later c) n) 128 ≡ sum_below (times_as (stretches c) n) 128
      others not = sum_same (times_as (later c) n) (times_as (stretches c) n) 128 (λ k lt. sym (same_as c n k (λ le. elsewhere c (n - 4 * k) (inl not))))

      by_place : (test : Bool) → is_in_stretch pc more.count n ≡ test
          → count_of (singles core) (later core) n ≡ capped (count_of (singles core) (stretches core) n + one_if test)
      by_place true is =
          let j : ℕ = (n - pc) / 4 in
          let at : n ≡ pc + 4 * j = grind (arith, tests, is) in
          let within : j < more.count = grind (arith, tests, is) in
          summed (singles core n) (sum_below (times_as (stretches core) n) 128) (sum_below (times_as (later core) n) 128) (stretches core pc).times more.times (inside n j at within) times (part n j at within)
      by_place false is =
          stayed (singles core n) (sum_below (times_as (stretches core) n) 128) (sum_below (times_as (later core) n) 128) (outside n (λ j at. grind (arith, tests, is, at)))

      by : ((core == c) ≡ true × (core ≡ c)) ⊎ ((core == c) ≡ false × (core ≢ c))
          → count_of (singles c) (later c) n ≡ capped (count_of (singles c) (stretches c) n + one_if (core == c && is_in_stretch pc more.count n))
      by (inl (by_core, is)) =
          rw by_core (subst (λ k. count_of (singles k) (later k) n ≡ capped (count_of (singles k) (stretches k) n + one_if (is_in_stretch pc more.count n))) is (by_place (is_in_stretch pc more.count n) refl))
      by (inr (no_core, not)) = rw no_core (stayed (singles c n) (sum_below (times_as (stretches c) n) 128) (sum_below (times_as (later c) n) 128) (others not))

-- ---- one by one

none_in : (pc n : ℕ) → is_in_stretch pc 0 n ≡ false
none_in pc n = grind (arith, tests)

-- none of them was counted yet
pub none_yet : (was pc n : ℕ) (test : Bool) → was ≤ 2 ^ 64 - 1 → was ≡ capped (was + one_if (test && is_in_stretch pc 0 n))
none_yet was pc n true fits = rw (none_in pc n) (omega (arith, fits))
none_yet was pc n false fits = omega (arith, fits)

-- one more of them is
pub one_further : (was now later pc place n : ℕ) (test : Bool) → now ≡ capped (was + one_if (test && is_in_stretch pc place n))
    → later ≡ capped (now + one_if (test && (pc + 4 * place == n))) → later ≡ capped (was + one_if (test && is_in_stretch pc (place + 1) n))
one_further was now later pc place n false so_far more = omega (arith, so_far, more)
one_further was now later pc place n true so_far more = by (eqb_tells (pc + 4 * place) n) (is_in_stretch pc place n) refl
  where
    by : ((pc + 4 * place == n) ≡ true × (pc + 4 * place ≡ n)) ⊎ ((pc + 4 * place == n) ≡ false × (pc + 4 * place ≢ n))
        → (test : Bool) → is_in_stretch pc place n ≡ test → later ≡ capped (was + one_if (is_in_stretch pc (place + 1) n))
    by (inl (is_it, at)) test is =
        let now_in : is_in_stretch pc (place + 1) n ≡ true = grind (arith, tests, at) in
        let not_yet : is_in_stretch pc place n ≡ false = grind (arith, tests, at) in
        let so : now ≡ capped (was + 0) = rw not_yet at so_far in
        let one : later ≡ capped (now + 1) = rw is_it at more in
        rw now_in (omega (arith, so, one))
    by (inr (not_it, other)) true is =
        let now_in : is_in_stretch pc (place + 1) n ≡ true = grind (arith, tests, is) in
        let so : now ≡ capped (was + 1) = rw is at so_far in
        let none : later ≡ capped (now + 0) = rw not_it at more in
        rw now_in (omega (arith, so, none))
    by (inr (not_it, other)) false is =
        let not_in : is_in_stretch pc (place + 1) n ≡ false = grind (arith, tests, is, other) in
        let so : now ≡ capped (was + 0) = rw is at so_far in
        let none : later ≡ capped (now + 0) = rw not_it at more in
        rw not_in (omega (arith, so, none))

-- one more of the first of them, and then one more of those behind
pub both_parts : (was mid later pc first count n : ℕ) (test : Bool) → first ≤ count → mid ≡ capped (was + one_if (test && is_in_stretch pc first n))
    → later ≡ capped (mid + one_if (test && is_in_stretch (pc + 4 * first) (count - first) n)) → later ≡ capped (was + one_if (test && is_in_stretch pc count n))
both_parts was mid later pc first count n false le begun behind = omega (arith, begun, behind)
both_parts was mid later pc first count n true le begun behind = by (is_in_stretch pc first n) refl (is_in_stretch (pc + 4 * first) (count - first) n) refl
  where
    by : (one : Bool) → is_in_stretch pc first n ≡ one → (other : Bool) → is_in_stretch (pc + 4 * first) (count - first) n ≡ other
        → later ≡ capped (was + one_if (is_in_stretch pc count n))
    by true in_first true in_rest = absurd (grind (arith, tests, in_first, in_rest))
    by true in_first false out_rest =
        let all : is_in_stretch pc count n ≡ true = grind (arith, tests, in_first, le) in
        let so : mid ≡ capped (was + 1) = rw in_first at begun in
        let none : later ≡ capped (mid + 0) = rw out_rest at behind in
        rw all (omega (arith, so, none))
    by false out_first true in_rest =
        let all : is_in_stretch pc count n ≡ true = grind (arith, tests, in_rest, le) in
        let none : mid ≡ capped (was + 0) = rw out_first at begun in
        let so : later ≡ capped (mid + 1) = rw in_rest at behind in
        rw all (omega (arith, so, none))
    by false out_first false out_rest =
        let all : is_in_stretch pc count n ≡ false = grind (arith, tests, out_first, out_rest, le) in
        let first_none : mid ≡ capped (was + 0) = rw out_first at begun in
        let none : later ≡ capped (mid + 0) = rw out_rest at behind in
        rw all (omega (arith, first_none, none))
