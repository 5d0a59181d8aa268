-- The counts of a run and of the run with an interval more, and those of a run without intervals.
use Rattle.std.proofs.Common.{◌≡◌, ◌+◌, ℕ, zero, suc, List, [], ◌∷◌, ◌++◌, length, map, replicate, refl, ap, ◌∙◌, sym, arith}
use Rattle.std.specs.List.{All, zip, enumerate_from, range_with_len, fold}
use Rattle.std.proofs.lemmas.List.{map-append}
use Rattle.std.proofs.lemmas.List.Elements.{All-head, All-tail}
use Rattle.std.proofs.lemmas.List.Sums.{sum_by_push, fold_push}
use Rattle.machine_desc.specs.declared.machine.Machine.{Machine}
use Rattle.component.specs.declared.comp.Comp.{Comp}
use Rattle.component.specs.ComponentStep.{free_of}
use Rattle.component.specs.Components.{AreFresh}
use Rattle.stats.specs.declared.counts.CoreCount.{CoreCount}
use Rattle.stats.specs.declared.counts.CompCount.{CompCount}
use Rattle.stats.specs.Counted.{core_plus, comp_plus, no_core_count, no_comp_count}
use Rattle.stats.specs.Counts.{Interval, Counts, counts_of, core_count_in, core_total, comp_count_in, comp_total}
use Rattle.stats.specs.Added.{added, core_count_after, comp_count_after, no_counts}
use Rattle.stats.proofs.Plus.{same_comp}

-- the counts of these
abbrev counts : List CoreCount → List CompCount → (accesses events : ℕ) → Counts
counts cores comps accesses events = record { core_counts = cores; comp_counts = comps; accesses = accesses; events = events }

-- counts with the same fields are the same
same_counts : (a b : Counts) → a.core_counts ≡ b.core_counts → a.comp_counts ≡ b.comp_counts → a.accesses ≡ b.accesses → a.events ≡ b.events → a ≡ b
same_counts a b cores comps accesses events =
    let same : counts a.core_counts a.comp_counts a.accesses a.events ≡ counts b.core_counts b.comp_counts b.accesses b.events = cc in
    same

module _ (intervals : List Interval) (i : Interval) where
  core_more : (n : ℕ) → core_count_after i n (core_total intervals n) ≡ core_total (intervals ++ i ∷ []) n
  core_more n =
      let of : Interval → CoreCount = λ x. core_count_in x n in
      sym (ap (fold core_plus no_core_count) (map-append of intervals (i ∷ [])) ∙ fold_push core_plus no_core_count (map of intervals) (of i))

  comp_more : (n : ℕ) (before after : Comp) → comp_count_after i n (comp_total intervals n before) after ≡ comp_total (intervals ++ i ∷ []) n after
  comp_more n before after =
      let of : Interval → CompCount = λ x. comp_count_in x n in
      let sums = ap (fold comp_plus no_comp_count) (map-append of intervals (i ∷ [])) ∙ fold_push comp_plus no_comp_count (map of intervals) (of i) in
      sym (ap (λ (c : CompCount). let with_free : CompCount = record c { free = free_of after } in with_free) sums)

  -- all cores from number a on, and all components
  cores_more : (a n : ℕ) → map (λ at'. core_count_after i at'.0 at'.1) (enumerate_from a (map (core_total intervals) (range_with_len a n)))
      ≡ map (core_total (intervals ++ i ∷ [])) (range_with_len a n)
  cores_more a zero = refl
  cores_more a (suc n) = let one = core_more a in let rest = cores_more (a + 1) n in cc

  comps_more : (a : ℕ) (before after : List Comp) → length before ≡ length after
      → map (λ at'. comp_count_after i at'.0 at'.1.0 at'.1.1) (enumerate_from a (zip (map (λ at'. comp_total intervals at'.0 at'.1) (enumerate_from a before)) after))
      ≡ map (λ at'. comp_total (intervals ++ i ∷ []) at'.0 at'.1) (enumerate_from a after)
  comps_more a [] [] same = refl
  comps_more a [] (y ∷ ys) same = absurd (omega arith)
  comps_more a (x ∷ xs) [] same = absurd (omega arith)
  comps_more a (x ∷ xs) (y ∷ ys) same = let one = comp_more a x y in let rest = comps_more (a + 1) xs ys (omega arith) in cc

  pub interval_added : (cores : ℕ) (before after : List Comp) → length before ≡ length after
      → added (counts_of cores before intervals) i after ≡ counts_of cores after (intervals ++ i ∷ [])
  unfolding added counts_of
  interval_added cores before after same =
      same_counts _ _ (cores_more 0 cores) (comps_more 0 before after same)
      (sym (sum_by_push (λ (x : Interval). length x.entries) intervals i))
      (sym (sum_by_push (λ (x : Interval). length x.events) intervals i))

-- without intervals
no_cores : (a n : ℕ) → map (core_total []) (range_with_len a n) ≡ replicate n no_core_count
no_cores a zero = refl
no_cores a (suc n) = ap (λ (xs : List CoreCount). no_core_count ∷ xs) (no_cores (a + 1) n)

no_comps : (a : ℕ) (comps : List Comp) → All (λ c. free_of c ≡ 0) comps
    → map (λ at'. comp_total [] at'.0 at'.1) (enumerate_from a comps) ≡ replicate (length comps) no_comp_count
no_comps a [] free = refl
no_comps a (c ∷ cs) free =
    let one : comp_total [] a c ≡ no_comp_count = same_comp _ _ refl refl (All-head (λ x. free_of x ≡ 0) c cs free) in
    let rest = no_comps (a + 1) cs (All-tail (λ x. free_of x ≡ 0) c cs free) in
    cc

pub nothing_counted : (m : Machine) (comps : List Comp) → AreFresh m comps → counts_of m.cores comps [] ≡ no_counts m
unfolding counts_of
nothing_counted m comps fresh =
    same_counts _ _ (no_cores 0 m.cores)
    (no_comps 0 comps fresh.free ∙ ap (λ (n : ℕ). replicate n no_comp_count) fresh.are.count)
    refl refl
