-- What all cores counted together.
use Rattle.std.proofs.Common.{◌≡◌, ℕ, zero, suc, ◌+◌, ◌<◌, ◌≤◌, ◌==◌, nat_lt, Bool, true, false, cond, List, [], ◌∷◌, ◌++◌, map, sum_by, count_by, All, Some, refl, sym, ◌∙◌, ap, subst, inl, inr, append_assoc, lt-ltb, le-ltb, arith}
use Rattle.std.specs.List.{range_with_len}
use Rattle.std.proofs.lemmas.Bool.{cases_lt, eq-eqb, ne_eqb}
use Rattle.std.proofs.lemmas.List.Elements.{All-append, All-head, All-nil, All-tail}
use Rattle.std.proofs.lemmas.List.Sums.{sum_by-cons}
use Rattle.zs_num.specs.declared.entry.Entry.{Entry}
use Rattle.machine_desc.specs.declared.machine.Machine.{Machine}
use Rattle.stats.specs.declared.counts.CoreCount.{CoreCount}
use Rattle.stats.specs.Counted.{core_sum, one_if}
use Rattle.stats.specs.Counts.{core_total}
use Rattle.trace.specs.Laws.{EndBehindTheirAccesses}
use Rattle.trace.specs.Told.{accessed_in, ended_in}
use Rattle.trace.specs.Trace.{Accessed, Ended, Executed, Step}
use Rattle.profile.proofs.Fields.{IsCount, counted_if, count_of, count_of_sum, sum_by-map, sum_by-same}
use Rattle.profile.proofs.Numbered.{HasEachOnce, all_numbers}

-- ---- the numbers of the cores

one-cons : (k a n : ℕ) → count_by (λ m. k == m) (range_with_len a (suc n)) ≡ one_if (k == a) + count_by (λ m. k == m) (range_with_len (a + 1) n)
one-cons k a n = sum_by-cons (λ m. one_if (k == m)) a (range_with_len (a + 1) n)

once_below : (k a n : ℕ) → k < a → count_by (λ m. k == m) (range_with_len a n) ≡ 0
once_below k a zero below = refl
once_below k a (suc n) below =
    omega (arith, one-cons k a n, ap one_if (ne_eqb k a (λ same. omega (arith, same, below))), once_below k (a + 1) n (omega (arith, below)))

once_past : (k a n : ℕ) → a + n ≤ k → count_by (λ m. k == m) (range_with_len a n) ≡ 0
once_past k a zero past = refl
once_past k a (suc n) past =
    omega (arith, one-cons k a n, ap one_if (ne_eqb k a (λ same. omega (arith, same, past))), once_past k (a + 1) n (omega (arith, past)))

once_within : (k a n : ℕ) → a ≤ k → k < a + n → count_by (λ m. k == m) (range_with_len a n) ≡ 1
once_within k a zero low high = absurd (omega (arith, low, high))
once_within k a (suc n) low high =
    elim (cases_lt a k) [
      | inl later ↦
          omega (arith, one-cons k a n, ap one_if (ne_eqb k a (λ same. omega (arith, same, later))), once_within k (a + 1) n (omega (arith, later)) (omega (arith, high)))
      | inr here ↦
          let same : k ≡ a = omega (arith, low, here) in
          omega (arith, one-cons k a n, ap one_if (eq-eqb k a same), once_below k (a + 1) n (omega (arith, same)))
    ]

pub each_core_once : (n : ℕ) → HasEachOnce (λ k. nat_lt k n) (range_with_len 0 n)
each_core_once n k =
    elim (cases_lt k n) [
      | inl known ↦ once_within k 0 n (omega arith) (omega (arith, known)) ∙ sym (ap one_if (lt-ltb k n known))
      | inr past ↦ once_past k 0 n (omega (arith, past)) ∙ sym (ap one_if (le-ltb k n past))
    ]

-- ---- accesses of cores that are there

abbrev IsKnown : (cores : ℕ) → Entry → Type 0
IsKnown cores e = e.core < cores

pub known_from : (machine : Machine) (so_far : List Entry) (steps : List Step) → EndBehindTheirAccesses machine so_far steps → All (IsKnown machine.cores) (so_far ++ accessed_in steps)
known_from machine so_far [] ends = subst (λ (es : List Entry). All (IsKnown machine.cores) (es ++ [])) (sym ends) (All-nil (IsKnown machine.cores))
known_from machine so_far (Executed core pc ∷ steps) ends = known_from machine so_far steps ends
known_from machine so_far (Accessed pc e leaving ∷ steps) ends =
    subst (All (IsKnown machine.cores)) (append_assoc so_far (e ∷ []) (accessed_in steps)) (known_from machine (so_far ++ e ∷ []) steps ends)
known_from machine so_far (Ended interval ∷ steps) ends = All-append (IsKnown machine.cores) so_far (accessed_in steps) ends.0.known (known_from machine [] steps ends.1)

none_past : (count : Entry → ℕ) (cores k : ℕ) → cores ≤ k → (es : List Entry) → All (IsKnown cores) es → sum_by (counted_if (λ (e : Entry). e.core == k) count) es ≡ 0
none_past count cores k past [] known = refl
none_past count cores k past (e ∷ es) known =
    let within = All-head (IsKnown cores) e es known in
    let apart : counted_if (λ (x : Entry). x.core == k) count e ≡ 0 = ap (λ (b : Bool). cond b (count e) 0) (ne_eqb e.core k (λ same. omega (arith, same, within, past))) in
    omega (arith, apart, none_past count cores k past es (All-tail (IsKnown cores) e es known), sum_by-cons (counted_if (λ (x : Entry). x.core == k) count) e es)

pub not_known : (k n : ℕ) → nat_lt k n ≡ false → n ≤ k
not_known k n not =
    elim (cases_lt k n) [
      | inl known ↦ let is = lt-ltb k n known in cc
      | inr past ↦ past
    ]

module _ (machine : Machine) (steps : List Step) (ends : EndBehindTheirAccesses machine [] steps) (over : (w : Entry → ℕ) → sum_by w (accessed_in steps) ≡ sum_by (λ i. sum_by w i.entries) (ended_in steps)) where
  -- what all cores counted in a field is what all accesses count in it
  pub cores_count : (field : CoreCount → ℕ) (count : Entry → ℕ) → IsCount field count
      → sum_by count (accessed_in steps) ≡ field (core_sum (map (core_total (ended_in steps)) (range_with_len 0 machine.cores)))
  cores_count field count is =
      let numbers : List ℕ = range_with_len 0 machine.cores in
      let es : List Entry = accessed_in steps in
      let known : All (IsKnown machine.cores) es = known_from machine [] steps ends in
      let own : ℕ → Entry → ℕ = λ n. counted_if (λ (e : Entry). e.core == n) count in
      sym (
      count_of_sum field count is (map (core_total (ended_in steps)) numbers)
      ∙ sum_by-map field (core_total (ended_in steps)) numbers
      ∙ sum_by-same (λ n. field (core_total (ended_in steps) n)) (λ n. sum_by (own n) es) (λ n. count_of field count is (ended_in steps) n ∙ sym (over (own n))) numbers
      ∙ all_numbers (λ (e : Entry). true) (λ (e : Entry). Some e.core) count (λ k. nat_lt k machine.cores) numbers (each_core_once machine.cores) es
      (λ k not. none_past count machine.cores k (not_known k machine.cores not) es known)
      )
