-- The rows of addresses, of all cores together, add up to what all cores counted.
use Rattle.std.proofs.Common.{◌≡◌, ℕ, zero, suc, ◌+◌, ◌^◌, ◌<◌, ◌≤◌, ◌==◌, ◌&&◌, ◌||◌, not, Bool, false, List, [], ◌∷◌, map, sum_by, get_or, length, All, Some, is_some, refl, sym, ◌∙◌, ap, subst, arith}
use Rattle.std.specs.Prelude.{slice_get}
use Rattle.std.specs.List.{range_with_len}
use Rattle.std.proofs.lemmas.List.Folds.{list_any_none}
use Rattle.std.proofs.lemmas.List.Sums.{sum_by-cons}
use Rattle.zs_num.specs.declared.entry.Entry.{Entry}
use Rattle.elf_load.specs.MemoryImage.{MemoryImage}
use Rattle.elf_load.specs.SoundImage.{IsSoundImage}
use Rattle.machine_desc.specs.declared.machine.Machine.{Machine}
use Rattle.machine_desc.specs.Machine.{IsMachine}
use Rattle.stats.specs.declared.counts.CoreCount.{CoreCount}
use Rattle.stats.specs.Counted.{core_sum}
use Rattle.stats.specs.Counts.{Counts, core_total}
use Rattle.stats.specs.CountsFit.{CoreFits}
use Rattle.reference.specs.ReferenceRun.{IsRunOf, time_of}
use Rattle.reference.specs.Results.{Results}
use Rattle.reference.specs.TimedCore.{TimedCore}
use Rattle.trace.specs.Laws.{AccessesAreOfIntervals, CountsAreOfWhatEnded, InstructionsAreTold, StepsFit, SumsAreOverIntervals}
use Rattle.trace.specs.Told.{ended_in, instructions_of}
use Rattle.trace.specs.Trace.{IsTraceOf, Step}
use Rattle.profile_rows.specs.declared.address_row.AddressRow.{AddressRow}
use Rattle.profile_rows.specs.declared.tally.Tally.{Tally}
use Rattle.profile_rows.specs.Tallies.{capped, total}
use Rattle.profile.specs.declared.contribution.Contribution.{Contribution}
use Rattle.profile.specs.Contributions.{access_adds, at_address}
use Rattle.profile.specs.Copies.{Copies}
use Rattle.profile.specs.Executed.{executed_at}
use Rattle.profile.specs.Laws.{AddsUpTo, IsProfileOf, is_by, run_contributions}
use Rattle.profile.specs.Listed.{AreSumRows, has_address_of_any, sum_row}
use Rattle.profile.specs.Profiled.{Profiled, added_in, has_address}
use Rattle.profile.specs.Rows.{is_something}
use Rattle.profile.proofs.CoreCounters.{IsCounted, adds_up, all_count, core_counts_are}
use Rattle.profile.proofs.Fields.{count_of_sum, field_of_total, sum_by-map, sum_by-same}
use Rattle.profile.proofs.Fitting.{Fits, contributions_fit, each_once, no_address_above, none_executed_above}
use Rattle.profile.proofs.Numbered.{HasEachOnce, sum_of_all}
use Rattle.profile.proofs.RowsAddUp.{added_is, all_executed, and_true, found, neither, not_counted, numbers_count, sum_capped}

-- ---- sums of sums

sum_of_both : {X : Type 0} (f g : X → ℕ) (xs : List X) → sum_by (λ x. f x + g x) xs ≡ sum_by f xs + sum_by g xs
sum_of_both f g [] = refl
sum_of_both f g (x ∷ xs) = omega (arith, sum_of_both f g xs, sum_by-cons f x xs, sum_by-cons g x xs, sum_by-cons (λ y. f y + g y) x xs)

sum_of_none : {X : Type 0} (xs : List X) → sum_by (λ (x : X). 0) xs ≡ 0
sum_of_none [] = refl
sum_of_none {X} (x ∷ xs) = omega (arith, sum_of_none xs, sum_by-cons (λ (y : X). 0) x xs)

pub turned_sum : {K N : Type 0} (f : K → N → ℕ) (ks : List K) (ns : List N) → sum_by (λ n. sum_by (λ k. f k n) ks) ns ≡ sum_by (λ k. sum_by (λ n. f k n) ns) ks
turned_sum f ks [] = sym (sum_of_none ks)
turned_sum f ks (n ∷ ns) =
    omega (
      arith,
      sum_by-cons (λ m. sum_by (λ k. f k m) ks) n ns,
      turned_sum f ks ns,
      sum_by-same (λ k. sum_by (λ m. f k m) (n ∷ ns)) (λ k. f k n + sum_by (λ m. f k m) ns) (λ k. sum_by-cons (λ m. f k m) n ns) ks,
      sum_of_both (λ k. f k n) (λ k. sum_by (λ m. f k m) ns) ks,
    )

pub same_in_range : (f g : ℕ → ℕ) (a n : ℕ) → ((k : ℕ) → a ≤ k → k < a + n → f k ≡ g k) → sum_by f (range_with_len a n) ≡ sum_by g (range_with_len a n)
same_in_range f g a zero same = refl
same_in_range f g a (suc n) same =
    omega (
      arith,
      same a (omega arith) (omega arith),
      same_in_range f g (a + 1) n (λ k low high. same k (omega (arith, low)) (omega (arith, high))),
      sum_by-cons f a (range_with_len (a + 1) n),
      sum_by-cons g a (range_with_len (a + 1) n),
    )

-- what all cores of a list counted, by their numbers
by_number : (f : ℕ → ℕ) (a : ℕ) (cores : List TimedCore) → ((k : ℕ) (c : TimedCore) → slice_get cores k ≡ Some c → c.instructions ≡ f (a + k))
    → sum_by f (range_with_len a (length cores)) ≡ sum_by (λ c. c.instructions) cores
by_number f a [] told = refl
by_number f a (c ∷ cores) told =
    let own : c.instructions ≡ f a = told 0 c refl ∙ ap f (let at : a + 0 ≡ a = omega arith in at) in
    omega (
      arith,
      own,
      by_number f (a + 1) cores (λ k x here. told (suc k) x here ∙ ap f (let at : a + suc k ≡ a + 1 + k = omega arith in at)),
      sum_by-cons f a (range_with_len (a + 1) (length cores)),
      sum_by-cons (λ (x : TimedCore). x.instructions) c cores,
    )

-- ---- the run

module _ (ended : CountsAreOfWhatEnded) (accesses : AccessesAreOfIntervals) (sums : SumsAreOverIntervals) (fit : StepsFit) (machine : Machine) (image : MemoryImage) (lists : List (List ℕ)) (steps : List Step) (results : Results)
    (machine_is : IsMachine machine) (image_is : IsSoundImage image) (trace : IsTraceOf machine image lists steps) (run : IsRunOf machine image lists results) (p : Profiled) (of : IsProfileOf machine steps p) where
  abbrev cs : List Contribution
  cs = added_in p

  abbrev cores : List ℕ
  cores = range_with_len 0 p.cores

  added : cs ≡ run_contributions machine steps
  added = added_is machine steps p of

  fits : All Fits cs
  fits = subst (All Fits) (sym added) (contributions_fit (time_of machine) machine.cores steps (fit machine image lists steps results machine_is image_is trace run))

  none_of : (core pc : ℕ) → core < p.cores → has_address_of_any p pc ≡ false → (not (executed_at core pc p.steps == 0) ≡ false) × (is_something (at_address core pc cs) ≡ false)
  none_of core pc known not = neither _ _ (found (λ k. has_address p k pc) core p.cores known not)

  above : (pc : ℕ) → 2 ^ 64 ≤ pc → has_address_of_any p pc ≡ false
  above pc large =
      let steps_fit = fit machine image lists steps results machine_is image_is trace run in
      let none : (core : ℕ) → has_address p core pc ≡ false = λ core.
      let unexecuted : executed_at core pc p.steps ≡ 0 = ap (executed_at core pc) of.steps_are ∙ none_executed_above core pc steps steps_fit large in
      let first : not (executed_at core pc p.steps == 0) ≡ false = ap (λ (n : ℕ). not (n == 0)) unexecuted in
      ap (λ (b : Bool). b || is_something (at_address core pc cs)) first ∙ no_address_above core pc cs fits large
      in
      list_any_none (λ k. has_address p k pc) cores (λ i d within. none (get_or cores i d))

  -- what a core counts at all addresses
  core_field : (field : Tally → ℕ) (counted : CoreCount → ℕ) (count : Entry → ℕ) (is : IsCounted field counted count) (pcs : List ℕ) → HasEachOnce (has_address_of_any p) pcs → (core : ℕ) → core < p.cores
      → sum_by (λ pc. field (at_address core pc cs)) pcs ≡ counted (core_total (ended_in steps) core)
  core_field field counted count is pcs once core known =
      let over = sums machine steps (accesses machine image lists steps results machine_is trace run) in
      let test : Contribution → Bool = λ x. is_by core x && is_some x.pc in
      let passes : (copies : Copies) (pc : ℕ) (e : Entry) → test (access_adds (time_of machine) machine.cores copies pc e) ≡ (e.core == core) = λ copies pc e. and_true (e.core == core) in
      numbers_count core (λ x. x.pc) field counted count is (has_address_of_any p) pcs cs once (λ pc not. (none_of core pc known not).1)
      ∙ ap (λ (xs : List Contribution). sum_of_all (is_by core) (λ x. x.pc) (λ x. field x.tally) xs) added
      ∙ all_count field counted count is core test (time_of machine) machine.cores passes steps over

  all_fields : (field : Tally → ℕ) (counted : CoreCount → ℕ) (count : Entry → ℕ) (is : IsCounted field counted count) (pcs : List ℕ) → HasEachOnce (has_address_of_any p) pcs
      → sum_by (λ pc. sum_by (λ core. field (at_address core pc cs)) cores) pcs ≡ counted (core_sum results.counts.core_counts)
  all_fields field counted count is pcs once =
      let counts = ended machine image lists steps results trace run in
      let listed : results.counts.core_counts ≡ map (core_total (ended_in steps)) (range_with_len 0 machine.cores) = ap (λ (x : Counts). x.core_counts) counts.1 ∙ core_counts_are machine.cores counts.0 (ended_in steps) in
      turned_sum (λ core pc. field (at_address core pc cs)) cores pcs
      ∙ same_in_range (λ core. sum_by (λ pc. field (at_address core pc cs)) pcs) (λ core. counted (core_total (ended_in steps) core)) 0 p.cores (λ core low high. core_field field counted count is pcs once core (omega (arith, high)))
      ∙ ap (λ (n : ℕ). sum_by (λ core. counted (core_total (ended_in steps) core)) (range_with_len 0 n)) of.cores
      ∙ sym (ap (λ (xs : List CoreCount). counted (core_sum xs)) listed ∙ count_of_sum counted count is.counts (map (core_total (ended_in steps)) (range_with_len 0 machine.cores)) ∙ sum_by-map counted (core_total (ended_in steps)) (range_with_len 0 machine.cores))

  all_instructions : InstructionsAreTold → length results.cores ≡ machine.cores → (pcs : List ℕ) → HasEachOnce (has_address_of_any p) pcs
      → sum_by (λ pc. sum_by (λ core. executed_at core pc p.steps) cores) pcs ≡ sum_by (λ c. c.instructions) results.cores
  all_instructions told many pcs once =
      turned_sum (λ core pc. executed_at core pc p.steps) cores pcs
      ∙ same_in_range (λ core. sum_by (λ pc. executed_at core pc p.steps) pcs) (λ core. instructions_of core steps) 0 p.cores
      (λ core low high. all_executed core (has_address_of_any p) pcs p.steps once (λ pc not. not_counted (executed_at core pc p.steps) (none_of core pc (omega (arith, high)) not).0) ∙ ap (instructions_of core) of.steps_are)
      ∙ ap (λ (n : ℕ). sum_by (λ core. instructions_of core steps) (range_with_len 0 n)) (of.cores ∙ sym many)
      ∙ by_number (λ core. instructions_of core steps) 0 results.cores (λ core c here. told machine image lists steps results trace run core c here ∙ ap (λ (k : ℕ). instructions_of k steps) (let at : core ≡ 0 + core = omega arith in at))

  pub sum_rows_add_up : InstructionsAreTold → length results.cores ≡ machine.cores → CoreFits (core_sum results.counts.core_counts) → sum_by (λ c. c.instructions) results.cores < 2 ^ 64
      → (rows : List AddressRow) → AreSumRows p rows → (sum_by (λ row. row.instructions) rows ≡ sum_by (λ c. c.instructions) results.cores) × AddsUpTo (total (map (λ row. row.tally) rows)) (core_sum results.counts.core_counts)
  sum_rows_add_up told many c_fits small rows are =
      let once = each_once (has_address_of_any p) above are.pcs are.all in
      let instructions = all_instructions told many are.pcs once in (
        ap (sum_by (λ (row : AddressRow). row.instructions)) are.are
            ∙ sum_by-map (λ (row : AddressRow). row.instructions) (sum_row p) are.pcs
            ∙ sum_capped (λ pc. sum_by (λ core. executed_at core pc p.steps) cores) are.pcs (omega (arith, instructions, small))
            ∙ instructions,
        adds_up (total (map (λ row. row.tally) rows)) (core_sum results.counts.core_counts)
            (λ field counted count is.
            let all = all_fields field counted count is are.pcs once in
            let one : (pc : ℕ) → field (sum_row p pc).tally ≡ capped (sum_by (λ core. field (at_address core pc cs)) cores) = λ pc.
            is.as_far (total (map (λ core. at_address core pc cs) cores))
            ∙ ap capped (field_of_total field is.sums (map (λ core. at_address core pc cs) cores) ∙ sum_by-map field (λ core. at_address core pc cs) cores)
            in
            field_of_total field is.sums (map (λ row. row.tally) rows)
            ∙ sum_by-map field (λ (row : AddressRow). row.tally) rows
            ∙ ap (sum_by (λ (row : AddressRow). field row.tally)) are.are
            ∙ sum_by-map (λ (row : AddressRow). field row.tally) (sum_row p) are.pcs
            ∙ sum_by-same (λ pc. field (sum_row p pc).tally) (λ pc. capped (sum_by (λ core. field (at_address core pc cs)) cores)) one are.pcs
            ∙ sum_capped (λ pc. sum_by (λ core. field (at_address core pc cs)) cores) are.pcs (omega (arith, all, is.fits (core_sum results.counts.core_counts) c_fits))
            ∙ all),
      )
