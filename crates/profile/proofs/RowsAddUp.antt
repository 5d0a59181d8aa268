-- The rows of a core add up to what the run counted of it.
use Rattle.std.proofs.Common.{◌≡◌, ℕ, zero, suc, ◌+◌, ◌^◌, ◌<◌, ◌≤◌, ◌==◌, ◌&&◌, ◌||◌, not, Bool, true, false, cond, List, [], ◌∷◌, map, filter, get_or, sum_by, All, Option, Some, None, is_some, refl, sym, ◌∙◌, ap, subst, inl, inr, arith}
use Rattle.std.specs.Prelude.{slice_get, slice_index_or}
use Rattle.std.specs.List.{flat_map, list_any, range_with_len}
use Rattle.std.proofs.lemmas.Bool.{cases_lt, eq-eqb, ne_eqb}
use Rattle.std.proofs.lemmas.List.Folds.{list_any_at, list_any_none}
use Rattle.std.proofs.lemmas.List.FromFn.{get_or-range_with_len, length-range_with_len}
use Rattle.std.proofs.lemmas.List.Sums.{sum_by-append, sum_by-cons}
use Rattle.std.proofs.lemmas.Bool.{eqb-true}
use Rattle.zs_num.specs.declared.entry.Entry.{Entry}
use Rattle.elf_load.specs.MemoryImage.{MemoryImage}
use Rattle.elf_load.specs.SoundImage.{IsSoundImage}
use Rattle.machine_desc.specs.declared.machine.Machine.{Machine}
use Rattle.machine_desc.specs.Machine.{IsMachine}
use Rattle.event_graph.specs.declared.access_path.AccessPath.{AccessPath}
use Rattle.noc_mesh.specs.NetTiming.{net_time}
use Rattle.stats.specs.CountsFit.{CoreFits}
use Rattle.stats.specs.declared.counts.CoreCount.{CoreCount}
use Rattle.reference.specs.ReferenceRun.{IsRunOf, time_of}
use Rattle.reference.specs.Results.{Results}
use Rattle.reference.specs.TimedCore.{TimedCore}
use Rattle.trace.specs.Laws.{AccessesAreOfIntervals, CountsAreOfWhatEnded, InstructionsAreTold, StepsFit, SumsAreOverIntervals}
use Rattle.trace.specs.Told.{instructions_of, is_instruction_of}
use Rattle.trace.specs.Trace.{Accessed, Ended, Executed, IsTraceOf, Step}
use Rattle.profile_rows.specs.declared.address_row.AddressRow.{AddressRow}
use Rattle.profile_rows.specs.declared.line_row.LineRow.{LineRow}
use Rattle.profile_rows.specs.declared.tally.Tally.{Tally}
use Rattle.profile_rows.specs.Tallies.{capped, capped_tally, total}
use Rattle.profile.specs.declared.contribution.Contribution.{Contribution}
use Rattle.profile.specs.Contributions.{access_adds, at_address, at_line, contributions, tally_of}
use Rattle.profile.specs.Copies.{Copies, is_this}
use Rattle.profile.specs.Executed.{executed_at, is_executed}
use Rattle.profile.specs.Laws.{AddsUpTo, IsProfileOf, is_by, run_contributions}
use Rattle.profile.specs.Listed.{AreCoreRows, AreLineRows, core_row, has_line_of_any, line_row, rows_at}
use Rattle.profile.specs.Profiled.{Profiled, added_in, has_address}
use Rattle.profile.specs.Rows.{has_line, is_something}
use Rattle.profile.proofs.CoreCounters.{IsCounted, adds_up, all_count, core_count_is}
use Rattle.profile.proofs.Fields.{counted_if, field_of, field_of_total, sum_by-filter, sum_by-map, sum_by-same}
use Rattle.profile.proofs.Fitting.{Fits, contributions_fit, each_once, no_address_above, no_line_above, none_executed_above}
use Rattle.profile.proofs.Numbered.{HasEachOnce, all_numbers, sum_at, sum_of_all}

pub and_true : (b : Bool) → (b && true) ≡ b
and_true true = refl
and_true false = refl

pub neither : (a b : Bool) → (a || b) ≡ false → (a ≡ false) × (b ≡ false)
neither true b none = cc
neither false b none = (refl, none)

of_not : (b : Bool) → not b ≡ false → b ≡ true
of_not true is = refl
of_not false is = cc

pub not_counted : (n : ℕ) → not (n == 0) ≡ false → n ≡ 0
not_counted n none = eqb-true n 0 (of_not (n == 0) none)

if_nothing : (has own : Bool) (n : ℕ) → (has ≡ false → n ≡ 0) → cond has (cond own n 0) 0 ≡ cond own n 0
if_nothing true own n nothing = refl
if_nothing false true n nothing = sym (nothing refl)
if_nothing false false n nothing = refl

not_true : (b : Bool) → (b ≡ true → ⊥) → b ≡ false
not_true true wrong = absurd (wrong refl)
not_true false wrong = refl

-- ---- the profile of a run

pub added_is : (machine : Machine) (steps : List Step) (p : Profiled) → IsProfileOf machine steps p → added_in p ≡ run_contributions machine steps
added_is machine steps p of =
    ap (λ (path : AccessPath). contributions (net_time path) p.cores p.steps) of.path
    ∙ ap (λ (cores : ℕ). contributions (time_of machine) cores p.steps) of.cores
    ∙ ap (contributions (time_of machine) machine.cores) of.steps_are

-- ---- instructions

module _ (core : ℕ) where
  abbrev pub executed : Step → Bool
  executed step = is_instruction_of core step

  abbrev pub address_of : Step → Option ℕ
  address_of (Executed by pc) = Some pc
  address_of (Accessed pc e leaving) = None
  address_of (Ended interval) = None

  one_at : (pc : ℕ) (step : Step) → cond (is_executed core pc step) 1 0 ≡ counted_if (λ x. executed x && is_this (address_of x) pc) (λ x. 1) step
  one_at pc (Executed by at) = refl
  one_at pc (Accessed at e leaving) = refl
  one_at pc (Ended interval) = refl

  one_of_all : (step : Step) → counted_if (λ x. executed x && is_some (address_of x)) (λ x. 1) step ≡ counted_if executed (λ x. 1) step
  one_of_all (Executed by at) = ap (λ (b : Bool). counted_if (λ (x : Bool). x) (λ x. 1) b) (and_true (by == core))
  one_of_all (Accessed at e leaving) = refl
  one_of_all (Ended interval) = refl

  executed_at_pc : (pc : ℕ) (steps : List Step) → executed_at core pc steps ≡ sum_at executed address_of (λ x. 1) pc steps
  executed_at_pc pc steps = sum_by-same (λ (x : Step). counted_if (is_executed core pc) (λ y. 1) x) (counted_if (λ x. executed x && is_this (address_of x) pc) (λ x. 1)) (one_at pc) steps

  pub all_executed : (has : ℕ → Bool) (pcs : List ℕ) (steps : List Step) → HasEachOnce has pcs → ((pc : ℕ) → has pc ≡ false → executed_at core pc steps ≡ 0)
      → sum_by (λ pc. executed_at core pc steps) pcs ≡ instructions_of core steps
  all_executed has pcs steps once nothing =
      sum_by-same (λ pc. executed_at core pc steps) (λ pc. sum_at executed address_of (λ x. 1) pc steps) (λ pc. executed_at_pc pc steps) pcs
      ∙ all_numbers executed address_of (λ x. 1) has pcs once steps (λ pc not. sym (executed_at_pc pc steps) ∙ nothing pc not)
      ∙ sum_by-same (counted_if (λ x. executed x && is_some (address_of x)) (λ x. 1)) (counted_if executed (λ x. 1)) one_of_all steps

-- ---- tallies

module _ (core : ℕ) (number_of : Contribution → Option ℕ) where
  abbrev pub tally_at : (number : ℕ) → List Contribution → Tally
  tally_at number cs = tally_of (λ c. is_by core c && is_this (number_of c) number) cs

  -- tallies by number have in a field what all have
  pub numbers_count : (field : Tally → ℕ) (counted : CoreCount → ℕ) (count : Entry → ℕ) (is : IsCounted field counted count) (has : ℕ → Bool) (numbers : List ℕ) (cs : List Contribution)
      → HasEachOnce has numbers → ((n : ℕ) → has n ≡ false → is_something (tally_at n cs) ≡ false)
      → sum_by (λ n. field (tally_at n cs)) numbers ≡ sum_of_all (is_by core) number_of (λ c. field c.tally) cs
  numbers_count field counted count is has numbers cs once nothing =
      let test : ℕ → Contribution → Bool = λ n c. is_by core c && is_this (number_of c) n in
      sum_by-same (λ n. field (tally_at n cs)) (λ n. sum_at (is_by core) number_of (λ c. field c.tally) n cs) (λ n. field_of field is.sums (test n) cs) numbers
      ∙ all_numbers (is_by core) number_of (λ c. field c.tally) has numbers once cs (λ n not. sym (field_of field is.sums (test n) cs) ∙ is.nothing (tally_at n cs) (nothing n not))

-- ---- numbers that fit

capped_small : (n : ℕ) → n < 2 ^ 64 → capped n ≡ n
capped_small n small = omega (arith, small)

pub sum_capped : {X : Type 0} (f : X → ℕ) (xs : List X) → sum_by f xs < 2 ^ 64 → sum_by (λ x. capped (f x)) xs ≡ sum_by f xs
sum_capped f [] small = refl
sum_capped f (x ∷ xs) small =
    omega (
      arith,
      capped_small (f x) (omega (arith, small, sum_by-cons f x xs)),
      sum_capped f xs (omega (arith, small, sum_by-cons f x xs)),
      sum_by-cons f x xs,
      sum_by-cons (λ y. capped (f y)) x xs,
    )

-- ---- one core among all

picks_none : (f : ℕ → ℕ) (core a n : ℕ) → core < a → sum_by (λ k. cond (k == core) (f k) 0) (range_with_len a n) ≡ 0
picks_none f core a zero before = refl
picks_none f core a (suc n) before =
    omega (
      arith,
      sum_by-cons (λ k. cond (k == core) (f k) 0) a (range_with_len (a + 1) n),
      ap (λ (b : Bool). cond b (f a) 0) (ne_eqb a core (λ same. omega (arith, same, before))),
      picks_none f core (a + 1) n (omega (arith, before)),
    )

picks_one : (f : ℕ → ℕ) (core a n : ℕ) → a ≤ core → core < a + n → sum_by (λ k. cond (k == core) (f k) 0) (range_with_len a n) ≡ f core
picks_one f core a zero low high = absurd (omega (arith, low, high))
picks_one f core a (suc n) low high =
    elim (cases_lt a core) [
      | inl later ↦
          omega (
            arith,
            sum_by-cons (λ k. cond (k == core) (f k) 0) a (range_with_len (a + 1) n),
            ap (λ (b : Bool). cond b (f a) 0) (ne_eqb a core (λ same. omega (arith, same, later))),
            picks_one f core (a + 1) n (omega (arith, later)) (omega (arith, high)),
          )
      | inr here ↦
          let same : a ≡ core = omega (arith, low, here) in
          omega (
            arith,
            sum_by-cons (λ k. cond (k == core) (f k) 0) a (range_with_len (a + 1) n),
            ap (λ (b : Bool). cond b (f a) 0) (eq-eqb a core same),
            ap f same,
            picks_none f core (a + 1) n (omega (arith, same)),
          )
    ]

pub sum_by-flat_map : {X Y : Type 0} (count : Y → ℕ) (make : X → List Y) (xs : List X) → sum_by count (flat_map make xs) ≡ sum_by (λ x. sum_by count (make x)) xs
sum_by-flat_map count make [] = refl
sum_by-flat_map count make (x ∷ xs) =
    omega (arith, sum_by-append count (make x) (flat_map make xs), sum_by-flat_map count make xs, sum_by-cons (λ y. sum_by count (make y)) x xs)

-- a core of which a test holds is among all
pub found : (test : ℕ → Bool) (core n : ℕ) → core < n → list_any test (range_with_len 0 n) ≡ false → test core ≡ false
found test core n known none =
    not_true (test core) (λ is.
    let at : slice_index_or (range_with_len 0 n) core 0 ≡ core = get_or-range_with_len 0 n core 0 known ∙ omega arith in
    let some : list_any test (range_with_len 0 n) ≡ true = list_any_at test (range_with_len 0 n) core 0 (omega (arith, known, length-range_with_len 0 n)) (ap test at ∙ is) in
    cc)

-- ---- the run

module _ (ended : CountsAreOfWhatEnded) (accesses : AccessesAreOfIntervals) (sums : SumsAreOverIntervals) (fit : StepsFit) (machine : Machine) (image : MemoryImage) (lists : List (List ℕ)) (steps : List Step) (results : Results)
    (machine_is : IsMachine machine) (image_is : IsSoundImage image) (trace : IsTraceOf machine image lists steps) (run : IsRunOf machine image lists results) (p : Profiled) (of : IsProfileOf machine steps p)
    (core : ℕ) (c : CoreCount) (here : slice_get results.counts.core_counts core ≡ Some c) (c_fits : CoreFits c) where
  abbrev cs : List Contribution
  cs = added_in p

  added : cs ≡ run_contributions machine steps
  added = added_is machine steps p of

  cs_fit : All Fits cs
  cs_fit = subst (All Fits) (sym added) (contributions_fit (time_of machine) machine.cores steps (fit machine image lists steps results machine_is image_is trace run))

  -- the tallies by number of accesses that all have one
  numbers_add_up : (field : Tally → ℕ) (counted : CoreCount → ℕ) (count : Entry → ℕ) (is : IsCounted field counted count) (number_of : Contribution → Option ℕ)
      → ((copies : Copies) (pc : ℕ) (e : Entry) → is_some (number_of (access_adds (time_of machine) machine.cores copies pc e)) ≡ true)
      → (has : ℕ → Bool) (numbers : List ℕ) → HasEachOnce has numbers → ((n : ℕ) → has n ≡ false → is_something (tally_at core number_of n cs) ≡ false)
      → sum_by (λ n. capped (field (tally_at core number_of n cs))) numbers ≡ counted c
  numbers_add_up field counted count is number_of all has numbers once nothing =
      let c_is = core_count_is ended machine image lists steps results trace run core c here in
      let over = sums machine steps (accesses machine image lists steps results machine_is trace run) in
      let test : Contribution → Bool = λ x. is_by core x && is_some (number_of x) in
      let passes : (copies : Copies) (pc : ℕ) (e : Entry) → test (access_adds (time_of machine) machine.cores copies pc e) ≡ (e.core == core) =
      λ copies pc e. ap (λ (b : Bool). (e.core == core) && b) (all copies pc e) ∙ and_true (e.core == core)
      in
      let whole : sum_by (λ n. field (tally_at core number_of n cs)) numbers ≡ counted c =
      numbers_count core number_of field counted count is has numbers cs once nothing
      ∙ ap (sum_of_all (is_by core) number_of (λ x. field x.tally)) added
      ∙ all_count field counted count is core test (time_of machine) machine.cores passes steps over
      ∙ sym (ap counted c_is)
      in
      sum_capped (λ n. field (tally_at core number_of n cs)) numbers (omega (arith, whole, is.fits c c_fits)) ∙ whole

  pub address_rows_add_up : InstructionsAreTold → (timed : TimedCore) → slice_get results.cores core ≡ Some timed → timed.instructions < 2 ^ 64 → (rows : List AddressRow) → AreCoreRows p core rows
      → (sum_by (λ row. row.instructions) rows ≡ timed.instructions) × AddsUpTo (total (map (λ row. row.tally) rows)) c
  address_rows_add_up told timed there small rows are =
      let steps_fit = fit machine image lists steps results machine_is image_is trace run in
      let none : (pc : ℕ) → has_address p core pc ≡ false → (not (executed_at core pc p.steps == 0) ≡ false) × (is_something (at_address core pc cs) ≡ false) =
      λ pc not. neither _ _ not
      in
      let above : (pc : ℕ) → 2 ^ 64 ≤ pc → has_address p core pc ≡ false = λ pc large.
      let unexecuted : executed_at core pc p.steps ≡ 0 = ap (executed_at core pc) of.steps_are ∙ none_executed_above core pc steps steps_fit large in
      let first : not (executed_at core pc p.steps == 0) ≡ false = ap (λ (n : ℕ). not (n == 0)) unexecuted in
      ap (λ (b : Bool). b || is_something (at_address core pc cs)) first ∙ no_address_above core pc cs cs_fit large
      in
      let once = each_once (has_address p core) above are.pcs are.all in
      let instructions : sum_by (λ pc. executed_at core pc p.steps) are.pcs ≡ timed.instructions =
      all_executed core (has_address p core) are.pcs p.steps once (λ pc not. not_counted (executed_at core pc p.steps) (none pc not).0)
      ∙ ap (instructions_of core) of.steps_are ∙ sym (told machine image lists steps results trace run core timed there)
      in (
        ap (sum_by (λ (row : AddressRow). row.instructions)) are.are
            ∙ sum_by-map (λ (row : AddressRow). row.instructions) (core_row p core) are.pcs
            ∙ sum_capped (λ pc. executed_at core pc p.steps) are.pcs (omega (arith, instructions, small))
            ∙ instructions,
        adds_up (total (map (λ row. row.tally) rows)) c
            (λ field counted count is.
            field_of_total field is.sums (map (λ row. row.tally) rows)
            ∙ sum_by-map field (λ (row : AddressRow). row.tally) rows
            ∙ ap (sum_by (λ (row : AddressRow). field row.tally)) are.are
            ∙ sum_by-map (λ (row : AddressRow). field row.tally) (core_row p core) are.pcs
            ∙ sum_by-same (λ pc. field (capped_tally (at_address core pc cs))) (λ pc. capped (field (at_address core pc cs))) (λ pc. is.as_far (at_address core pc cs)) are.pcs
            ∙ numbers_add_up field counted count is (λ x. x.pc) (λ copies pc e. refl) (has_address p core) are.pcs once (λ pc not. (none pc not).1)),
      )

  -- the rows of a line that are of the core
  of_line : (known : core < p.cores) (field : Tally → ℕ) (counted : CoreCount → ℕ) (count : Entry → ℕ) (is : IsCounted field counted count) (line : ℕ)
      → sum_by (counted_if (λ (row : LineRow). row.core == core) (λ row. field row.tally)) (rows_at p line) ≡ capped (field (at_line core line cs))
  of_line known field counted count is line =
      let has : ℕ → Bool = λ k. has_line cs k line in
      let value : ℕ → ℕ = λ k. field (capped_tally (at_line k line cs)) in
      let nothing : (k : ℕ) → has k ≡ false → value k ≡ 0 = λ k not. is.as_far (at_line k line cs) ∙ ap capped (is.nothing (at_line k line cs) not) ∙ omega arith in
      sum_by-map (counted_if (λ (row : LineRow). row.core == core) (λ row. field row.tally)) (line_row p line) (filter has (range_with_len 0 p.cores))
      ∙ sum_by-filter has (λ k. cond (k == core) (value k) 0) (range_with_len 0 p.cores)
      ∙ sum_by-same (counted_if has (λ k. cond (k == core) (value k) 0)) (λ k. cond (k == core) (value k) 0) (λ k. if_nothing (has k) (k == core) (value k) (nothing k)) (range_with_len 0 p.cores)
      ∙ picks_one value core 0 p.cores (omega arith) (omega (arith, known))
      ∙ is.as_far (at_line core line cs)

  pub line_rows_add_up : core < p.cores → (rows : List LineRow) → AreLineRows p rows → AddsUpTo (total (map (λ row. row.tally) (filter (λ row. row.core == core) rows))) c
  line_rows_add_up known rows are =
      let above : (line : ℕ) → 2 ^ 64 ≤ line → has_line_of_any p line ≡ false = λ line large.
      list_any_none (λ k. has_line cs k line) (range_with_len 0 p.cores) (λ i d within. no_line_above (get_or (range_with_len 0 p.cores) i d) line cs cs_fit large)
      in
      let once = each_once (has_line_of_any p) above are.lines are.all in
      let own : LineRow → Bool = λ row. row.core == core in
      adds_up (total (map (λ row. row.tally) (filter own rows))) c
      (λ field counted count is.
      field_of_total field is.sums (map (λ row. row.tally) (filter own rows))
      ∙ sum_by-map field (λ (row : LineRow). row.tally) (filter own rows)
      ∙ sum_by-filter own (λ row. field row.tally) rows
      ∙ ap (sum_by (counted_if own (λ row. field row.tally))) are.are
      ∙ sum_by-flat_map (counted_if own (λ row. field row.tally)) (rows_at p) are.lines
      ∙ sum_by-same (λ line. sum_by (counted_if own (λ row. field row.tally)) (rows_at p line)) (λ line. capped (field (at_line core line cs))) (of_line known field counted count is) are.lines
      ∙ numbers_add_up field counted count is (λ x. Some x.line) (λ copies pc e. refl) (has_line_of_any p) are.lines once
      (λ line not. found (λ k. has_line cs k line) core p.cores known not))
