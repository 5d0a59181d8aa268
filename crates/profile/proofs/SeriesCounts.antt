-- What each column of a series adds up to.
use Rattle.std.proofs.Common.{◌≡◌, ℕ, zero, suc, ◌+◌, ◌<◌, ◌==◌, cond, List, [], ◌∷◌, ◌++◌, length, map, filter, fold, replicate, sum_by, Some, refl, sym, ◌∙◌, ap, subst, arith}
use Rattle.std.specs.Prelude.{slice_get, slice_index, slice_index_or}
use Rattle.std.specs.List.{enumerate_from, range_with_len, zip}
use Rattle.std.proofs.lemmas.List.FromFn.{get_or-map-range_with_len}
use Rattle.std.proofs.lemmas.List.Sums.{sum_by-cons, sum_by_push}
use Rattle.std.proofs.lemmas.Option.{slice_get_within}
use Rattle.zs_num.specs.declared.entry.Entry.{Entry}
use Rattle.elf_load.specs.MemoryImage.{MemoryImage}
use Rattle.machine_desc.specs.declared.machine.Machine.{Machine}
use Rattle.machine_desc.specs.Machine.{IsMachine}
use Rattle.component.specs.declared.comp.Comp.{Comp}
use Rattle.event_graph.specs.declared.access_path.AccessPath.{AccessPath}
use Rattle.event_graph.specs.declared.event.Event.{Event}
use Rattle.event_graph.specs.declared.fired.Fired.{Fired}
use Rattle.noc_mesh.specs.NetTiming.{net_time}
use Rattle.stats.specs.declared.counts.CompCount.{CompCount}
use Rattle.stats.specs.declared.counts.CoreCount.{CoreCount}
use Rattle.stats.specs.Counted.{comp_plus, core_sum, event_count, no_comp_count}
use Rattle.stats.specs.Counts.{Counts, Interval, comp_count_in, comp_total, core_total, counts_of}
use Rattle.reference.specs.ReferenceRun.{IsRunOf, time_of}
use Rattle.reference.specs.Results.{Results}
use Rattle.trace.specs.Laws.{AccessesAreOfIntervals, AllInstructionsAreTold, CountsAreOfWhatEnded, EndBehindTheirAccesses, IntervalsAreTheRuns, SumsAreOverIntervals}
use Rattle.trace.specs.Told.{accessed_in, all_instructions_of, ended_in, instructions_left, is_instruction}
use Rattle.trace.specs.Trace.{Accessed, Ended, Executed, IsTraceOf, Step}
use Rattle.profile_rows.specs.declared.tally.Tally.{Tally}
use Rattle.profile_rows.specs.Tallies.{total}
use Rattle.profile.specs.Contributions.{Before, access_adds, after_step, nothing_before}
use Rattle.profile.specs.Laws.{CountTheRun, IsProfileOf}
use Rattle.profile.specs.Profiled.{Profiled, series_in}
use Rattle.profile.specs.Series.{Series, SeriesSums, no_series, series_after, series_from, series_of, waited_at, with_interval}
use Rattle.profile.proofs.CoreCounters.{IsCounted, adds_up}
use Rattle.profile.proofs.CoresTogether.{cores_count}
use Rattle.profile.proofs.Fields.{field_of_total, sum_by-map, sum_by-same}
use Rattle.profile.proofs.SeriesAddUp.{IsMeasure, series_sum, weights}

-- ---- columns

intervals_measure : (comps : ℕ) → IsMeasure comps (λ s. s.intervals) (λ begun. 0) (λ events fired. 1)
unfolding with_interval
intervals_measure comps = record { none = λ first. refl; more = λ begun events fired s long. omega arith; nothing = refl }

instructions_measure : (comps : ℕ) → IsMeasure comps (λ s. s.instructions) (λ begun. begun.instructions) (λ events fired. 0)
unfolding with_interval
instructions_measure comps = record { none = λ first. refl; more = λ begun events fired s long. omega arith; nothing = refl }

events_measure : (comps : ℕ) → IsMeasure comps (λ s. s.events) (λ begun. 0) (λ events fired. length events)
unfolding with_interval
events_measure comps = record { none = λ first. refl; more = λ begun events fired s long. omega arith; nothing = refl }

field_measure : (comps : ℕ) (field : Tally → ℕ) (counted : CoreCount → ℕ) (count : Entry → ℕ) → IsCounted field counted count → IsMeasure comps (λ s. field s.tally) (λ begun. field begun.tally) (λ events fired. 0)
unfolding with_interval
field_measure comps field counted count is = record {
  none = λ first. is.sums.none;
  more = λ begun events fired s long. omega (arith, is.sums.both s.tally begun.tally);
  nothing = is.sums.none;
}

pub no_waits : (n i : ℕ) → slice_index (replicate n 0) i ≡ 0
no_waits zero i = refl
no_waits (suc n) zero = refl
no_waits (suc n) (suc i) = no_waits n i

waits_measure : (comps comp : ℕ) → comp < comps → IsMeasure comps (λ s. slice_index_or s.waits comp 0) (λ begun. 0) (λ events fired. waited_at (zip events fired) comp)
unfolding with_interval
waits_measure comps comp known = record {
  none = λ first. no_waits comps comp;
  more = λ begun events fired s long.
      omega (arith, get_or-map-range_with_len (λ k. slice_index_or s.waits k 0 + waited_at (zip events fired) k) 0 (length s.waits) comp comp 0 (omega (arith, known, long)) (omega arith));
  nothing = refl;
}

-- ---- what all steps count

module _ (time : Entry → ℕ) (cores comps every : ℕ) where
  -- what is counted of events alone
  events_weigh : (measure : SeriesSums → ℕ) (of_events : List Event → List Fired → ℕ) (is : IsMeasure comps measure (λ begun. 0) of_events) (before : Before) (steps : List Step)
      → weights comps every measure (λ begun. 0) of_events is time cores 0 (λ t. 0) (λ begun. refl) (λ begun t. refl) before steps ≡ sum_by (λ (i : Interval). of_events i.events i.fired) (ended_in steps)
  events_weigh measure of_events is before [] = refl
  events_weigh measure of_events is before (Executed core pc ∷ steps) = omega (arith, events_weigh measure of_events is before steps)
  events_weigh measure of_events is before (Accessed pc e leaving ∷ steps) = omega (arith, events_weigh measure of_events is (after_step before (Accessed pc e leaving)) steps)
  events_weigh measure of_events is before (Ended i ∷ steps) =
      omega (arith, events_weigh measure of_events is (after_step before (Ended i)) steps, sum_by-cons (λ (x : Interval). of_events x.events x.fired) i (ended_in steps))

  events_sum : (measure : SeriesSums → ℕ) (of_events : List Event → List Fired → ℕ) → IsMeasure comps measure (λ begun. 0) of_events → (steps : List Step)
      → sum_by measure (series_of time cores comps every steps).rows ≡ sum_by (λ (i : Interval). of_events i.events i.fired) (ended_in steps)
  events_sum measure of_events is steps =
      omega (
        arith,
        series_sum comps every measure (λ begun. 0) of_events is time cores 0 (λ t. 0) (λ begun. refl) (λ begun t. refl) nothing_before no_series steps tt,
        events_weigh measure of_events is nothing_before steps,
      )

  -- what is counted of instructions
  instructions_weigh : (before : Before) (steps : List Step)
      → weights comps every (λ s. s.instructions) (λ begun. begun.instructions) (λ events fired. 0) (instructions_measure comps) time cores 1 (λ t. 0) (λ begun. refl) (λ begun t. omega arith) before steps ≡ all_instructions_of steps
  instructions_weigh before [] = refl
  instructions_weigh before (Executed core pc ∷ steps) = omega (arith, instructions_weigh before steps, sum_by-cons (λ (x : Step). cond (is_instruction x) 1 0) (Executed core pc) steps)
  instructions_weigh before (Accessed pc e leaving ∷ steps) =
      omega (arith, instructions_weigh (after_step before (Accessed pc e leaving)) steps, sum_by-cons (λ (x : Step). cond (is_instruction x) 1 0) (Accessed pc e leaving) steps)
  instructions_weigh before (Ended i ∷ steps) =
      omega (arith, instructions_weigh (after_step before (Ended i)) steps, sum_by-cons (λ (x : Step). cond (is_instruction x) 1 0) (Ended i) steps)

  instructions_begun : (before : Before) (s : Series) (steps : List Step) → (series_from time cores comps every before s steps).begun.instructions ≡ instructions_left s.begun.instructions steps
  instructions_begun before s [] = refl
  instructions_begun before s (Executed core pc ∷ steps) = instructions_begun before (series_after time cores comps every before s (Executed core pc)) steps
  instructions_begun before s (Accessed pc e leaving ∷ steps) =
      instructions_begun (after_step before (Accessed pc e leaving)) (series_after time cores comps every before s (Accessed pc e leaving)) steps
  instructions_begun before s (Ended i ∷ steps) = instructions_begun (after_step before (Ended i)) (series_after time cores comps every before s (Ended i)) steps

  instructions_sum : (steps : List Step) → instructions_left 0 steps ≡ 0 → sum_by (λ row. row.instructions) (series_of time cores comps every steps).rows ≡ all_instructions_of steps
  instructions_sum steps none =
      omega (
        arith,
        series_sum comps every (λ s. s.instructions) (λ begun. begun.instructions) (λ events fired. 0) (instructions_measure comps) time cores 1 (λ t. 0) (λ begun. refl) (λ begun t. omega arith) nothing_before no_series steps tt,
        instructions_weigh nothing_before steps,
        instructions_begun nothing_before no_series steps,
        none,
      )

  -- what is counted of accesses
  module _ (field : Tally → ℕ) (counted : CoreCount → ℕ) (count : Entry → ℕ) (is : IsCounted field counted count) where
    accesses_weigh : (before : Before) (steps : List Step)
        → weights comps every (λ s. field s.tally) (λ begun. field begun.tally) (λ events fired. 0) (field_measure comps field counted count is) time cores 0 field (λ begun. omega arith) (λ begun t. is.sums.both begun.tally t) before steps
        ≡ sum_by count (accessed_in steps)
    accesses_weigh before [] = refl
    accesses_weigh before (Executed core pc ∷ steps) = omega (arith, accesses_weigh before steps)
    accesses_weigh before (Accessed pc e leaving ∷ steps) =
        let own : field (access_adds time cores before.copies pc e).tally ≡ count e = is.access e _ _ _ in
        omega (arith, accesses_weigh (after_step before (Accessed pc e leaving)) steps, own, sum_by-cons count e (accessed_in steps))
    accesses_weigh before (Ended i ∷ steps) = omega (arith, accesses_weigh (after_step before (Ended i)) steps)

    accesses_begun : (machine : Machine) (so_far : List Entry) (before : Before) (s : Series) (steps : List Step) → field s.begun.tally ≡ sum_by count so_far → EndBehindTheirAccesses machine so_far steps
        → field (series_from time cores comps every before s steps).begun.tally ≡ 0
    accesses_begun machine so_far before s [] same ends = same ∙ ap (sum_by count) ends
    accesses_begun machine so_far before s (Executed core pc ∷ steps) same ends = accesses_begun machine so_far before (series_after time cores comps every before s (Executed core pc)) steps same ends
    accesses_begun machine so_far before s (Accessed pc e leaving ∷ steps) same ends =
        let own : field (access_adds time cores before.copies pc e).tally ≡ count e = is.access e _ _ _ in
        accesses_begun machine (so_far ++ e ∷ []) (after_step before (Accessed pc e leaving)) (series_after time cores comps every before s (Accessed pc e leaving)) steps
        (omega (arith, is.sums.both s.begun.tally (access_adds time cores before.copies pc e).tally, same, own, sum_by_push count so_far e)) ends
    accesses_begun machine so_far before s (Ended i ∷ steps) same ends =
        accesses_begun machine [] (after_step before (Ended i)) (series_after time cores comps every before s (Ended i)) steps is.sums.none ends.1

    accesses_sum : (machine : Machine) (steps : List Step) → EndBehindTheirAccesses machine [] steps
        → field (total (map (λ row. row.tally) (series_of time cores comps every steps).rows)) ≡ sum_by count (accessed_in steps)
    accesses_sum machine steps ends =
        let rows : List SeriesSums = (series_of time cores comps every steps).rows in
        omega (
          arith,
          field_of_total field is.sums (map (λ row. row.tally) rows),
          sum_by-map field (λ (row : SeriesSums). row.tally) rows,
          series_sum comps every (λ s. field s.tally) (λ begun. field begun.tally) (λ events fired. 0) (field_measure comps field counted count is) time cores 0 field (λ begun. omega arith) (λ begun t. is.sums.both begun.tally t) nothing_before no_series steps tt,
          accesses_weigh nothing_before steps,
          accesses_begun machine [] nothing_before no_series steps is.sums.none ends,
          is.sums.none,
        )

-- ---- components

fold_waited : (a : CompCount) (cs : List CompCount) → (fold comp_plus a cs).waited ≡ a.waited + sum_by (λ c. c.waited) cs
fold_waited a [] = omega arith
fold_waited a (c ∷ cs) = omega (arith, fold_waited (comp_plus a c) cs, sum_by-cons (λ (x : CompCount). x.waited) c cs)

waited_in_interval : (i : Interval) (comp : ℕ) → (comp_count_in i comp).waited ≡ waited_at (zip i.events i.fired) comp
waited_in_interval i comp =
    let own = filter (λ x. x.0.component == comp) (zip i.events i.fired) in
    omega (arith, fold_waited no_comp_count (map event_count own), sum_by-map (λ (c : CompCount). c.waited) event_count own)

pub waited_in_all : (intervals : List Interval) (comp : ℕ) (c : Comp) → (comp_total intervals comp c).waited ≡ sum_by (λ (i : Interval). waited_at (zip i.events i.fired) comp) intervals
waited_in_all intervals comp c =
    omega (
      arith,
      fold_waited no_comp_count (map (λ (i : Interval). comp_count_in i comp) intervals),
      sum_by-map (λ (x : CompCount). x.waited) (λ (i : Interval). comp_count_in i comp) intervals,
      sum_by-same (λ (i : Interval). (comp_count_in i comp).waited) (λ (i : Interval). waited_at (zip i.events i.fired) comp) (λ i. waited_in_interval i comp) intervals,
    )

comp_at : (intervals : List Interval) (from : ℕ) (comps : List Comp) (i : ℕ) (c : CompCount) → slice_get (map (λ at. comp_total intervals at.0 at.1) (enumerate_from from comps)) i ≡ Some c
    → (comp : Comp) × (c ≡ comp_total intervals (from + i) comp)
comp_at intervals from [] i c is = cc
comp_at intervals from (x ∷ comps) zero c is =
    let here : c ≡ comp_total intervals from x = cc in
    (x, here ∙ ap (λ (n : ℕ). comp_total intervals n x) (let at : from ≡ from + 0 = omega arith in at))
comp_at intervals from (x ∷ comps) (suc i) c is =
    let rest = comp_at intervals (from + 1) comps i c is in
    (rest.0, rest.1 ∙ ap (λ (n : ℕ). comp_total intervals n rest.0) (let at : from + 1 + i ≡ from + suc i = omega arith in at))

pub comp_counts_are : (cores : ℕ) (comps : List Comp) (intervals : List Interval) → (counts_of cores comps intervals).comp_counts ≡ map (λ at. comp_total intervals at.0 at.1) (enumerate_from 0 comps)
unfolding counts_of
comp_counts_are cores comps intervals = refl

events_are : (cores : ℕ) (comps : List Comp) (intervals : List Interval) → (counts_of cores comps intervals).events ≡ sum_by (λ (i : Interval). length i.events) intervals
unfolding counts_of
events_are cores comps intervals = refl

cores_are : (cores : ℕ) (comps : List Comp) (intervals : List Interval) → (counts_of cores comps intervals).core_counts ≡ map (core_total intervals) (range_with_len 0 cores)
unfolding counts_of
cores_are cores comps intervals = refl

count_ones : (intervals : List Interval) → sum_by (λ (i : Interval). 1) intervals ≡ length intervals
count_ones [] = refl
count_ones (i ∷ intervals) = omega (arith, count_ones intervals, sum_by-cons (λ (x : Interval). 1) i intervals)

-- ---- the run

series_is : (machine : Machine) (steps : List Step) (p : Profiled) → IsProfileOf machine steps p → series_in p ≡ series_of (time_of machine) machine.cores p.comps p.every steps
series_is machine steps p of =
    ap (λ (path : AccessPath). series_of (net_time path) p.cores p.comps p.every p.steps) of.path
    ∙ ap (λ (cores : ℕ). series_of (time_of machine) cores p.comps p.every p.steps) of.cores
    ∙ ap (series_of (time_of machine) machine.cores p.comps p.every) of.steps_are

pub series_counts : (ended : IntervalsAreTheRuns) (counted : CountsAreOfWhatEnded) (told : AllInstructionsAreTold) (accesses : AccessesAreOfIntervals) (sums : SumsAreOverIntervals)
    → (machine : Machine) (image : MemoryImage) (lists : List (List ℕ)) (steps : List Step) (results : Results) → IsMachine machine → IsTraceOf machine image lists steps → IsRunOf machine image lists results
    → (p : Profiled) → IsProfileOf machine steps p → p.comps ≡ length results.counts.comp_counts → CountTheRun results (series_in p).rows
series_counts ended counted told accesses sums machine image lists steps results machine_is trace run p of many =
    let time : Entry → ℕ = time_of machine in
    let intervals : List Interval = ended_in steps in
    let all = told machine image lists steps results trace run in
    let counts = counted machine image lists steps results trace run in
    let end = ended machine image lists steps results trace run in
    let ends = accesses machine image lists steps results machine_is trace run in
    let as_many : results.intervals ≡ length intervals = ap (λ (r : Results). r.intervals) end.1.gives ∙ ap length (sym end.2) in
    let cores : core_sum results.counts.core_counts ≡ core_sum (map (core_total intervals) (range_with_len 0 machine.cores)) =
    ap (λ (x : Counts). core_sum x.core_counts) counts.1 ∙ ap core_sum (cores_are machine.cores counts.0 intervals)
    in
    let events : results.counts.events ≡ sum_by (λ (i : Interval). length i.events) intervals = ap (λ (x : Counts). x.events) counts.1 ∙ events_are machine.cores counts.0 intervals in
    let comps : results.counts.comp_counts ≡ map (λ at. comp_total intervals at.0 at.1) (enumerate_from 0 counts.0) = ap (λ (x : Counts). x.comp_counts) counts.1 ∙ comp_counts_are machine.cores counts.0 intervals in
    let rows : List SeriesSums = (series_of time machine.cores p.comps p.every steps).rows in
    subst (λ (s : Series). CountTheRun results s.rows) (sym (series_is machine steps p of)) (record {
      intervals = events_sum time machine.cores p.comps p.every (λ s. s.intervals) (λ es fs. 1) (intervals_measure p.comps) steps ∙ count_ones intervals ∙ sym as_many;
      instructions = instructions_sum time machine.cores p.comps p.every steps all.1 ∙ sym all.0;
      accesses = adds_up (total (map (λ row. row.tally) rows)) (core_sum results.counts.core_counts)
          (λ field count_of_core count is.
          accesses_sum time machine.cores p.comps p.every field count_of_core count is machine steps ends
          ∙ cores_count machine steps ends (sums machine steps ends) count_of_core count is.counts
          ∙ sym (ap count_of_core cores));
      events = events_sum time machine.cores p.comps p.every (λ s. s.events) (λ es fs. length es) (events_measure p.comps) steps ∙ sym events;
      waits = λ comp c here.
          let known : comp < p.comps = omega (arith, many, slice_get_within results.counts.comp_counts comp c here) in
          let found = comp_at intervals 0 counts.0 comp c (sym (ap (λ (cs : List CompCount). slice_get cs comp) comps) ∙ here) in
          let waited : c.waited ≡ (comp_total intervals (0 + comp) found.0).waited = ap (λ (x : CompCount). x.waited) found.1 in
          events_sum time machine.cores p.comps p.every (λ s. slice_index_or s.waits comp 0) (λ es fs. waited_at (zip es fs) comp) (waits_measure p.comps comp known) steps
          ∙ sym (waited ∙ waited_in_all intervals (0 + comp) found.0 ∙ ap (λ (n : ℕ). sum_by (λ (i : Interval). waited_at (zip i.events i.fired) n) intervals) (let at : 0 + comp ≡ comp = omega arith in at));
    })
