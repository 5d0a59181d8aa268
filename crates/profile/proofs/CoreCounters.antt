-- What the steps of a core add up to is what the run counted of it.
use Rattle.std.proofs.Common.{◌≡◌, ℕ, zero, suc, ◌+◌, ◌^◌, ◌<◌, ◌==◌, ◌&&◌, not, Bool, true, false, cond, List, [], ◌∷◌, length, map, sum_by, Some, refl, sym, ◌∙◌, ap, arith}
use Rattle.std.specs.Prelude.{slice_get}
use Rattle.std.specs.List.{range_with_len, zip}
use Rattle.std.proofs.lemmas.Bool.{and_parts, eqb-true}
use Rattle.std.proofs.lemmas.List.FromFn.{length-map-range_with_len}
use Rattle.std.proofs.lemmas.Option.{slice_get_within}
use Rattle.std.proofs.lemmas.List.Sums.{sum_by-append, sum_by-cons}
use Rattle.zs_num.specs.declared.entry.Entry.{Entry}
use Rattle.zs_num.specs.Request.{is_fetch}
use Rattle.elf_load.specs.MemoryImage.{MemoryImage}
use Rattle.machine_desc.specs.declared.machine.Machine.{Machine}
use Rattle.machine_desc.specs.Machine.{IsMachine}
use Rattle.component.specs.declared.comp.Comp.{Comp}
use Rattle.stats.specs.declared.counts.CoreCount.{CoreCount}
use Rattle.stats.specs.Counted.{core_plus, delay_count, entry_count, is_atomic, is_hit, is_l2hit, is_load, is_miss, is_store, is_upgrade, one_if}
use Rattle.stats.specs.CountsFit.{CoreFits}
use Rattle.stats.specs.Counts.{Counts, Interval, core_total, counts_of}
use Rattle.reference.specs.ReferenceRun.{IsRunOf, time_of}
use Rattle.reference.specs.Results.{Results}
use Rattle.trace.specs.Laws.{AccessesAreOfIntervals, CountsAreOfWhatEnded, SumsAreOverIntervals}
use Rattle.trace.specs.Told.{accessed_in, ended_in}
use Rattle.trace.specs.Trace.{Accessed, Ended, Executed, IsTraceOf, Step}
use Rattle.profile_rows.specs.declared.tally.Tally.{Tally}
use Rattle.profile_rows.specs.Tallies.{capped, capped_tally, no_tally, plus}
use Rattle.profile.specs.declared.contribution.Contribution.{Contribution}
use Rattle.profile.specs.declared.copies.CopyState.{CopyState}
use Rattle.profile.specs.Contributions.{Before, access_adds, access_tally, after_step, contributions, nothing_before, steps_add, suffered_tally, suffering, suffers, tally_of, wait_adds}
use Rattle.profile.specs.Copies.{Copies}
use Rattle.profile.specs.Rows.{has_no_access, has_no_change, has_no_class, has_no_cycle, has_no_loss, has_no_outcome, is_something}
use Rattle.profile.specs.Laws.{AddsUpTo, is_by, run_contributions}
use Rattle.profile.specs.Waits.{Wait, event_waits}
use Rattle.profile.proofs.Fields.{IsCount, IsSum, count_of, counted_if, field_of, none_counted, zero_if}

-- A field of tallies counts of an access what a field of a core's counts does, and nothing of waits.
pub record IsCounted (field : Tally → ℕ) (counted : CoreCount → ℕ) (count : Entry → ℕ) : Type 0 where
  pub sums : IsSum field
  pub counts : IsCount counted count
  pub access : (e : Entry) (copy : CopyState) (taken cycles : ℕ) → field (access_tally e copy taken cycles) ≡ count e
  pub suffered : (e : Entry) → field (suffered_tally e) ≡ 0
  pub wait : (cycles : ℕ) → field (record no_tally { waited = cycles }) ≡ 0
  pub nothing : (t : Tally) → is_something t ≡ false → field t ≡ 0
  pub as_far : (t : Tally) → field (capped_tally t) ≡ capped (field t)
  pub fits : (c : CoreCount) → CoreFits c → counted c < 2 ^ 64

-- `test` passes the accesses of a core. Of other contributions it does not matter.
module _ (field : Tally → ℕ) (counted : CoreCount → ℕ) (count : Entry → ℕ) (is : IsCounted field counted count) (core : ℕ) (test : Contribution → Bool) where
  abbrev added : List Contribution → ℕ
  added cs = sum_by (counted_if test (λ c. field c.tally)) cs

  abbrev weight : Entry → ℕ
  weight e = counted_if (λ x. x.core == core) count e

  waits_add : (waits : List Wait) → added (map wait_adds waits) ≡ 0
  waits_add waits = none_counted (counted_if test (λ c. field c.tally)) wait_adds (λ w. zero_if (test (wait_adds w)) (field (record no_tally { waited = w.cycles })) (is.wait w.cycles)) waits

  suffering_adds : (e : Entry) (others : List ℕ) → added (map (suffers e) others) ≡ 0
  suffering_adds e others = none_counted (counted_if test (λ c. field c.tally)) (suffers e) (λ other. zero_if (test (suffers e other)) (field (suffered_tally e)) (is.suffered e)) others

  module _ (time : Entry → ℕ) (cores : ℕ) (passes : (copies : Copies) (pc : ℕ) (e : Entry) → test (access_adds time cores copies pc e) ≡ (e.core == core)) where
    steps_count : (before : Before) (steps : List Step) → added (steps_add time cores before steps) ≡ sum_by weight (accessed_in steps)
    steps_count before [] = refl
    steps_count before (Executed by pc ∷ steps) = steps_count before steps
    steps_count before (Accessed pc e leaving ∷ steps) =
        let own = access_adds time cores before.copies pc e in
        let others = map (suffers e) (suffering cores before.copies e) in
        let counted_own : counted_if test (λ c. field c.tally) own ≡ weight e =
        ap (λ (b : Bool). cond b (field own.tally) 0) (passes before.copies pc e) ∙ ap (λ (n : ℕ). cond (e.core == core) n 0) (is.access e _ _ _)
        in
        omega (
          arith,
          counted_own,
          suffering_adds e (suffering cores before.copies e),
          sum_by-cons (counted_if test (λ c. field c.tally)) own others,
          sum_by-append (counted_if test (λ c. field c.tally)) (own ∷ others) (steps_add time cores (after_step before (Accessed pc e leaving)) steps),
          steps_count (after_step before (Accessed pc e leaving)) steps,
          sum_by-cons weight e (accessed_in steps),
        )
    steps_count before (Ended interval ∷ steps) =
        let waits = event_waits before.makers (zip interval.events interval.fired) in
        omega (
          arith,
          waits_add waits,
          sum_by-append (counted_if test (λ c. field c.tally)) (map wait_adds waits) (steps_add time cores (after_step before (Ended interval)) steps),
          steps_count (after_step before (Ended interval)) steps,
        )

    pub all_count : (steps : List Step) → ((w : Entry → ℕ) → sum_by w (accessed_in steps) ≡ sum_by (λ i. sum_by w i.entries) (ended_in steps))
        → added (contributions time cores steps) ≡ counted (core_total (ended_in steps) core)
    all_count steps over = steps_count nothing_before steps ∙ over weight ∙ sym (count_of counted count is.counts (ended_in steps) core)

-- ---- nothing

not_false : (b : Bool) → not b ≡ false → b ≡ true
not_false true is = refl
not_false false is = cc

no_counts_of : (t : Tally) → is_something t ≡ false → (has_no_access t ≡ true) × (has_no_outcome t ≡ true)
unfolding is_something
no_counts_of t none =
    let all = and_parts (has_no_access t) (has_no_outcome t && (has_no_class t && (has_no_change t && (has_no_loss t && has_no_cycle t)))) (not_false _ none) in
    (all.0, (and_parts (has_no_outcome t) (has_no_class t && (has_no_change t && (has_no_loss t && has_no_cycle t))) all.1).0)

record HasNone (a b c d : ℕ) : Type 0 where
  first : a ≡ 0
  second : b ≡ 0
  third : c ≡ 0
  fourth : d ≡ 0

none_of_four : (a b c d : ℕ) → (a == 0 && (b == 0 && (c == 0 && d == 0))) ≡ true → HasNone a b c d
none_of_four a b c d all =
    let one = and_parts (a == 0) (b == 0 && (c == 0 && d == 0)) all in
    let two = and_parts (b == 0) (c == 0 && d == 0) one.1 in
    let three = and_parts (c == 0) (d == 0) two.1 in
    record { first = eqb-true a 0 one.0; second = eqb-true b 0 two.0; third = eqb-true c 0 three.0; fourth = eqb-true d 0 three.1 }

no_access_of : (t : Tally) → is_something t ≡ false → HasNone t.loads t.stores t.atomics t.fetches
unfolding has_no_access
no_access_of t none = none_of_four t.loads t.stores t.atomics t.fetches (no_counts_of t none).0

no_outcome_of : (t : Tally) → is_something t ≡ false → HasNone t.hits t.upgrades t.l2hits t.misses
unfolding has_no_outcome
no_outcome_of t none = none_of_four t.hits t.upgrades t.l2hits t.misses (no_counts_of t none).1

-- ---- the fields

is_loads : IsCounted (λ t. t.loads) (λ c. c.loads) (λ e. one_if (is_load e.request))
unfolding plus core_plus entry_count delay_count access_tally suffered_tally capped_tally
is_loads = record {
  sums = record { none = refl; both = λ a b. refl };
  counts = record { none = refl; both = λ a b. refl; entry = λ e. refl; delay = λ n. refl };
  access = λ e copy taken cycles. refl;
  suffered = λ e. refl;
  wait = λ n. refl;
  nothing = λ t none. (no_access_of t none).first;
  as_far = λ t. refl;
  fits = λ c fits. fits.loads;
}

is_stores : IsCounted (λ t. t.stores) (λ c. c.stores) (λ e. one_if (is_store e.request))
unfolding plus core_plus entry_count delay_count access_tally suffered_tally capped_tally
is_stores = record {
  sums = record { none = refl; both = λ a b. refl };
  counts = record { none = refl; both = λ a b. refl; entry = λ e. refl; delay = λ n. refl };
  access = λ e copy taken cycles. refl;
  suffered = λ e. refl;
  wait = λ n. refl;
  nothing = λ t none. (no_access_of t none).second;
  as_far = λ t. refl;
  fits = λ c fits. fits.stores;
}

is_atomics : IsCounted (λ t. t.atomics) (λ c. c.atomics) (λ e. one_if (is_atomic e.request))
unfolding plus core_plus entry_count delay_count access_tally suffered_tally capped_tally
is_atomics = record {
  sums = record { none = refl; both = λ a b. refl };
  counts = record { none = refl; both = λ a b. refl; entry = λ e. refl; delay = λ n. refl };
  access = λ e copy taken cycles. refl;
  suffered = λ e. refl;
  wait = λ n. refl;
  nothing = λ t none. (no_access_of t none).third;
  as_far = λ t. refl;
  fits = λ c fits. fits.atomics;
}

is_fetches : IsCounted (λ t. t.fetches) (λ c. c.fetches) (λ e. one_if (is_fetch e.request))
unfolding plus core_plus entry_count delay_count access_tally suffered_tally capped_tally
is_fetches = record {
  sums = record { none = refl; both = λ a b. refl };
  counts = record { none = refl; both = λ a b. refl; entry = λ e. refl; delay = λ n. refl };
  access = λ e copy taken cycles. refl;
  suffered = λ e. refl;
  wait = λ n. refl;
  nothing = λ t none. (no_access_of t none).fourth;
  as_far = λ t. refl;
  fits = λ c fits. fits.fetches;
}

is_hits : IsCounted (λ t. t.hits) (λ c. c.hits) (λ e. one_if (is_hit e.outcome))
unfolding plus core_plus entry_count delay_count access_tally suffered_tally capped_tally
is_hits = record {
  sums = record { none = refl; both = λ a b. refl };
  counts = record { none = refl; both = λ a b. refl; entry = λ e. refl; delay = λ n. refl };
  access = λ e copy taken cycles. refl;
  suffered = λ e. refl;
  wait = λ n. refl;
  nothing = λ t none. (no_outcome_of t none).first;
  as_far = λ t. refl;
  fits = λ c fits. fits.hits;
}

is_upgrades : IsCounted (λ t. t.upgrades) (λ c. c.upgrades) (λ e. one_if (is_upgrade e.outcome))
unfolding plus core_plus entry_count delay_count access_tally suffered_tally capped_tally
is_upgrades = record {
  sums = record { none = refl; both = λ a b. refl };
  counts = record { none = refl; both = λ a b. refl; entry = λ e. refl; delay = λ n. refl };
  access = λ e copy taken cycles. refl;
  suffered = λ e. refl;
  wait = λ n. refl;
  nothing = λ t none. (no_outcome_of t none).second;
  as_far = λ t. refl;
  fits = λ c fits. fits.upgrades;
}

is_l2hits : IsCounted (λ t. t.l2hits) (λ c. c.l2hits) (λ e. one_if (is_l2hit e.outcome))
unfolding plus core_plus entry_count delay_count access_tally suffered_tally capped_tally
is_l2hits = record {
  sums = record { none = refl; both = λ a b. refl };
  counts = record { none = refl; both = λ a b. refl; entry = λ e. refl; delay = λ n. refl };
  access = λ e copy taken cycles. refl;
  suffered = λ e. refl;
  wait = λ n. refl;
  nothing = λ t none. (no_outcome_of t none).third;
  as_far = λ t. refl;
  fits = λ c fits. fits.l2hits;
}

is_misses : IsCounted (λ t. t.misses) (λ c. c.misses) (λ e. one_if (is_miss e.outcome))
unfolding plus core_plus entry_count delay_count access_tally suffered_tally capped_tally
is_misses = record {
  sums = record { none = refl; both = λ a b. refl };
  counts = record { none = refl; both = λ a b. refl; entry = λ e. refl; delay = λ n. refl };
  access = λ e copy taken cycles. refl;
  suffered = λ e. refl;
  wait = λ n. refl;
  nothing = λ t none. (no_outcome_of t none).fourth;
  as_far = λ t. refl;
  fits = λ c fits. fits.misses;
}

-- a tally adds up to the counts, where each such field does
pub adds_up : (t : Tally) (c : CoreCount) → ((field : Tally → ℕ) (counted : CoreCount → ℕ) (count : Entry → ℕ) → IsCounted field counted count → field t ≡ counted c) → AddsUpTo t c
adds_up t c each = record {
  loads = each _ _ _ is_loads;
  stores = each _ _ _ is_stores;
  atomics = each _ _ _ is_atomics;
  fetches = each _ _ _ is_fetches;
  hits = each _ _ _ is_hits;
  upgrades = each _ _ _ is_upgrades;
  l2hits = each _ _ _ is_l2hits;
  misses = each _ _ _ is_misses;
}

-- ---- the run

total_at : (intervals : List Interval) (from n i : ℕ) (c : CoreCount) → slice_get (map (core_total intervals) (range_with_len from n)) i ≡ Some c → c ≡ core_total intervals (from + i)
total_at intervals from zero i c is = cc
total_at intervals from (suc n) zero c is =
    let here : c ≡ core_total intervals from = cc in
    here ∙ ap (core_total intervals) (let at : from ≡ from + 0 = omega arith in at)
total_at intervals from (suc n) (suc i) c is =
    total_at intervals (from + 1) n i c is ∙ ap (core_total intervals) (let at : from + 1 + i ≡ from + suc i = omega arith in at)

pub core_counts_are : (cores : ℕ) (comps : List Comp) (intervals : List Interval) → (counts_of cores comps intervals).core_counts ≡ map (core_total intervals) (range_with_len 0 cores)
unfolding counts_of
core_counts_are cores comps intervals = refl

-- the counts of a core are those of the intervals that ended
pub core_count_is : (ended : CountsAreOfWhatEnded)
    → (machine : Machine) (image : MemoryImage) (lists : List (List ℕ)) (steps : List Step) (results : Results) → IsTraceOf machine image lists steps → IsRunOf machine image lists results
    → (core : ℕ) (c : CoreCount) → slice_get results.counts.core_counts core ≡ Some c → c ≡ core_total (ended_in steps) core
core_count_is ended machine image lists steps results trace run core c here =
    let counts = ended machine image lists steps results trace run in
    let listed : results.counts.core_counts ≡ map (core_total (ended_in steps)) (range_with_len 0 machine.cores) =
    ap (λ (x : Counts). x.core_counts) counts.1 ∙ core_counts_are machine.cores counts.0 (ended_in steps)
    in
    total_at (ended_in steps) 0 machine.cores core c (sym (ap (λ (cs : List CoreCount). slice_get cs core) listed) ∙ here) ∙ ap (core_total (ended_in steps)) (let at : 0 + core ≡ core = omega arith in at)

-- a core that has counts is one of the machine's
pub core_is_known : (ended : CountsAreOfWhatEnded)
    → (machine : Machine) (image : MemoryImage) (lists : List (List ℕ)) (steps : List Step) (results : Results) → IsTraceOf machine image lists steps → IsRunOf machine image lists results
    → (core : ℕ) (c : CoreCount) → slice_get results.counts.core_counts core ≡ Some c → core < machine.cores
core_is_known ended machine image lists steps results trace run core c here =
    let counts = ended machine image lists steps results trace run in
    let listed : results.counts.core_counts ≡ map (core_total (ended_in steps)) (range_with_len 0 machine.cores) =
    ap (λ (x : Counts). x.core_counts) counts.1 ∙ core_counts_are machine.cores counts.0 (ended_in steps)
    in
    omega (arith, slice_get_within results.counts.core_counts core c here, ap length listed, length-map-range_with_len (core_total (ended_in steps)) 0 machine.cores)

pub core_counters : (ended : CountsAreOfWhatEnded) (accesses : AccessesAreOfIntervals) (sums : SumsAreOverIntervals)
    → (machine : Machine) (image : MemoryImage) (lists : List (List ℕ)) (steps : List Step) (results : Results) → IsMachine machine
    → IsTraceOf machine image lists steps → IsRunOf machine image lists results
    → (core : ℕ) (c : CoreCount) → slice_get results.counts.core_counts core ≡ Some c → AddsUpTo (tally_of (is_by core) (run_contributions machine steps)) c
core_counters ended accesses sums machine image lists steps results machine_is trace run core c here =
    let c_is = core_count_is ended machine image lists steps results trace run core c here in
    let over = sums machine steps (accesses machine image lists steps results machine_is trace run) in
    adds_up (tally_of (is_by core) (run_contributions machine steps)) c
    (λ field counted count is. field_of field is.sums (is_by core) (run_contributions machine steps) ∙ all_count field counted count is core (is_by core) (time_of machine) machine.cores (λ copies pc e. refl) steps over ∙ sym (ap counted c_is))
