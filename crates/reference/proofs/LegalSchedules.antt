-- What a legal schedule has of each access and each interval of its run.
use Rattle.std.proofs.Common.{◌≡◌, ℕ, ◌+◌, ◌<◌, ◌≤◌, Bool, true, false, if◌then◌else◌, List, [], ◌∷◌, length, Option, Some, None, Result, Ok, Err, All, refl, ◌∙◌, ap, subst, arith}
use Rattle.std.specs.Prelude.{slice_get, sum_by}
use Rattle.std.specs.Option.{option_and_then, option_map}
use Rattle.std.proofs.lemmas.List.{length-append, length-map, length-set}
use Rattle.std.proofs.lemmas.List.Elements.{All-cons, All-nil}
use Rattle.std.proofs.lemmas.List.FromFn.{length-map-range_with_len}
use Rattle.std.proofs.lemmas.List.Sums.{sum_by-cons, sum_by_push}
use Rattle.std.proofs.lemmas.Option.{slice_get_within}
use Rattle.zs_num.specs.declared.entry.Entry.{Entry}
use Rattle.zs_num.specs.declared.request.Request.{Request}
use Rattle.elf_load.specs.MemoryImage.{MemoryImage}
use Rattle.machine_desc.specs.declared.machine.Machine.{Machine}
use Rattle.component.specs.declared.comp.Comp.{Comp}
use Rattle.stats.specs.Counts.{Interval, total_accesses}
use Rattle.reference.specs.MachineWorld.{MachineWorld, serve}
use Rattle.reference.specs.ReferenceMachine.{BoundState, access_served, and_then, are_done, at_end, bound_from, legal_at, turn, turn_at}
use Rattle.reference.specs.TimedCore.{TimedCore, asks, first_core, ran_to}
use Rattle.access_log.specs.RecordedOrder.{recorded_order}
use Rattle.reference.proofs.Recorded.{length_recorded}
use Rattle.reference.specs.Laws.{FitsRun}
use Rattle.reference.specs.ReferenceRun.{Illegal, RunState, after_interval, after_intervals, after_weave, begun_interval, continued, end_of, first_state, has_ended, next_place, reference_run, results_at, run_results, time_of, woven_after, woven_interval}
use Rattle.reference.specs.Results.{Results}
use Rattle.reference.proofs.Delayed.{delayed_many}
use Rattle.reference.proofs.BelowLimits.{goes_on}
use Rattle.reference.proofs.FirstIntervals.{counted_accesses}

-- ---- a bound phase

module _ {World : Type 0} (serve_by : World → (core start : ℕ) → Request → Entry × World) (time : Entry → ℕ) (image : MemoryImage) (end : ℕ) where
  -- a turn has one access, and is of a core that is there
  record HasTurned (s t : BoundState World) (number : ℕ) : Type 0 where
    entries : length t.entries ≡ length s.entries + 1
    cores : length t.cores ≡ length s.cores
    known : number < length s.cores

  served : (s : BoundState World) (number : ℕ) (c : TimedCore) (request : Option Request) (t : BoundState World) → number < length s.cores
      → option_map (λ r. access_served serve_by time image end s number c (serve_by s.world number c.clock r)) request ≡ Some t → HasTurned s t number
  served s number c None t known e = cc
  served s number c (Some r) t known e =
      let after = access_served serve_by time image end s number c (serve_by s.world number c.clock r) in
      let is : after ≡ t = cc in
      subst (λ (x : BoundState World). HasTurned s x number) is (record {
        entries = length-append s.entries _;
        cores = length-set s.cores number _;
        known = known;
      })

  turned_by : (s : BoundState World) (number : ℕ) (found : Option TimedCore) (t : BoundState World) → slice_get s.cores number ≡ found
      → option_and_then (λ c. turn_at serve_by time image end s number (ran_to image end c)) found ≡ Some t → HasTurned s t number
  turned_by s number None t is e = cc
  turned_by s number (Some c) t is e =
      let ran = ran_to image end c in
      served s number ran (asks ran) t (slice_get_within s.cores number c is) e

  -- the turns of a list
  record HaveTurned (s b : BoundState World) (numbers : List ℕ) : Type 0 where
    entries : length b.entries ≡ length s.entries + length numbers
    cores : length b.cores ≡ length s.cores
    known : All (λ number. number < length s.cores) numbers

  ended : (place : ℕ) (done : Bool) (s b : BoundState World) → (if done then Ok (at_end image end s) else Err place) ≡ Ok b → HaveTurned s b []
  ended place false s b e = cc
  ended place true s b e =
      let is : at_end image end s ≡ b = cc in
      subst (λ (x : BoundState World). HaveTurned s x []) is (record {
        entries = omega arith;
        cores = length-map s.cores (ran_to image end);
        known = All-nil (λ (k : ℕ). k < length s.cores);
      })

  have_turned : (place : ℕ) (numbers : List ℕ) (s b : BoundState World) → bound_from serve_by time image end place numbers s ≡ Ok b → HaveTurned s b numbers
  have_turned place [] s b e = ended place (are_done image end s) s b e
  have_turned place (number ∷ numbers) s b e =
      let rest : (o : Option (BoundState World)) → turn serve_by time image end s number ≡ o
      → and_then (bound_from serve_by time image end (place + 1) numbers) (legal_at place o) ≡ Ok b → HaveTurned s b (number ∷ numbers) =
      λ o. elim o as (λ v. turn serve_by time image end s number ≡ v
      → and_then (bound_from serve_by time image end (place + 1) numbers) (legal_at place v) ≡ Ok b → HaveTurned s b (number ∷ numbers)) [
        | None ↦ λ is f. cc
        | Some t ↦ λ is f.
            let one = turned_by s number (slice_get s.cores number) t refl is in
            let more = have_turned (place + 1) numbers t b f in
            record {
              entries = omega (arith, one.entries, more.entries);
              cores = more.cores ∙ one.cores;
              known = All-cons (λ (k : ℕ). k < length s.cores) number numbers one.known (subst (λ (n : ℕ). All (λ k. k < n) numbers) one.cores more.known);
            }
      ]
      in
      rest (turn serve_by time image end s number) refl e

-- ---- an interval

record HasAdvanced (s t : RunState) (turns : List ℕ) : Type 0 where
  intervals : length t.intervals ≡ length s.intervals + 1
  accesses : total_accesses t.intervals ≡ total_accesses s.intervals + length turns
  cores : length t.cores ≡ length s.cores
  known : All (λ number. number < length s.cores) turns

interval_entries : (machine : Machine) (comps : List Comp) (entries : List Entry) → (woven_interval machine comps entries).entries ≡ entries
unfolding woven_interval
interval_entries machine comps entries = refl

woven : (machine : Machine) (s : RunState) (b : BoundState MachineWorld) (turns : List ℕ) → length b.entries ≡ length turns → length b.cores ≡ length s.cores
    → All (λ number. number < length s.cores) turns → HasAdvanced s (after_weave machine s b) turns
unfolding after_weave
woven machine s b turns entries cores known =
    let interval = woven_interval machine s.comps (recorded_order b.entries) in
    let count : length interval.entries ≡ length turns = ap length (interval_entries machine s.comps (recorded_order b.entries)) ∙ length_recorded b.entries ∙ entries in
    record {
      intervals = length-append s.intervals (interval ∷ []);
      accesses = sum_by_push (λ (i : Interval). length i.entries) s.intervals interval ∙ ap (λ (n : ℕ). total_accesses s.intervals + n) count;
      cores = delayed_many interval.delays b.cores ∙ cores;
      known = known;
    }

advanced_by : (machine : Machine) (s t : RunState) (turns : List ℕ) (o : Result (BoundState MachineWorld) ℕ) → ((b : BoundState MachineWorld) → o ≡ Ok b → HasAdvanced s (after_weave machine s b) turns)
    → woven_after machine s o ≡ Ok t → HasAdvanced s t turns
advanced_by machine s t turns (Err place) each e = cc
advanced_by machine s t turns (Ok b) each e =
    let is : after_weave machine s b ≡ t = cc in
    subst (λ (x : RunState). HasAdvanced s x turns) is (each b refl)

advanced : (machine : Machine) (image : MemoryImage) (s t : RunState) (turns : List ℕ) → after_interval machine image s turns ≡ Ok t → HasAdvanced s t turns
advanced machine image s t turns e =
    let phase = bound_from serve (time_of machine) image (end_of machine s) 0 turns (begun_interval machine s) in
    let each : (b : BoundState MachineWorld) → phase ≡ Ok b → HasAdvanced s (after_weave machine s b) turns = λ b is.
    let all = have_turned serve (time_of machine) image (end_of machine s) 0 turns (begun_interval machine s) b is in
    woven machine s b turns (omega (arith, all.entries)) all.cores all.known
    in
    advanced_by machine s t turns phase each e

-- ---- all intervals

record HaveAdvanced (machine : Machine) (s t : RunState) (lists : List (List ℕ)) : Type 0 where
  intervals : length t.intervals ≡ length s.intervals + length lists
  accesses : total_accesses t.intervals ≡ total_accesses s.intervals + sum_by length lists
  known : All (λ turns. All (λ number. number < length s.cores) turns) lists
  few : length s.intervals ≤ machine.intervals → length t.intervals ≤ machine.intervals

-- what a test let pass
let_on : (test : Bool) (next : Result RunState Illegal) (rest : RunState → Result RunState Illegal) (stop : Illegal) (last : RunState) → (if test then Err stop else continued rest next) ≡ Ok last
    → (test ≡ false) × ((t : RunState) × (next ≡ Ok t) × (rest t ≡ Ok last))
let_on false (Err illegal) rest stop last e = cc
let_on false (Ok t) rest stop last e = (refl, (t, refl, e))
let_on true next rest stop last e = cc

have_advanced : (machine : Machine) (image : MemoryImage) (s t : RunState) (lists : List (List ℕ)) → after_intervals machine image s lists ≡ Ok t → HaveAdvanced machine s t lists
have_advanced machine image s t [] e =
    let is : s ≡ t = cc in
    subst (λ (x : RunState). HaveAdvanced machine s x []) is (record {
      intervals = omega arith;
      accesses = omega arith;
      known = All-nil (λ (ns : List ℕ). All (λ k. k < length s.cores) ns);
      few = λ within. within;
    })
have_advanced machine image s t (turns ∷ lists) e =
    let on = let_on (has_ended machine s) (after_interval machine image s turns) (λ r. after_intervals machine image r lists) (next_place s) t e in
    let next = on.1.0 in
    let one = advanced machine image s next turns on.1.1 in
    let more = have_advanced machine image next t lists on.1.2 in
    let left = (goes_on machine s on.0).intervals_left in
    record {
      intervals = omega (arith, one.intervals, more.intervals);
      accesses = omega (arith, one.accesses, more.accesses, sum_by-cons length turns lists);
      known = All-cons (λ (ns : List ℕ). All (λ k. k < length s.cores) ns) turns lists one.known (subst (λ (n : ℕ). All (λ (ns : List ℕ). All (λ k. k < n) ns) lists) one.cores more.known);
      few = λ within. more.few (omega (arith, one.intervals, within, left));
    }

-- ---- the whole run

results_from : (machine : Machine) (o : Result RunState Illegal) (results : Results) → continued (results_at machine) o ≡ Ok results → (t : RunState) × (o ≡ Ok t) × (results_at machine t ≡ Ok results)
results_from machine (Err illegal) results e = cc
results_from machine (Ok t) results e = (t, refl, e)

results_where : (machine : Machine) (t : RunState) (results : Results) (test : Bool) → (if test then Ok (run_results machine t) else Err (next_place t)) ≡ Ok results → results ≡ run_results machine t
results_where machine t results false e = cc
results_where machine t results true e = cc

pub fits_run : (machine : Machine) (image : MemoryImage) (comps : List Comp) (lists : List (List ℕ)) (results : Results) → reference_run machine image comps lists ≡ Ok results → FitsRun machine lists results
fits_run machine image comps lists results e =
    let first = first_state machine image comps in
    let from = results_from machine (after_intervals machine image first lists) results e in
    let t = from.0 in
    let all = have_advanced machine image first t lists from.1 in
    let is = results_where machine t results (has_ended machine t) from.2 in
    let cores : length first.cores ≡ machine.cores = length-map-range_with_len (first_core machine image) 0 machine.cores in
    let accesses : results.counts.accesses ≡ total_accesses t.intervals = ap (λ (r : Results). r.counts.accesses) is ∙ counted_accesses machine.cores t.comps t.intervals in
    let intervals : results.intervals ≡ length t.intervals = ap (λ (r : Results). r.intervals) is in
    record {
      known = subst (λ (n : ℕ). All (λ (ns : List ℕ). All (λ k. k < n) ns) lists) cores all.known;
      turns = omega (arith, all.accesses, accesses);
      intervals = omega (arith, all.intervals, intervals);
      few = omega (arith, all.few (omega arith), intervals);
    }
