-- What the steps of a run tell of it, interval by interval.
use Rattle.std.proofs.Common.{◌≡◌, ℕ, zero, suc, ◌+◌, Bool, true, false, if◌then◌else◌, List, [], ◌∷◌, ◌++◌, map, length, Some, Result, Ok, Err, refl, sym, ◌∙◌, ap, subst, append_assoc, arith}
use Rattle.std.specs.Prelude.{slice_get, slice_index, sum_by}
use Rattle.std.proofs.lemmas.List.Sums.{sum_by-cons}
use Rattle.std.specs.List.{enumerate_from, range_with_len}
use Rattle.std.proofs.lemmas.List.{append-nil}
use Rattle.elf_load.specs.MemoryImage.{MemoryImage}
use Rattle.machine_desc.specs.declared.machine.Machine.{Machine}
use Rattle.component.specs.declared.comp.Comp.{Comp}
use Rattle.component.specs.Components.{AreFresh}
use Rattle.access_log.specs.RecordedOrder.{recorded_order}
use Rattle.stats.specs.Counts.{Interval}
use Rattle.reference.specs.MachineWorld.{MachineWorld, serve}
use Rattle.reference.specs.ReferenceMachine.{BoundState, bound_from, bound_phase}
use Rattle.reference.specs.ReferenceRun.{Illegal, IsRunOf, RunState, after_interval, after_intervals, after_weave, begun_interval, continued, end_of, first_state, has_ended, next_place, results_at, run_results, time_of, woven_after, woven_interval}
use Rattle.reference.specs.Results.{Results}
use Rattle.reference.specs.TimedCore.{TimedCore, delayed, first_core}
use Rattle.trace.specs.Laws.{ComesTo}
use Rattle.trace.specs.Told.{all_instructions_of, ended_in, instructions_left, instructions_of}
use Rattle.trace.specs.Trace.{Accessed, Ended, Executed, IsTraceOf, Step, end_step, interval_steps, leaves_machine, phase_steps, run_steps, steps_behind}
use Rattle.trace.proofs.PhaseCounts.{Tells, phase_tells}
use Rattle.trace.proofs.ToldParts.{all-append, counted_at, counted_here, counted_in, ended-append, instructions-append}

-- these steps lead from one state of a run to the other
pub record Told (s t : RunState) (steps : List Step) : Type 0 where
  pub intervals : t.intervals ≡ s.intervals ++ ended_in steps
  pub cores : length t.cores ≡ length s.cores
  pub counted : (i : ℕ) → counted_at t.cores i ≡ counted_at s.cores i + instructions_of i steps
  pub all : counted_in t.cores ≡ counted_in s.cores + all_instructions_of steps

nothing_told : (s : RunState) → Told s s []
nothing_told s = record { intervals = sym (append-nil s.intervals); cores = refl; counted = λ i. omega arith; all = omega arith }

then_told : (s t u : RunState) (xs ys : List Step) → Told s t xs → Told t u ys → Told s u (xs ++ ys)
then_told s t u xs ys one two = record {
  intervals = two.intervals ∙ ap (λ (is : List Interval). is ++ ended_in ys) one.intervals ∙ append_assoc s.intervals (ended_in xs) (ended_in ys) ∙ ap (λ (is : List Interval). s.intervals ++ is) (sym (ended-append xs ys));
  cores = two.cores ∙ one.cores;
  counted = λ i. omega (arith, one.counted i, two.counted i, instructions-append i xs ys);
  all = omega (arith, one.all, two.all, all-append xs ys);
}

-- ---- an interval

-- cores that wait count nothing
counted_from : (delays : List ℕ) (from : ℕ) (cores : List TimedCore) (i : ℕ) → counted_at (map (λ at. delayed (slice_index delays at.0) at.1) (enumerate_from from cores)) i ≡ counted_at cores i
counted_from delays from [] i = refl
counted_from delays from (c ∷ cores) zero = refl
counted_from delays from (c ∷ cores) (suc i) = counted_from delays (from + 1) cores i

all_counted_from : (delays : List ℕ) (from : ℕ) (cores : List TimedCore) → counted_in (map (λ at. delayed (slice_index delays at.0) at.1) (enumerate_from from cores)) ≡ counted_in cores
all_counted_from delays from [] = refl
all_counted_from delays from (c ∷ cores) =
    omega (
      arith,
      all_counted_from delays (from + 1) cores,
      sum_by-cons (λ (x : TimedCore). x.instructions) (delayed (slice_index delays from) c) (map (λ at. delayed (slice_index delays at.0) at.1) (enumerate_from (from + 1) cores)),
      sum_by-cons (λ (x : TimedCore). x.instructions) c cores,
    )

many_from : (delays : List ℕ) (from : ℕ) (cores : List TimedCore) → length (map (λ at. delayed (slice_index delays at.0) at.1) (enumerate_from from cores)) ≡ length cores
many_from delays from [] = refl
many_from delays from (c ∷ cores) = ap suc (many_from delays (from + 1) cores)

pub interval_entries : (machine : Machine) (comps : List Comp) (b : BoundState MachineWorld) → (woven_interval machine comps (recorded_order b.entries)).entries ≡ recorded_order b.entries
unfolding woven_interval
interval_entries machine comps b = refl

module _ (machine : Machine) (image : MemoryImage) where
  abbrev phase_of : RunState → List ℕ → Result (BoundState MachineWorld) ℕ
  phase_of s turns = bound_phase serve (time_of machine) image (end_of machine s) turns (begun_interval machine s)

  abbrev pub steps_of : RunState → List ℕ → List Step
  steps_of s turns = phase_steps serve leaves_machine image (end_of machine s) (time_of machine) turns (begun_interval machine s)

  abbrev pub interval_of : RunState → BoundState MachineWorld → Interval
  interval_of s b = woven_interval machine s.comps (recorded_order b.entries)

  -- an interval that ended behind these steps
  pub record IsNext (s t : RunState) (turns : List ℕ) : Type 0 where
    pub left : BoundState MachineWorld
    pub phase : bound_from serve (time_of machine) image (end_of machine s) 0 turns (begun_interval machine s) ≡ Ok left
    pub next : after_weave machine s left ≡ t
    pub steps : interval_steps machine image s turns ≡ steps_of s turns ++ Ended (interval_of s left) ∷ []

  pub is_next : (s t : RunState) (turns : List ℕ) → after_interval machine image s turns ≡ Ok t → IsNext s t turns
  is_next s t turns e =
      let by : (o : Result (BoundState MachineWorld) ℕ) → phase_of s turns ≡ o → woven_after machine s o ≡ Ok t → IsNext s t turns = λ o. elim o as (λ v. phase_of s turns ≡ v → woven_after machine s v ≡ Ok t → IsNext s t turns) [
        | Err place ↦ λ is f. cc
        | Ok b ↦ λ is f. record {
          left = b;
          phase = is;
          next = cc;
          steps = ap (λ (r : Result (BoundState MachineWorld) ℕ). steps_of s turns ++ end_step machine s r) is;
        }
      ] in
      by (phase_of s turns) refl e

  woven_told : (s : RunState) (b : BoundState MachineWorld) (steps : List Step) → Tells serve leaves_machine (time_of machine) image (end_of machine s) (begun_interval machine s) b steps
      → Told s (after_weave machine s b) (steps ++ Ended (interval_of s b) ∷ [])
  unfolding after_weave
  woven_told s b steps tells =
      let interval = interval_of s b in
      record {
        intervals = ap (λ (is : List Interval). s.intervals ++ is) (sym (ended-append steps (Ended interval ∷ []) ∙ ap (λ (is : List Interval). is ++ interval ∷ []) tells.ended));
        cores = many_from interval.delays 0 b.cores ∙ tells.cores;
        counted = λ i. omega (arith, counted_from interval.delays 0 b.cores i, tells.counted i, instructions-append i steps (Ended interval ∷ []));
        all = omega (arith, all_counted_from interval.delays 0 b.cores, tells.all, all-append steps (Ended interval ∷ []));
      }

  pub interval_told : (s t : RunState) (turns : List ℕ) → after_interval machine image s turns ≡ Ok t → Told s t (interval_steps machine image s turns)
  interval_told s t turns e =
      let next = is_next s t turns e in
      let tells = phase_tells serve leaves_machine (time_of machine) image (end_of machine s) 0 turns (begun_interval machine s) next.left next.phase in
      subst (Told s t) (sym next.steps)
      (subst (λ (x : RunState). Told s x (steps_of s turns ++ Ended (interval_of s next.left) ∷ [])) next.next (woven_told s next.left (steps_of s turns) tells))

  -- ---- all intervals

  -- what a test let pass
  pub let_on : (test : Bool) (next : Result RunState Illegal) (rest : RunState → Result RunState Illegal) (stop : Illegal) (last : RunState) → (if test then Err stop else continued rest next) ≡ Ok last
      → (t : RunState) × (next ≡ Ok t) × (rest t ≡ Ok last)
  let_on false (Err illegal) rest stop last e = cc
  let_on false (Ok t) rest stop last e = (t, refl, e)
  let_on true next rest stop last e = cc

  -- the steps of a schedule whose first list is legal
  pub steps_on : (s next : RunState) (turns : List ℕ) (lists : List (List ℕ)) → after_interval machine image s turns ≡ Ok next
      → run_steps machine image s (turns ∷ lists) ≡ interval_steps machine image s turns ++ run_steps machine image next lists
  steps_on s next turns lists is = ap (λ (r : Result RunState Illegal). interval_steps machine image s turns ++ steps_behind (λ t. run_steps machine image t lists) r) is

  pub intervals_told : (s t : RunState) (lists : List (List ℕ)) → after_intervals machine image s lists ≡ Ok t → Told s t (run_steps machine image s lists)
  intervals_told s t [] e =
      let is : s ≡ t = cc in
      subst (λ (x : RunState). Told s x []) is (nothing_told s)
  intervals_told s t (turns ∷ lists) e =
      let on = let_on (has_ended machine s) (after_interval machine image s turns) (λ r. after_intervals machine image r lists) (next_place s) t e in
      let next : RunState = on.0 in
      subst (Told s t) (sym (steps_on s next turns lists on.1))
      (then_told s next t _ _ (interval_told s next turns on.1) (intervals_told next t lists on.2))

  -- ---- the whole run

  results_from : (o : Result RunState Illegal) (results : Results) → continued (results_at machine) o ≡ Ok results → (t : RunState) × (o ≡ Ok t) × (results_at machine t ≡ Ok results)
  results_from (Err illegal) results e = cc
  results_from (Ok t) results e = (t, refl, e)

  results_where : (t : RunState) (results : Results) (test : Bool) → (if test then Ok (run_results machine t) else Err (next_place t)) ≡ Ok results → results ≡ run_results machine t
  results_where t results false e = cc
  results_where t results true e = cc

  pub comes_to : (lists : List (List ℕ)) (results : Results) → IsRunOf machine image lists results → (end : RunState) × ComesTo machine image lists results end
  comes_to lists results run =
      let from = results_from (after_intervals machine image (first_state machine image run.comps) lists) results run.gives in (
        from.0,
        record {
          comps = run.comps;
          fresh = run.fresh;
          reached = from.1;
          gives = results_where from.0 results (has_ended machine from.0) from.2;
        },
      )

  module _ (one : (comps others : List Comp) → AreFresh machine comps → AreFresh machine others → others ≡ comps) where
    -- the trace of a run that comes to this end
    pub whole_told : (lists : List (List ℕ)) (steps : List Step) (results : Results) (end : RunState) → IsTraceOf machine image lists steps → (comes : ComesTo machine image lists results end)
        → Told (first_state machine image comes.comps) end steps
    whole_told lists steps results end trace comes =
        let same : trace.comps ≡ comes.comps = one comes.comps trace.comps comes.fresh trace.fresh in
        subst (Told (first_state machine image comes.comps) end)
        (sym (trace.is ∙ ap (λ (comps : List Comp). run_steps machine image (first_state machine image comps) lists) same))
        (intervals_told (first_state machine image comes.comps) end lists comes.reached)

    pub counts_told : (lists : List (List ℕ)) (steps : List Step) (results : Results) → IsTraceOf machine image lists steps → IsRunOf machine image lists results
        → (end : RunState) × ComesTo machine image lists results end × (ended_in steps ≡ end.intervals)
    counts_told lists steps results trace run =
        let comes = comes_to lists results run in
        (comes.0, comes.1, sym (whole_told lists steps results comes.0 trace comes.1).intervals)

    -- ---- instructions

    none_counted : (a n i : ℕ) → counted_at (map (first_core machine image) (range_with_len a n)) i ≡ 0
    none_counted a zero i = refl
    none_counted a (suc n) zero = refl
    none_counted a (suc n) (suc i) = none_counted (a + 1) n i

    pub instructions_told : (lists : List (List ℕ)) (steps : List Step) (results : Results) → IsTraceOf machine image lists steps → IsRunOf machine image lists results
        → (core : ℕ) (c : TimedCore) → slice_get results.cores core ≡ Some c → c.instructions ≡ instructions_of core steps
    instructions_told lists steps results trace run core c here =
        let comes = comes_to lists results run in
        let told = whole_told lists steps results comes.0 trace comes.1 in
        let there : slice_get comes.0.cores core ≡ Some c = sym (ap (λ (r : Results). slice_get r.cores core) comes.1.gives) ∙ here in
        omega (arith, told.counted core, counted_here comes.0.cores core c there, none_counted 0 machine.cores core)

    none_counted_in : (a n : ℕ) → counted_in (map (first_core machine image) (range_with_len a n)) ≡ 0
    none_counted_in a zero = refl
    none_counted_in a (suc n) =
        omega (arith, none_counted_in (a + 1) n, sum_by-cons (λ (x : TimedCore). x.instructions) (first_core machine image a) (map (first_core machine image) (range_with_len (a + 1) n)))

    -- no instruction is left where an interval ended
    none_left : (so_far : ℕ) (xs ys : List Step) (interval : Interval) → instructions_left so_far (xs ++ Ended interval ∷ ys) ≡ instructions_left 0 ys
    none_left so_far [] ys interval = refl
    none_left so_far (Executed core pc ∷ xs) ys interval = none_left (so_far + 1) xs ys interval
    none_left so_far (Accessed pc e leaving ∷ xs) ys interval = none_left so_far xs ys interval
    none_left so_far (Ended other ∷ xs) ys interval = none_left 0 xs ys interval

    intervals_leave_none : (s t : RunState) (lists : List (List ℕ)) → after_intervals machine image s lists ≡ Ok t → instructions_left 0 (run_steps machine image s lists) ≡ 0
    intervals_leave_none s t [] e = refl
    intervals_leave_none s t (turns ∷ lists) e =
        let on = let_on (has_ended machine s) (after_interval machine image s turns) (λ r. after_intervals machine image r lists) (next_place s) t e in
        let next = is_next s on.0 turns on.1 in
        let rest = run_steps machine image on.0 lists in
        let ended = Ended (interval_of s next.left) in
        ap (instructions_left 0) (steps_on s on.0 turns lists on.1 ∙ ap (λ (xs : List Step). xs ++ rest) next.steps ∙ append_assoc (steps_of s turns) (ended ∷ []) rest)
        ∙ none_left 0 (steps_of s turns) rest (interval_of s next.left)
        ∙ intervals_leave_none on.0 t lists on.2

    pub all_told : (lists : List (List ℕ)) (steps : List Step) (results : Results) → IsTraceOf machine image lists steps → IsRunOf machine image lists results
        → (sum_by (λ c. c.instructions) results.cores ≡ all_instructions_of steps) × (instructions_left 0 steps ≡ 0)
    all_told lists steps results trace run =
        let comes = comes_to lists results run in
        let told = whole_told lists steps results comes.0 trace comes.1 in
        let same : trace.comps ≡ comes.1.comps = one comes.1.comps trace.comps comes.1.fresh trace.fresh in
        let first : RunState = first_state machine image comes.1.comps in
        let cores : counted_in results.cores ≡ counted_in comes.0.cores = ap (λ (r : Results). counted_in r.cores) comes.1.gives in (
          omega (arith, cores, told.all, none_counted_in 0 machine.cores),
          ap (instructions_left 0) (trace.is ∙ ap (λ (comps : List Comp). run_steps machine image (first_state machine image comps) lists) same) ∙ intervals_leave_none first comes.0 lists comes.1.reached,
        )
