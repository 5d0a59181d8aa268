-- A run from its start up to now.
use Rattle.std.proofs.Common.{◌≡◌, ◌≢◌, ◌<◌, ◌≤◌, ℕ, ◌+◌, ◌*◌, List, [], ◌∷◌, ◌++◌, length, map, Bool, true, false, if◌then◌else◌, Result, Ok, Err, refl, sym, ◌∙◌, ap, subst, arith}
use Rattle.std.proofs.lemmas.List.{length-append}
use Rattle.elf_load.specs.MemoryImage.{MemoryImage}
use Rattle.machine_desc.specs.declared.machine.Machine.{Machine}
use Rattle.component.specs.declared.comp.Comp.{Comp}
use Rattle.component.specs.Components.{AreFresh}
use Rattle.stats.specs.Counts.{Counts, Interval, counts_of, total_accesses, total_events}
use Rattle.run.specs.declared.simulation.Simulation.{Simulation}
use Rattle.bound_core.specs.TimedCore.{TimedCore}
use Rattle.run.specs.Simulation.{HasNextInterval, LeadsTo, StandsFor, cores_of}
use Rattle.reference.specs.ReferenceRun.{RunState, after_interval, after_intervals, first_state, has_ended, has_ended_at, IsKeptInOrder, continued, recorded_turns, reference_run, results_at, run_results, Illegal, next_place}
use Rattle.reference.proofs.BelowLimits.{goes_on}
use Rattle.reference.proofs.FirstIntervals.{counted_accesses}

-- the code has come to where the run is after the intervals of this schedule
pub record HasRun (machine : Machine) (image : MemoryImage) (lists : List (List ℕ)) (p : Simulation) : Type 0 where
  pub comps : List Comp
  pub fresh : AreFresh machine comps
  pub state : RunState
  pub reached : after_intervals machine image (first_state machine image comps) lists ≡ Ok state
  pub as_long : length state.intervals ≡ length lists
  pub come : StandsFor machine state p

counted_events : (cores : ℕ) (comps : List Comp) (intervals : List Interval) → (counts_of cores comps intervals).events ≡ total_events intervals
unfolding counts_of
counted_events cores comps intervals = refl

-- the accesses and the events that the code has counted
pub accesses_are : (machine : Machine) (s : RunState) (p : Simulation) → StandsFor machine s p → p.counters.accesses ≡ total_accesses s.intervals
accesses_are machine s p come = ap (λ (c : Counts). c.accesses) come.counters ∙ counted_accesses machine.cores s.comps s.intervals

pub events_are : (machine : Machine) (s : RunState) (p : Simulation) → StandsFor machine s p → p.counters.events ≡ total_events s.intervals
events_are machine s p come = ap (λ (c : Counts). c.events) come.counters ∙ counted_events machine.cores s.comps s.intervals

-- whether the run has ended, by what the code has
pub same_ending : (machine : Machine) (s : RunState) (p : Simulation) → StandsFor machine s p → (k : ℕ) → length s.intervals ≡ k
    → has_ended_at machine k p.counters.accesses (cores_of p) p.comps ≡ has_ended machine s
same_ending machine s p come k as_long =
    ap (λ (n : ℕ). has_ended_at machine n p.counters.accesses (cores_of p) p.comps) (sym as_long)
    ∙ ap (λ (n : ℕ). has_ended_at machine (length s.intervals) n (cores_of p) p.comps) (accesses_are machine s p come)
    ∙ ap (λ (cores : List TimedCore). has_ended_at machine (length s.intervals) (total_accesses s.intervals) cores p.comps) (sym come.cores)
    ∙ ap (λ (comps : List Comp). has_ended_at machine (length s.intervals) (total_accesses s.intervals) s.cores comps) come.comps

-- the run goes on with an interval that ends then
pub goes_to : (machine : Machine) (s : RunState) (p : Simulation) → StandsFor machine s p → (k end : ℕ) → length s.intervals ≡ k → end ≡ (k + 1) * machine.interval
    → has_ended_at machine k p.counters.accesses (cores_of p) p.comps ≡ false → HasNextInterval machine end s p
goes_to machine s p come k end as_long ends on = record {
  come = come;
  on = sym (same_ending machine s p come k as_long) ∙ on;
  ends = ends ∙ ap (λ (n : ℕ). (n + 1) * machine.interval) (sym as_long);
}

-- what a test let pass, where the result is there
passed : (test : Bool) (rest : Result RunState Illegal) (stop : Illegal) (t : RunState) → (if test then Err stop else rest) ≡ Ok t → (test ≡ false) × (rest ≡ Ok t)
passed false rest stop t e = (refl, e)
passed true rest stop t e = cc

-- more intervals, with the run at t after those before
more_intervals : (machine : Machine) (image : MemoryImage) (s : RunState) (lists : List (List ℕ)) (t : RunState) (more : List (List ℕ))
    → after_intervals machine image s lists ≡ Ok t → after_intervals machine image s (lists ++ more) ≡ after_intervals machine image t more
more_intervals machine image s [] t more at =
    let same : s ≡ t = cc in
    ap (λ (r : RunState). after_intervals machine image r more) same
more_intervals machine image s (first ∷ lists) t more at =
    let parts = passed (has_ended machine s) (continued (λ r. after_intervals machine image r lists) (after_interval machine image s first)) (next_place s) t at in
    let rest : (o : Result RunState Illegal) → continued (λ r. after_intervals machine image r lists) o ≡ Ok t → continued (λ r. after_intervals machine image r (lists ++ more)) o ≡ after_intervals machine image t more =
    λ o. elim o as (λ v. continued (λ r. after_intervals machine image r lists) v ≡ Ok t → continued (λ r. after_intervals machine image r (lists ++ more)) v ≡ after_intervals machine image t more) [
      | Err illegal ↦ λ e. cc
      | Ok r ↦ λ e. more_intervals machine image r lists t more e
    ]
    in
    rw parts.0 (rest (after_interval machine image s first) parts.1)

pub one_interval : (machine : Machine) (image : MemoryImage) (s : RunState) (lists : List (List ℕ)) (t u : RunState) (turns : List ℕ)
    → after_intervals machine image s lists ≡ Ok t → has_ended machine t ≡ false → after_interval machine image t turns ≡ Ok u → after_intervals machine image s (lists ++ turns ∷ []) ≡ Ok u
one_interval machine image s lists t u turns at on after = more_intervals machine image s lists t (turns ∷ []) at ∙ (rw (on, after) refl)

-- the run is an interval further, and its schedule a list longer
abbrev pub further : (machine : Machine) (image : MemoryImage) (lists : List (List ℕ)) (p q : Simulation) (h : HasRun machine image lists p) (turns : List ℕ) → has_ended machine h.state ≡ false
    → LeadsTo machine image h.state turns q → HasRun machine image (lists ++ turns ∷ []) q
further machine image lists p q h turns on leads = record {
  comps = h.comps;
  fresh = h.fresh;
  state = leads.state;
  reached = one_interval machine image (first_state machine image h.comps) lists h.state leads.state turns h.reached on leads.after;
  as_long = omega (arith, leads.longer, h.as_long, length-append lists (turns ∷ []));
  come = leads.come;
}

-- and the schedule names the cores of the accesses in recorded order
pub record HasRunInOrder (machine : Machine) (image : MemoryImage) (lists : List (List ℕ)) (p : Simulation) : Type 0 where
  pub run : HasRun machine image lists p
  pub in_order : lists ≡ map recorded_turns run.state.intervals

-- where the turns of one more interval are those of its accesses in recorded order
abbrev pub further_in_order : (machine : Machine) (image : MemoryImage) (lists : List (List ℕ)) (p q : Simulation) (h : HasRunInOrder machine image lists p) (turns : List ℕ)
    → has_ended machine h.run.state ≡ false → (leads : LeadsTo machine image h.run.state turns q) → turns ≡ map (λ e. e.core) leads.entries
    → HasRunInOrder machine image (lists ++ turns ∷ []) q
further_in_order machine image lists p q h turns on leads same = record {
  run = further machine image lists p q h.run turns on leads;
  in_order =
      ap (λ (all : List (List ℕ)). all ++ turns ∷ []) h.in_order
      ∙ ap (λ (one : List ℕ). map recorded_turns h.run.state.intervals ++ one ∷ []) same
      ∙ sym leads.recorded;
}

-- the same of a schedule that is equal
abbrev pub ran_so : (machine : Machine) (image : MemoryImage) (lists others : List (List ℕ)) (p : Simulation) → lists ≡ others → HasRunInOrder machine image lists p → HasRunInOrder machine image others p
ran_so machine image lists others p same h = record {
  run = record {
    comps = h.run.comps;
    fresh = h.run.fresh;
    state = h.run.state;
    reached = subst (λ (all : List (List ℕ)). after_intervals machine image (first_state machine image h.run.comps) all ≡ Ok h.run.state) same h.run.reached;
    as_long = h.run.as_long ∙ ap length same;
    come = h.run.come;
  };
  in_order = sym same ∙ h.in_order;
}

-- what the run gives where it ends
pub ends_with : (machine : Machine) (image : MemoryImage) (lists : List (List ℕ)) (p : Simulation) (h : HasRun machine image lists p) → has_ended machine h.state ≡ true
    → reference_run machine image h.comps lists ≡ Ok (run_results machine h.state)
ends_with machine image lists p h ends =
    ap (continued (results_at machine)) h.reached ∙ ap (λ (ended : Bool). if ended then Ok (run_results machine h.state) else Err (next_place h.state)) ends

-- ---- a schedule that is not legal

-- it ends, and the run goes on
pub ends_too_soon : (machine : Machine) (image : MemoryImage) (lists : List (List ℕ)) (p : Simulation) (h : HasRun machine image lists p) → has_ended machine h.state ≡ false
    → reference_run machine image h.comps lists ≡ Err (next_place h.state)
ends_too_soon machine image lists p h on =
    ap (continued (results_at machine)) h.reached ∙ ap (λ (ended : Bool). if ended then Ok (run_results machine h.state) else Err (next_place h.state)) on

-- the run has ended, and it goes on
pub goes_too_far : (machine : Machine) (image : MemoryImage) (lists : List (List ℕ)) (turns : List ℕ) (rest : List (List ℕ)) (p : Simulation) (h : HasRun machine image lists p) → has_ended machine h.state ≡ true
    → reference_run machine image h.comps (lists ++ turns ∷ rest) ≡ Err (next_place h.state)
goes_too_far machine image lists turns rest p h ended =
    let here : after_intervals machine image h.state (turns ∷ rest) ≡ Err (next_place h.state) = rw ended refl in
    ap (continued (results_at machine)) (more_intervals machine image (first_state machine image h.comps) lists h.state (turns ∷ rest) h.reached ∙ here)

-- a place of its next list is not legal
pub stops_at : (machine : Machine) (image : MemoryImage) (lists : List (List ℕ)) (turns : List ℕ) (rest : List (List ℕ)) (p : Simulation) (h : HasRun machine image lists p) → has_ended machine h.state ≡ false
    → (illegal : Illegal) → after_interval machine image h.state turns ≡ Err illegal → reference_run machine image h.comps (lists ++ turns ∷ rest) ≡ Err illegal
stops_at machine image lists turns rest p h on illegal stops =
    let here : after_intervals machine image h.state (turns ∷ rest) ≡ Err illegal = rw (on, stops) refl in
    ap (continued (results_at machine)) (more_intervals machine image (first_state machine image h.comps) lists h.state (turns ∷ rest) h.reached ∙ here)

-- the schedule is kept in order up to where the code has come
pub kept_in_order : (machine : Machine) (image : MemoryImage) (lists : List (List ℕ)) (p : Simulation) → HasRunInOrder machine image lists p → IsKeptInOrder machine image lists
kept_in_order machine image lists p h = record {
  comps = h.run.comps;
  fresh = h.run.fresh;
  state = h.run.state;
  reached = h.run.reached;
  in_order = h.in_order;
}

-- a run that goes on, and what the code needs of it
module _ (machine : Machine) (image : MemoryImage) (lists : List (List ℕ)) (p : Simulation) (h : HasRun machine image lists p) (k end : ℕ) (count : length lists ≡ k) (ends : end ≡ k * machine.interval) where
  pub goes : has_ended_at machine k p.counters.accesses (cores_of p) p.comps ≡ false → HasNextInterval machine (end + machine.interval) h.state p
  goes on = goes_to machine h.state p h.come k (end + machine.interval) (h.as_long ∙ count) (omega (arith, ends)) on

  pub below_limit : (on : has_ended_at machine k p.counters.accesses (cores_of p) p.comps ≡ false) → k ≤ machine.intervals → k < machine.intervals
  below_limit on within =
      let left : length h.state.intervals ≢ machine.intervals = (goes_on machine h.state (goes on).on).intervals_left in
      omega (arith, left, h.as_long, count)
