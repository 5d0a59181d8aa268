-- A run of one core has one legal schedule.
use Rattle.std.proofs.Common.{◌≡◌, ℕ, zero, suc, ◌+◌, ◌-◌, ◌≤◌, Bool, true, false, if◌then◌else◌, List, [], ◌∷◌, ◌++◌, length, map, Option, Some, None, Result, Ok, Err, refl, sym, ◌∙◌, ap, arith, subst}
use Rattle.std.specs.List.{range_with_len}
use Rattle.std.proofs.lemmas.List.{length-append}
use Rattle.zs_num.specs.declared.entry.Entry.{Entry}
use Rattle.zs_num.specs.declared.request.Request.{Request}
use Rattle.elf_load.specs.MemoryImage.{MemoryImage}
use Rattle.machine_desc.specs.declared.machine.Machine.{Machine}
use Rattle.machine_desc.specs.Machine.{IsMachine}
use Rattle.component.specs.declared.comp.Comp.{Comp}
use Rattle.component.specs.Components.{AreFresh}
use Rattle.event_graph.specs.AccessPaths.{path_of}
use Rattle.noc_mesh.specs.NetLaws.{net_time_at_least_one}
use Rattle.reference.specs.MachineWorld.{MachineWorld, serve}
use Rattle.reference.specs.ReferenceMachine.{BoundState, bound_from}
use Rattle.reference.specs.TimedCore.{TimedCore, asks, core_after_access, first_core, ran_to}
use Rattle.access_log.specs.RecordedOrder.{recorded_order}
use Rattle.reference.specs.ReferenceRun.{Illegal, IsRunOf, RunState, after_interval, after_intervals, after_weave, all_delayed, begun_interval, continued, end_of, first_state, has_ended, next_place, reference_run, results_at, run_results, time_of, world_of, woven_after, woven_interval}
use Rattle.reference.specs.Results.{Results}
use Rattle.reference.proofs.BelowLimits.{goes_on}
use Rattle.reference.proofs.OneCoreEnds.{ends_here, one_core, turned, turns_there}

-- ---- the list of an interval

module _ (time : Entry → ℕ) (image : MemoryImage) (end : ℕ) where
  abbrev phase : (place : ℕ) → List ℕ → BoundState MachineWorld → Result (BoundState MachineWorld) ℕ
  phase = bound_from serve time image end

  stuck : (place number : ℕ) (numbers : List ℕ) (c : TimedCore) (w : MachineWorld) (es : List Entry) → asks (ran_to image end c) ≡ None
      → phase place (number ∷ numbers) (one_core c w es) ≡ Err place
  stuck place zero numbers c w es asked = rw asked refl
  stuck place (suc number) numbers c w es asked = refl

  other_core : (place number : ℕ) (numbers : List ℕ) (c : TimedCore) (w : MachineWorld) (es : List Entry)
      → phase place (suc number ∷ numbers) (one_core c w es) ≡ Err place
  other_core place number numbers c w es = refl

  too_short : (place : ℕ) (c : TimedCore) (w : MachineWorld) (es : List Entry) (request : Request) → asks (ran_to image end c) ≡ Some request
      → phase place [] (one_core c w es) ≡ Err place
  too_short place c w es request asked = rw asked refl

  no_error : (r : Result (BoundState MachineWorld) ℕ) (place : ℕ) (b : BoundState MachineWorld) → r ≡ Err place → r ≡ Ok b → ⊥
  no_error (Ok x) place b e f = cc
  no_error (Err p) place b e f = cc

  -- one list of turns is legal for an interval
  one_list_by : (asked : Option Request) (place : ℕ) (c : TimedCore) (w : MachineWorld) (es : List Entry) → asks (ran_to image end c) ≡ asked
      → (turns others : List ℕ) (b d : BoundState MachineWorld) → phase place turns (one_core c w es) ≡ Ok b → phase place others (one_core c w es) ≡ Ok d → turns ≡ others
  one_list_by asked place c w es is [] [] b d e f = refl
  one_list_by None place c w es is [] (n ∷ ns) b d e f = absurd (no_error _ place d (stuck place n ns c w es is) f)
  one_list_by None place c w es is (n ∷ ns) others b d e f = absurd (no_error _ place b (stuck place n ns c w es is) e)
  one_list_by (Some request) place c w es is [] (n ∷ ns) b d e f = absurd (no_error _ place b (too_short place c w es request is) e)
  one_list_by (Some request) place c w es is (n ∷ ns) [] b d e f = absurd (no_error _ place d (too_short place c w es request is) f)
  one_list_by (Some request) place c w es is (suc n ∷ ns) (m ∷ ms) b d e f = absurd (no_error _ place b (other_core place n ns c w es) e)
  one_list_by (Some request) place c w es is (zero ∷ ns) (suc m ∷ ms) b d e f = absurd (no_error _ place d (other_core place m ms c w es) f)
  one_list_by (Some request) place c w es is (zero ∷ ns) (zero ∷ ms) b d e f =
      let ran = ran_to image end c in
      let answer = serve w 0 ran.clock request in
      let next = core_after_access time answer.0 ran in
      let rest : ns ≡ ms = one_list_by (asks (ran_to image end next)) (place + 1) next answer.1 (es ++ answer.0 ∷ []) refl ns ms b d
      (sym (turned time image end place ns c w es request is) ∙ e) (sym (turned time image end place ms c w es request is) ∙ f) in
      ap (λ (list : List ℕ). 0 ∷ list) rest

  pub one_list : (c : TimedCore) (w : MachineWorld) (es : List Entry) (turns others : List ℕ) (b d : BoundState MachineWorld)
      → phase 0 turns (one_core c w es) ≡ Ok b → phase 0 others (one_core c w es) ≡ Ok d → turns ≡ others
  one_list c w es = one_list_by (asks (ran_to image end c)) 0 c w es refl

takes_a_cycle : (machine : Machine) → IsMachine machine → (e : Entry) → 1 ≤ time_of machine e
takes_a_cycle machine is e = net_time_at_least_one (path_of machine) (record { l1 = is.l1; l1i = is.l1i; l2 = is.l2; controllers = is.controllers; mesh = is.mesh; dram = is.dram }) e

-- ---- the schedule of a run

-- a run of one core
abbrev IsOneCore : RunState → Type 0
IsOneCore s = (c : TimedCore) × (s.cores ≡ c ∷ [])

-- the bound phase of an interval
abbrev phase_at : Machine → MemoryImage → RunState → List ℕ → BoundState MachineWorld → Result (BoundState MachineWorld) ℕ
phase_at machine image s turns b = bound_from serve (time_of machine) image (end_of machine s) 0 turns b

begun_one : (machine : Machine) (s : RunState) (c : TimedCore) → s.cores ≡ c ∷ [] → begun_interval machine s ≡ one_core c (world_of machine s) []
begun_one machine s c one = ap (λ (cores : List TimedCore). let b : BoundState MachineWorld = record { cores = cores; world = world_of machine s; entries = [] } in b) one

-- a list of turns, and the run after the interval that it leads through
record NextInterval (machine : Machine) (image : MemoryImage) (s : RunState) : Type 0 where
  turns : List ℕ
  state : RunState
  after : after_interval machine image s turns ≡ Ok state
  one : IsOneCore state
  longer : length state.intervals ≡ length s.intervals + 1

weave_keeps : (machine : Machine) (s : RunState) (c : TimedCore) (w : MachineWorld) (es : List Entry)
    → IsOneCore (after_weave machine s (one_core c w es)) × (length (after_weave machine s (one_core c w es)).intervals ≡ length s.intervals + 1)
unfolding after_weave
weave_keeps machine s c w es = ((_, refl), length-append s.intervals (woven_interval machine s.comps (recorded_order es) ∷ []))

next_interval : (machine : Machine) (image : MemoryImage) → IsMachine machine → (s : RunState) → IsOneCore s → NextInterval machine image s
next_interval machine image is s one =
    let end = end_of machine s in
    let found = turns_there (time_of machine) (takes_a_cycle machine is) image end (end - one.0.clock) one.0 (omega arith) 0 (world_of machine s) [] in
    let kept = weave_keeps machine s found.core found.world found.entries in
    let legal : phase_at machine image s found.turns (begun_interval machine s) ≡ Ok (one_core found.core found.world found.entries) =
    ap (phase_at machine image s found.turns) (begun_one machine s one.0 one.1) ∙ found.legal
    in
    record {
      turns = found.turns;
      state = after_weave machine s (one_core found.core found.world found.entries);
      after = ap (woven_after machine s) legal;
      one = kept.0;
      longer = kept.1;
    }

-- a schedule that leads from here to the end of the run
record RestOfRun (machine : Machine) (image : MemoryImage) (s : RunState) : Type 0 where
  lists : List (List ℕ)
  last : RunState
  reached : after_intervals machine image s lists ≡ Ok last
  ends : has_ended machine last ≡ true

with_interval : (machine : Machine) (image : MemoryImage) (s : RunState) → has_ended machine s ≡ false → (next : NextInterval machine image s) → RestOfRun machine image next.state → RestOfRun machine image s
with_interval machine image s on next rest = record {
  lists = next.turns ∷ rest.lists;
  last = rest.last;
  reached = rw (on, next.after) rest.reached;
  ends = rest.ends;
}

rest_or_end : (machine : Machine) (image : MemoryImage) (s : RunState) → (has_ended machine s ≡ false → RestOfRun machine image s) → (ended : Bool) → has_ended machine s ≡ ended → RestOfRun machine image s
rest_or_end machine image s goes false is = goes is
rest_or_end machine image s goes true is = record { lists = []; last = s; reached = refl; ends = is }

-- a run ends, by the limit of intervals at the latest
rest_of_run : (machine : Machine) (image : MemoryImage) → IsMachine machine → (n : ℕ) (s : RunState) → IsOneCore s → length s.intervals + n ≡ machine.intervals → RestOfRun machine image s
rest_of_run machine image is zero s one left =
    rest_or_end machine image s (λ on. absurd ((goes_on machine s on).intervals_left (omega (arith, left)))) (has_ended machine s) refl
rest_of_run machine image is (suc n) s one left =
    let next = next_interval machine image is s one in
    rest_or_end machine image s (λ on. with_interval machine image s on next (rest_of_run machine image is n next.state next.one (omega (arith, left, next.longer)))) (has_ended machine s) refl

first_one : (machine : Machine) (image : MemoryImage) (comps : List Comp) → machine.cores ≡ 1 → IsOneCore (first_state machine image comps)
first_one machine image comps one =
    (_, ap (λ (n : ℕ). map (first_core machine image) (range_with_len 0 n)) one)

-- the run has a legal schedule
pub schedule_there : (machine : Machine) (image : MemoryImage) → IsMachine machine → machine.cores ≡ 1 → (comps : List Comp) → AreFresh machine comps
    → (lists : List (List ℕ)) × (results : Results) × IsRunOf machine image lists results
schedule_there machine image is one comps fresh =
    let run = rest_of_run machine image is machine.intervals (first_state machine image comps) (first_one machine image comps one) (omega arith) in (
      run.lists,
      run_results machine run.last,
      record {
        comps = comps;
        fresh = fresh;
        gives = ap (continued (results_at machine)) run.reached ∙ ap (λ (ended : Bool). if ended then Ok (run_results machine run.last) else Err (next_place run.last)) run.ends;
      },
    )

-- one schedule leads from here to the end of the run
let_pass : (test : Bool) (next : Result RunState Illegal) (rest : RunState → Result RunState Illegal) (stop : Illegal) (last : RunState) → (if test then Err stop else continued rest next) ≡ Ok last
    → (test ≡ false) × (t : RunState) × (next ≡ Ok t) × (rest t ≡ Ok last)
let_pass false (Err illegal) rest stop last e = cc
let_pass false (Ok t) rest stop last e = (refl, t, refl, e)
let_pass true next rest stop last e = cc

from_bound : (machine : Machine) (s : RunState) (o : Result (BoundState MachineWorld) ℕ) (t : RunState) → woven_after machine s o ≡ Ok t → (b : BoundState MachineWorld) × (o ≡ Ok b) × (after_weave machine s b ≡ t)
from_bound machine s (Err place) t e = cc
from_bound machine s (Ok b) t e = (b, refl, cc)

not_both : (test : Bool) → test ≡ true → test ≡ false → ⊥
not_both true ended going = cc
not_both false ended going = cc

keeps_one : (image : MemoryImage) (time : Entry → ℕ) (end place : ℕ) (turns : List ℕ) (c : TimedCore) (w : MachineWorld) (es : List Entry) (asked : Option Request) → asks (ran_to image end c) ≡ asked
    → (b : BoundState MachineWorld) → bound_from serve time image end place turns (one_core c w es) ≡ Ok b → (d : TimedCore) × (b.cores ≡ d ∷ [])
keeps_one image time end place [] c w es None is b e =
    let same : Ok (one_core (ran_to image end c) w es) ≡ Ok b = sym (ends_here time image end place c w es is) ∙ e in
    let at : one_core (ran_to image end c) w es ≡ b = cc in
    (ran_to image end c, ap (λ (x : BoundState MachineWorld). x.cores) (sym at))
keeps_one image time end place [] c w es (Some request) is b e = absurd (no_error time image end _ place b (too_short time image end place c w es request is) e)
keeps_one image time end place (n ∷ ns) c w es None is b e = absurd (no_error time image end _ place b (stuck time image end place n ns c w es is) e)
keeps_one image time end place (suc n ∷ ns) c w es (Some request) is b e = absurd (no_error time image end _ place b (other_core time image end place n ns c w es) e)
keeps_one image time end place (zero ∷ ns) c w es (Some request) is b e =
    let ran = ran_to image end c in
    let answer = serve w 0 ran.clock request in
    let next = core_after_access time answer.0 ran in
    keeps_one image time end (place + 1) ns next answer.1 (es ++ answer.0 ∷ []) (asks (ran_to image end next)) refl b (sym (turned time image end place ns c w es request is) ∙ e)

weave_one : (machine : Machine) (s : RunState) (b : BoundState MachineWorld) (d : TimedCore) → b.cores ≡ d ∷ [] → IsOneCore (after_weave machine s b)
unfolding after_weave
weave_one machine s b d one = (_, ap (all_delayed (woven_interval machine s.comps (recorded_order b.entries)).delays) one)

module _ (machine : Machine) (image : MemoryImage) where
  one_schedule : (s : RunState) → IsOneCore s → (lists others : List (List ℕ)) (last end : RunState)
      → after_intervals machine image s lists ≡ Ok last → has_ended machine last ≡ true
      → after_intervals machine image s others ≡ Ok end → has_ended machine end ≡ true → lists ≡ others
  one_schedule s one [] [] last end e is f ends = refl
  one_schedule s one [] (turns ∷ rest) last end e is f ends =
      let goes = let_pass (has_ended machine s) (after_interval machine image s turns) (λ t. after_intervals machine image t rest) (next_place s) end f in
      let same : s ≡ last = cc in
      absurd (not_both (has_ended machine s) (ap (has_ended machine) same ∙ is) goes.0)
  one_schedule s one (turns ∷ rest) [] last end e is f ends =
      let goes = let_pass (has_ended machine s) (after_interval machine image s turns) (λ t. after_intervals machine image t rest) (next_place s) last e in
      let same : s ≡ end = cc in
      absurd (not_both (has_ended machine s) (ap (has_ended machine) same ∙ ends) goes.0)
  one_schedule s one (turns ∷ rest) (turns_too ∷ rest_too) last end e is f ends =
      let goes = let_pass (has_ended machine s) (after_interval machine image s turns) (λ t. after_intervals machine image t rest) (next_place s) last e in
      let leads = let_pass (has_ended machine s) (after_interval machine image s turns_too) (λ t. after_intervals machine image t rest_too) (next_place s) end f in
      let stop = end_of machine s in
      let time = time_of machine in
      let begins = begun_one machine s one.0 one.1 in
      let first = from_bound machine s (phase_at machine image s turns (begun_interval machine s)) goes.1 goes.2 in
      let second = from_bound machine s (phase_at machine image s turns_too (begun_interval machine s)) leads.1 leads.2 in
      let from_one = ap (phase_at machine image s turns) (sym begins) ∙ first.1 in
      let from_other = ap (phase_at machine image s turns_too) (sym begins) ∙ second.1 in
      let head : turns ≡ turns_too = one_list time image stop one.0 (world_of machine s) [] turns turns_too first.0 second.0 from_one from_other in
      let kept = keeps_one image time stop 0 turns one.0 (world_of machine s) [] (asks (ran_to image stop one.0)) refl first.0 from_one in
      let next_one : IsOneCore goes.1 = subst IsOneCore first.2 (weave_one machine s first.0 kept.0 kept.1) in
      let next : Ok goes.1 ≡ Ok leads.1 = sym goes.2 ∙ ap (after_interval machine image s) head ∙ leads.2 in
      let same : goes.1 ≡ leads.1 = cc in
      let from : after_intervals machine image goes.1 rest_too ≡ Ok end = ap (λ t. after_intervals machine image t rest_too) same ∙ leads.3 in
      let tails : rest ≡ rest_too = one_schedule goes.1 next_one rest rest_too last end goes.3 is from ends in
      cc

  ended : (test : Bool) (found results : Results) (stop : Illegal) → (if test then Ok found else Err stop) ≡ Ok results → test ≡ true
  ended true found results stop e = refl
  ended false found results stop e = cc

  -- a run that gives results ends
  whole : (o : Result RunState Illegal) (results : Results) → continued (results_at machine) o ≡ Ok results → (last : RunState) × (o ≡ Ok last) × (has_ended machine last ≡ true)
  whole (Err illegal) results e = cc
  whole (Ok last) results e =
      (last, refl, ended (has_ended machine last) (run_results machine last) results (next_place last) e)

  -- the run has no other legal schedule
  pub schedule_is_one : (comps : List Comp) (lists others : List (List ℕ)) (results other_results : Results) → machine.cores ≡ 1
      → reference_run machine image comps lists ≡ Ok results → reference_run machine image comps others ≡ Ok other_results → lists ≡ others
  schedule_is_one comps lists others results other_results cores e f =
      let first = first_state machine image comps in
      let one = whole (after_intervals machine image first lists) results e in
      let two = whole (after_intervals machine image first others) other_results f in
      one_schedule first (first_one machine image comps cores) lists others one.0 two.0 one.1 one.2 two.1 two.2
