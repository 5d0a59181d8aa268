-- The steps over shards are those of the machine for which they stand, and those of intervals are those of a run.
use Rattle.std.proofs.Common.{◌≡◌, ℕ, List, [], ◌∷◌, ◌++◌, length, map, append_assoc, Bool, true, false, if◌then◌else◌, Result, Ok, Err, refl, sym, ◌∙◌, ap, subst}
use Rattle.std.proofs.lemmas.List.{append-nil}
use Rattle.zs_num.specs.declared.entry.Entry.{Entry}
use Rattle.elf_load.specs.MemoryImage.{MemoryImage}
use Rattle.machine_desc.specs.declared.machine.Machine.{Machine}
use Rattle.shard.specs.Laws.{MarksAreReservations, ShardsStandForAMachine}
use Rattle.access_log.specs.RecordedOrder.{recorded_order}
use Rattle.bound_core.specs.History.{begun_over_shards}
use Rattle.bound_core.specs.MachineOfShards.{ShardsDoAsTheMachine, StandForMachine}
use Rattle.bound_core.specs.MachineWorld.{MachineWorld, serve}
use Rattle.bound_core.specs.ReferenceMachine.{BoundState, bound_phase}
use Rattle.bound_core.specs.ShardWorld.{ShardWorld, begun_world, restarted, shards_serve}
use Rattle.bound_core.specs.TimedCore.{TimedCore}
use Rattle.reference.proofs.CoreKept.{CoreLaws}
use Rattle.reference.proofs.ShardsTurn.{kept_by_turns}
use Rattle.shard.specs.LeavingLaws.{LeavingIsTheMachines}
use Rattle.reference.specs.ReferenceRun.{Illegal, RunState, after_interval, after_intervals, begun_interval, continued, end_of, first_state, has_ended, next_place, time_of, woven_interval, world_of}
use Rattle.run.specs.Simulation.{HasNextInterval, LeadsTo, cores_of}
use Rattle.run.specs.declared.simulation.Simulation.{Simulation}
use Rattle.run.proofs.NextInterval.{legal}
use Rattle.run.proofs.RunSoFar.{HasRun, further}
use Rattle.trace.specs.Port.{leaves_shards}
use Rattle.trace.specs.Trace.{Ended, Step, end_step, interval_steps, leaves_machine, phase_steps, run_steps, steps_behind}
use Rattle.trace.proofs.SameSteps.{LeavesAlike, same_steps}

-- What the steps of shards and of a machine stand on.
pub record StepLaws (image : MemoryImage) (end : ℕ) : Type 0 where
  pub cores : CoreLaws
  pub shards : ShardsStandForAMachine
  pub marks : MarksAreReservations
  pub leaves : LeavesAlike StandForMachine shards_serve serve leaves_shards leaves_machine image end

-- the next interval of a run whose bound phase is legal over the shards
module _ (machine : Machine) (image : MemoryImage) (end : ℕ) (s : RunState) (p : Simulation) (g : HasNextInterval machine end s p) (turns : List ℕ) (laws : StepLaws image end) (law : ShardsDoAsTheMachine (time_of machine) image end) where
  abbrev before : BoundState ShardWorld
  before = begun_over_shards (cores_of p) (map restarted p.recorder.world.shards)

  abbrev from : BoundState MachineWorld
  from = record { cores = cores_of p; world = world_of machine s; entries = [] }

  -- as many cores as the machine has
  many : length (cores_of p) ≡ machine.cores
  many = ap length (sym g.come.cores) ∙ g.come.count

  stand : StandForMachine (cores_of p) (begun_world (length (cores_of p)) (map restarted p.recorder.world.shards)) (world_of machine s)
  stand =
      subst (λ (n : ℕ). StandForMachine (cores_of p) (begun_world n (map restarted p.recorder.world.shards)) (world_of machine s)) (sym many)
      (subst (λ (cores : List TimedCore). StandForMachine cores (begun_world machine.cores (map restarted p.recorder.world.shards)) (world_of machine s)) g.come.cores g.come.stand)

  phase_alike : phase_steps shards_serve leaves_shards image end (time_of machine) turns before
      ≡ phase_steps serve leaves_machine image (end_of machine s) (time_of machine) turns (begun_interval machine s)
  phase_alike =
      same_steps StandForMachine shards_serve serve leaves_shards leaves_machine image end (time_of machine)
      (kept_by_turns laws.cores laws.shards laws.marks (time_of machine) image end) laws.leaves turns before from (record { cores = refl; entries = refl; worlds = stand })
      ∙ ap (λ (stop : ℕ). phase_steps serve leaves_machine image stop (time_of machine) turns from) g.ends
      ∙ ap (λ (cores : List TimedCore). let b : BoundState MachineWorld = record { cores = cores; world = world_of machine s; entries = [] } in phase_steps serve leaves_machine image (end_of machine s) (time_of machine) turns b) (sym g.come.cores)

  -- with the end of the interval, whose accesses are these in recorded order
  pub interval_told : (left : BoundState ShardWorld) → bound_phase shards_serve (time_of machine) image end turns before ≡ Ok left → (entries : List Entry) → entries ≡ recorded_order left.entries
      → phase_steps shards_serve leaves_shards image end (time_of machine) turns before ++ Ended (woven_interval machine s.comps entries) ∷ [] ≡ interval_steps machine image s turns
  interval_told left phase entries sorted =
      let run = legal machine image end s p g turns law left phase in
      let order : entries ≡ recorded_order run.0.entries = sorted ∙ ap recorded_order (sym run.2.entries) in
      let whole = phase_steps serve leaves_machine image (end_of machine s) (time_of machine) turns (begun_interval machine s) in
      ap (λ (steps : List Step). steps ++ Ended (woven_interval machine s.comps entries) ∷ []) phase_alike
      ∙ ap (λ (es : List Entry). whole ++ Ended (woven_interval machine s.comps es) ∷ []) order
      ∙ ap (λ (o : Result (BoundState MachineWorld) ℕ). whole ++ end_step machine s o) (sym run.1)

  -- Behind what was told before they are those of the whole interval.
  pub all_told : (left : BoundState ShardWorld) → bound_phase shards_serve (time_of machine) image end turns before ≡ Ok left → (entries : List Entry) → entries ≡ recorded_order left.entries
      → (earlier told later : List Step) → told ≡ earlier ++ phase_steps shards_serve leaves_shards image end (time_of machine) turns before
      → later ≡ told ++ Ended (woven_interval machine s.comps entries) ∷ [] → later ≡ earlier ++ interval_steps machine image s turns
  all_told left phase entries sorted earlier told later steps ends =
      let last : List Step = Ended (woven_interval machine s.comps entries) ∷ [] in
      ends
      ∙ ap (λ (ss : List Step). ss ++ last) steps
      ∙ append_assoc earlier (phase_steps shards_serve leaves_shards image end (time_of machine) turns before) last
      ∙ ap (λ (ss : List Step). earlier ++ ss) (interval_told left phase entries sorted)

-- ---- intervals, one after the other

-- where no list was refused
legal_by : (test : Bool) (rest : Result RunState Illegal) (stop : Illegal) (t : RunState) → (if test then Err stop else rest) ≡ Ok t → rest ≡ Ok t
legal_by false rest stop t e = e
legal_by true rest stop t e = cc

module _ (machine : Machine) (image : MemoryImage) where
  -- nothing is behind the last list
  none_behind : (o : Result RunState Illegal) → steps_behind (λ u. run_steps machine image u []) o ≡ []
  none_behind (Ok u) = refl
  none_behind (Err illegal) = refl

  same_ok : (s t : RunState) → (let one : Result RunState Illegal = Ok s in one) ≡ Ok t → s ≡ t
  same_ok s t e = cc

  -- an interval more
  pub more_steps : (s t : RunState) (lists : List (List ℕ)) (turns : List ℕ) → after_intervals machine image s lists ≡ Ok t
      → run_steps machine image s (lists ++ turns ∷ []) ≡ run_steps machine image s lists ++ interval_steps machine image t turns
  more_steps s t [] turns at =
      ap (λ (steps : List Step). interval_steps machine image s turns ++ steps) (none_behind (after_interval machine image s turns))
      ∙ append-nil (interval_steps machine image s turns)
      ∙ ap (λ (u : RunState). interval_steps machine image u turns) (same_ok s t at)
  more_steps s t (first ∷ lists) turns at =
      let own = interval_steps machine image s first in
      let after = after_interval machine image s first in
      let there = legal_by (has_ended machine s) (continued (λ u. after_intervals machine image u lists) after) (next_place s) t at in
      let rest : (o : Result RunState Illegal) → continued (λ u. after_intervals machine image u lists) o ≡ Ok t
      → steps_behind (λ u. run_steps machine image u (lists ++ turns ∷ [])) o ≡ steps_behind (λ u. run_steps machine image u lists) o ++ interval_steps machine image t turns =
      λ o. elim o as (λ v. continued (λ u. after_intervals machine image u lists) v ≡ Ok t
      → steps_behind (λ u. run_steps machine image u (lists ++ turns ∷ [])) v ≡ steps_behind (λ u. run_steps machine image u lists) v ++ interval_steps machine image t turns) [
        | Err illegal ↦ λ e. cc
        | Ok u ↦ λ e. more_steps u t lists turns e
      ]
      in
      ap (λ (steps : List Step). own ++ steps) (rest after there)
      ∙ sym (append_assoc own (steps_behind (λ u. run_steps machine image u lists) after) (interval_steps machine image t turns))

-- The code has come to where the run is after the intervals of this schedule, and their steps were told behind those
-- before.
pub record HasTold (machine : Machine) (image : MemoryImage) (lists : List (List ℕ)) (p : Simulation) (before told : List Step) : Type 0 where
  pub ran : HasRun machine image lists p
  pub steps : told ≡ before ++ run_steps machine image (first_state machine image ran.comps) lists

-- an interval more
pub told_further : (machine : Machine) (image : MemoryImage) (lists : List (List ℕ)) (p q : Simulation) (before told later : List Step) (h : HasTold machine image lists p before told) (turns : List ℕ)
    → has_ended machine h.ran.state ≡ false → LeadsTo machine image h.ran.state turns q → later ≡ told ++ interval_steps machine image h.ran.state turns
    → HasTold machine image (lists ++ turns ∷ []) q before later
told_further machine image lists p q before told later h turns on leads more =
    let start = first_state machine image h.ran.comps in
    let own = interval_steps machine image h.ran.state turns in
    record {
      ran = further machine image lists p q h.ran turns on leads;
      steps = more
          ∙ ap (λ (steps : List Step). steps ++ own) h.steps
          ∙ append_assoc before (run_steps machine image start lists) own
          ∙ ap (λ (steps : List Step). before ++ steps) (sym (more_steps machine image start h.ran.state lists turns h.ran.reached));
    }

-- The same lines leave for what a core asks the shards and the machine.
pub leave_alike : LeavingIsTheMachines → (image : MemoryImage) (end : ℕ) → LeavesAlike StandForMachine shards_serve serve leaves_shards leaves_machine image end
leave_alike law image end cores w v number c request related here asked = law w.shards related.memory v.caches number request related.stand related.some
