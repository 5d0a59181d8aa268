-- The trace of a run: what its cores and its weave do, step by step, in the order in which the machine of one thread
-- does it.
use Rattle.std.specs.Prelude.{◌≡◌, ℕ, zero, suc, ◌+◌, ◌-◌, if◌then◌else◌, List, [], ◌∷◌, ◌++◌, flat_map, map, option_to_list, replicate, slice_get, Result, Ok, Err}
use Rattle.std.specs.List.{enumerate_from}
use Rattle.std.specs.Option.{option_map_or}
use Rattle.zs_num.specs.declared.entry.Entry.{Entry}
use Rattle.zs_num.specs.declared.request.Request.{Request}
use Rattle.elf_load.specs.MemoryImage.{MemoryImage}
use Rattle.machine_desc.specs.declared.machine.Machine.{Machine}
use Rattle.component.specs.declared.comp.Comp.{Comp}
use Rattle.component.specs.Components.{AreFresh}
use Rattle.shard.specs.Leaving.{leaving_of}
use Rattle.shard.specs.declared.leaving.Leaving.{Leaving}
use Rattle.access_log.specs.RecordedOrder.{recorded_order}
use Rattle.bound_core.specs.MachineWorld.{MachineWorld, serve}
use Rattle.bound_core.specs.ReferenceMachine.{BoundState, bound_phase, turn}
use Rattle.bound_core.specs.TimedCore.{TimedCore, after_instruction, asks, goes_on_alone, ran_to}
use Rattle.stats.specs.Counts.{Interval}
use Rattle.reference.specs.ReferenceRun.{Illegal, RunState, after_interval, begun_interval, end_of, first_state, time_of, woven_interval}

pub data Step : Type 0 where
  -- a core executed the instruction at pc, and counted it
  Executed : (core pc : ℕ) → Step
  -- An access of the instruction at pc, be it its fetch, had this entry, and these lines left caches for it.
  Accessed : (pc : ℕ) → Entry → Leaving → Step
  -- an interval ended, and its events were woven
  Ended : Interval → Step

-- a core executed so many instructions that follow each other, the first of them at pc
abbrev pub stretch_steps : (core pc count : ℕ) → List Step
stretch_steps core pc zero = []
stretch_steps core pc (suc n) = Executed core pc ∷ stretch_steps core (pc + 4) n

-- ---- a core

-- the step of an instruction that was counted, and none of one that was not
abbrev pub executed_by : (number : ℕ) → (before after : TimedCore) → List Step
executed_by number before after = replicate (after.instructions - before.instructions) (Executed number before.core.pc)

module _ (image : MemoryImage) (end : ℕ) where
  -- the steps of so many local instructions of a core, or of fewer where it stops before
  abbrev pub local_steps : ℕ → (number : ℕ) → TimedCore → List Step
  local_steps zero number c = []
  local_steps (suc n) number c =
      if goes_on_alone end c then executed_by number c (after_instruction image c) ++ local_steps n number (after_instruction image c) else []

  -- those of all its local instructions: up to an access, a halt or the end of the interval (as `ran_to` runs)
  abbrev pub steps_alone : (number : ℕ) → TimedCore → List Step
  steps_alone number c = local_steps (suc (end - c.clock)) number c

  -- those of the cores' last local instructions before the end of the interval, core after core, from this number on
  abbrev pub last_from : (number : ℕ) → List TimedCore → List Step
  last_from number cores = flat_map (λ at. steps_alone at.0 at.1) (enumerate_from number cores)

-- ---- an interval

-- `serve` is what the world answers to a request of a core that starts then, and the world after, and `leaves` which
-- lines leave caches for a request. The interval ends at `end`.
module _ {World : Type 0} (serve : World → (core start : ℕ) → Request → Entry × World) (leaves : World → (core : ℕ) → Request → Leaving) (image : MemoryImage) (end : ℕ) where
  -- that of an access of a core, which stands there
  abbrev pub access_step : World → (number : ℕ) → TimedCore → Request → Step
  access_step world number c request = Accessed c.core.pc (serve world number c.clock request).0 (leaves world number request)

  -- those of a turn of a core: of its local instructions, and of its access, if it has one
  abbrev pub turn_steps : World → (number : ℕ) → TimedCore → List Step
  turn_steps world number c = let at = ran_to image end c in steps_alone image end number c ++ map (access_step world number at) (option_to_list (asks at))

  -- Those of a bound phase under a schedule, as far as it is legal. `time` is how long an access takes where nothing
  -- else runs.
  abbrev pub phase_steps : (time : Entry → ℕ) → List ℕ → BoundState World → List Step
  phase_steps time [] s = last_from image end 0 s.cores
  phase_steps time (number ∷ numbers) s =
      option_map_or (turn_steps s.world number) (slice_get s.cores number) []
      ++ option_map_or (phase_steps time numbers) (turn serve time image end s number) []

-- ---- a run

-- which lines leave caches of a machine
abbrev pub leaves_machine : MachineWorld → (core : ℕ) → Request → Leaving
leaves_machine world core request = leaving_of world.caches core request

-- the end of an interval, where its list was legal
abbrev pub end_step : Machine → RunState → Result (BoundState MachineWorld) ℕ → List Step
end_step machine s (Ok b) = Ended (woven_interval machine s.comps (recorded_order b.entries)) ∷ []
end_step machine s (Err place) = []

-- the steps of the next interval under a list of turns
abbrev pub interval_steps : Machine → MemoryImage → RunState → List ℕ → List Step
interval_steps machine image s turns =
    phase_steps serve leaves_machine image (end_of machine s) (time_of machine) turns (begun_interval machine s)
    ++ end_step machine s (bound_phase serve (time_of machine) image (end_of machine s) turns (begun_interval machine s))

-- those behind an interval, where its list was legal
abbrev pub steps_behind : (RunState → List Step) → Result RunState Illegal → List Step
steps_behind steps (Ok s) = steps s
steps_behind steps (Err illegal) = []

-- the steps of the intervals of a schedule, as far as it is legal
abbrev pub run_steps : Machine → MemoryImage → RunState → List (List ℕ) → List Step
run_steps machine image s [] = []
run_steps machine image s (turns ∷ lists) =
    interval_steps machine image s turns ++ steps_behind (λ t. run_steps machine image t lists) (after_interval machine image s turns)

-- These are the steps of the run of an image under a schedule.
pub record IsTraceOf (machine : Machine) (image : MemoryImage) (lists : List (List ℕ)) (steps : List Step) : Type 0 where
  pub comps : List Comp
  pub fresh : AreFresh machine comps
  pub is : steps ≡ run_steps machine image (first_state machine image comps) lists
