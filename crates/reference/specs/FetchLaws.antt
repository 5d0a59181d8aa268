-- That fetches change how long programs take and how their accesses are met, and nothing else that they do.
use Rattle.std.specs.Prelude.{◌≡◌, ℕ, suc, Bool, false, not, if◌then◌else◌, List, [], ◌∷◌, map, filter, replicate, slice_get, Some, None}
use Rattle.std.specs.Option.{option_map_or}
use Rattle.zs_num.specs.Request.{is_fetch}
use Rattle.zs_num.specs.declared.entry.Entry.{Entry}
use Rattle.zs_num.specs.declared.request.Request.{Request}
use Rattle.elf_load.specs.MemoryImage.{MemoryImage}
use Rattle.machine_desc.specs.Machine.{IsMachine}
use Rattle.machine_desc.specs.declared.machine.Machine.{Machine}
use Rattle.rv_core.specs.CoreState.{CoreState}
use Rattle.rv_core.specs.Step.{answered, asks_for_instruction, needs_fetch}
use Rattle.reference.specs.MachineWorld.{MachineWorld, serve}
use Rattle.reference.specs.ReferenceMachine.{BoundState, turn}
use Rattle.reference.specs.Steps.{after_step, after_steps, at_start, begun_step}
use Rattle.reference.specs.TimedCore.{TimedCore, asks}

-- ---- steps that are no fetches

module _ (time : Entry → ℕ) (image : MemoryImage) where
  -- whether the step of a core is a fetch
  abbrev pub is_fetch_step : BoundState MachineWorld → (number : ℕ) → Bool
  is_fetch_step s number = option_map_or (λ c. option_map_or is_fetch (asks (begun_step time image c)) false) (slice_get s.cores number) false

  -- the steps that are no fetches
  abbrev pub other_steps : BoundState MachineWorld → List ℕ → List ℕ
  other_steps s [] = []
  other_steps s (number ∷ numbers) =
      let rest = other_steps (after_step time image s number) numbers in if is_fetch_step s number then rest else number ∷ rest

-- ---- what a program sees

-- the core as it is where it does not fetch
abbrev pub without_fetching : CoreState → CoreState
without_fetching core = record core { fetching = false; fetched_line = None; is_fetched = false }

-- what a core has done, but for the cycles that it took
pub record Done : Type 0 where
  pub core : CoreState
  pub instructions : ℕ
  pub console : List ℕ

abbrev pub done_by : TimedCore → Done
done_by c = record { core = without_fetching c.core; instructions = c.instructions; console = c.console }

-- an access as memory answered it
pub record Answered : Type 0 where
  pub core : ℕ
  pub request : Request
  pub reply : ℕ

abbrev pub answered_in : Entry → Answered
answered_in e = record { core = e.core; request = e.request; reply = e.reply }

abbrev pub answers_to : List Entry → List Answered
answers_to entries = map answered_in (filter (λ e. not (is_fetch e.request)) entries)

-- The cores of both have done the same, their accesses but for fetches had the same replies, and memory is the same.
pub record HaveDoneTheSame (s t : BoundState MachineWorld) : Type 0 where
  pub cores : map done_by s.cores ≡ map done_by t.cores
  pub replies : answers_to s.entries ≡ answers_to t.entries
  pub memory : s.world.memory ≡ t.world.memory

-- ---- the laws

-- Right behind its fetch an instruction is executed, whatever the reply: the core does not ask for it again.
abbrev pub FetchesAreExecuted : Type 0
FetchesAreExecuted = (image : MemoryImage) (core : CoreState) (reply : ℕ) → needs_fetch image (answered reply (asks_for_instruction core)) ≡ false

-- A turn of the machine of one thread is steps of its core.
abbrev pub TurnsAreSteps : Type 0
TurnsAreSteps = (time : Entry → ℕ) (image : MemoryImage) (end : ℕ) (s t : BoundState MachineWorld) (number : ℕ)
    → turn serve time image end s number ≡ Some t → (count : ℕ) × (after_steps time image s (replicate (suc count) number) ≡ t)

-- a machine without instruction caches, which is else the same
abbrev pub without_l1i : Machine → Machine
without_l1i m = record m { version = 1; l1i = None }

-- Whatever cores step, one after the other: the machine without instruction caches does the same by the same steps, but
-- for those that fetch.
abbrev pub FetchesChangeTimesAndOutcomesAlone : Type 0
FetchesChangeTimesAndOutcomesAlone = (m : Machine) (image : MemoryImage) (time time_without : Entry → ℕ) (numbers : List ℕ) → IsMachine m
    → HaveDoneTheSame (after_steps time image (at_start m image) numbers)
    (after_steps time_without image (at_start (without_l1i m) image) (other_steps time image (at_start m image) numbers))
