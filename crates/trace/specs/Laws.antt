-- What the trace of a run tells of the run's results.
use Rattle.std.specs.Prelude.{◌≡◌, ◌<◌, ◌^◌, ℕ, IsTrue, List, [], ◌∷◌, ◌++◌, length, slice_get, sum_by, All, Some, Ok}
use Rattle.zs_num.specs.declared.entry.Entry.{Entry}
use Rattle.zs_num.specs.Request.{is_fetch, line_of}
use Rattle.elf_load.specs.MemoryImage.{MemoryImage}
use Rattle.elf_load.specs.SoundImage.{IsSoundImage}
use Rattle.machine_desc.specs.declared.machine.Machine.{Machine}
use Rattle.machine_desc.specs.Machine.{IsMachine}
use Rattle.component.specs.declared.comp.Comp.{Comp}
use Rattle.component.specs.Components.{AreComponents, AreFresh}
use Rattle.shard.specs.Coherence.{Caches, caches_after, outcome_of}
use Rattle.shard.specs.Leaving.{leaving_of}
use Rattle.shard.specs.NewCaches.{new_caches}
use Rattle.shard.specs.declared.leaving.Leaving.{Leaving}
use Rattle.access_log.specs.History.{of_core}
use Rattle.access_log.specs.RecordedOrder.{recorded_order}
use Rattle.stats.specs.Counts.{Interval, counts_of}
use Rattle.reference.specs.ReferenceRun.{IsRunOf, RunState, after_intervals, first_state, run_results, woven_interval}
use Rattle.reference.specs.Results.{Results}
use Rattle.reference.specs.TimedCore.{TimedCore}
use Rattle.trace.specs.Told.{accessed_in, all_instructions_of, ended_in, instructions_left, instructions_of}
use Rattle.trace.specs.Trace.{Step, Accessed, Ended, Executed, IsTraceOf}

-- ---- intervals

-- The run of an image under a schedule comes to this end, and these are its results.
pub record ComesTo (machine : Machine) (image : MemoryImage) (lists : List (List ℕ)) (results : Results) (end : RunState) : Type 0 where
  pub comps : List Comp
  pub fresh : AreFresh machine comps
  pub reached : after_intervals machine image (first_state machine image comps) lists ≡ Ok end
  pub gives : results ≡ run_results machine end

-- the intervals that ended in a trace are those of the run
abbrev pub IntervalsAreTheRuns : Type 0
IntervalsAreTheRuns = (machine : Machine) (image : MemoryImage) (lists : List (List ℕ)) (steps : List Step) (results : Results)
    → IsTraceOf machine image lists steps → IsRunOf machine image lists results
    → (end : RunState) × ComesTo machine image lists results end × (ended_in steps ≡ end.intervals)

-- so the run's counts are those of the intervals that ended, with its components as they are at its end
abbrev pub CountsAreOfWhatEnded : Type 0
CountsAreOfWhatEnded = (machine : Machine) (image : MemoryImage) (lists : List (List ℕ)) (steps : List Step) (results : Results)
    → IsTraceOf machine image lists steps → IsRunOf machine image lists results
    → (comps : List Comp) × (results.counts ≡ counts_of machine.cores comps (ended_in steps))

-- ---- instructions

-- each core counted the instructions that the trace tells of it
abbrev pub InstructionsAreTold : Type 0
InstructionsAreTold = (machine : Machine) (image : MemoryImage) (lists : List (List ℕ)) (steps : List Step) (results : Results)
    → IsTraceOf machine image lists steps → IsRunOf machine image lists results
    → (core : ℕ) (c : TimedCore) → slice_get results.cores core ≡ Some c → c.instructions ≡ instructions_of core steps

-- all cores together those of the whole trace, of which each stands in an interval
abbrev pub AllInstructionsAreTold : Type 0
AllInstructionsAreTold = (machine : Machine) (image : MemoryImage) (lists : List (List ℕ)) (steps : List Step) (results : Results)
    → IsTraceOf machine image lists steps → IsRunOf machine image lists results
    → (sum_by (λ c. c.instructions) results.cores ≡ all_instructions_of steps) × (instructions_left 0 steps ≡ 0)

-- ---- accesses

-- An interval ended behind these accesses of the machine's cores: it has them in recorded order, in which those of each
-- core stand as they were made, and their events as the one-list weave fired them on the components before it.
pub record EndsBehind (machine : Machine) (accesses : List Entry) (interval : Interval) : Type 0 where
  pub entries : interval.entries ≡ recorded_order accesses
  pub by_core : (core : ℕ) → of_core core interval.entries ≡ of_core core accesses
  pub known : All (λ e. e.core < machine.cores) accesses
  pub comps : List Comp
  pub are : AreComponents machine comps
  pub woven : interval ≡ woven_interval machine comps interval.entries

-- Each interval ended behind the accesses since the one before; those of the first are behind these. None is left when
-- the trace ends.
abbrev pub EndBehindTheirAccesses : Machine → (so_far : List Entry) → List Step → Type 0
EndBehindTheirAccesses machine so_far [] = so_far ≡ []
EndBehindTheirAccesses machine so_far (Executed core pc ∷ steps) = EndBehindTheirAccesses machine so_far steps
EndBehindTheirAccesses machine so_far (Accessed pc e leaving ∷ steps) = EndBehindTheirAccesses machine (so_far ++ e ∷ []) steps
EndBehindTheirAccesses machine so_far (Ended interval ∷ steps) = EndsBehind machine so_far interval × EndBehindTheirAccesses machine [] steps

-- so it is in the trace of every run
abbrev pub AccessesAreOfIntervals : Type 0
AccessesAreOfIntervals = (machine : Machine) (image : MemoryImage) (lists : List (List ℕ)) (steps : List Step) (results : Results) → IsMachine machine
    → IsTraceOf machine image lists steps → IsRunOf machine image lists results
    → EndBehindTheirAccesses machine [] steps

-- and a sum over all accesses is the sum over all entries of all intervals
abbrev pub SumsAreOverIntervals : Type 0
SumsAreOverIntervals = (machine : Machine) (steps : List Step) → EndBehindTheirAccesses machine [] steps
    → (weight : Entry → ℕ) → sum_by weight (accessed_in steps) ≡ sum_by (λ i. sum_by weight i.entries) (ended_in steps)

-- ---- caches

-- An access of a core that is there, by an instruction cache where it is a fetch, is met as these caches meet it, and
-- the lines leave that leave them.
pub record IsMetBy (c : Caches) (e : Entry) (leaving : Leaving) : Type 0 where
  pub known : e.core < length c.l1
  pub fetches : IsTrue (is_fetch e.request) → e.core < length c.l1i
  pub outcome : e.outcome ≡ outcome_of c e.core e.request
  pub leaves : leaving ≡ leaving_of c e.core e.request

-- The accesses are met by these caches one after the other, each by what those before it left.
abbrev pub AreMetBy : Caches → List Step → Type 0
AreMetBy c [] = Unit {0}
AreMetBy c (Executed core pc ∷ steps) = AreMetBy c steps
AreMetBy c (Accessed pc e leaving ∷ steps) = IsMetBy c e leaving × AreMetBy (caches_after c e.core e.request) steps
AreMetBy c (Ended interval ∷ steps) = AreMetBy c steps

-- The accesses of a run are met by the caches of its machine, empty before the first, across its intervals.
abbrev pub AccessesAreMet : Type 0
AccessesAreMet = (machine : Machine) (image : MemoryImage) (lists : List (List ℕ)) (steps : List Step) (results : Results) → IsMachine machine → IsSoundImage image
    → IsTraceOf machine image lists steps → IsRunOf machine image lists results
    → AreMetBy (new_caches machine) steps

-- ---- numbers

-- the step is of an instruction at an address of 64 bits, and an access of it to a line of as many
abbrev pub Fits64Bits : Step → Type 0
Fits64Bits (Executed core pc) = pc < 2 ^ 64
Fits64Bits (Accessed pc e leaving) = (pc < 2 ^ 64) × (line_of e.request < 2 ^ 64)
Fits64Bits (Ended interval) = Unit {0}

-- so are all steps of a run
abbrev pub StepsFit : Type 0
StepsFit = (machine : Machine) (image : MemoryImage) (lists : List (List ℕ)) (steps : List Step) (results : Results) → IsMachine machine → IsSoundImage image
    → IsTraceOf machine image lists steps → IsRunOf machine image lists results
    → All Fits64Bits steps
