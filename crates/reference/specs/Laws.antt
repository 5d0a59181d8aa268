-- What is true of the runs of every machine.
use Rattle.std.specs.Prelude.{◌≡◌, ◌<◌, ◌≤◌, ℕ, List, All, length, sum_by}
use Rattle.elf_load.specs.MemoryImage.{MemoryImage}
use Rattle.machine_desc.specs.declared.machine.Machine.{Machine}
use Rattle.machine_desc.specs.Machine.{IsMachine}
use Rattle.reference.specs.SamePath.{IsWheneverItStarts}
use Rattle.reference.specs.ReferenceRun.{IsRunOf, time_of}
use Rattle.reference.specs.Results.{Results}
use Rattle.reference.specs.RunEvents.{IsEventsFileOf}

-- a run under a schedule gives one result
abbrev pub ResultsAreOne : Type 0
ResultsAreOne = (machine : Machine) (image : MemoryImage) (lists : List (List ℕ)) (first second : Results)
    → IsRunOf machine image lists first → IsRunOf machine image lists second → first ≡ second

-- the run of an image on a machine of one core has a legal schedule
abbrev pub OneCoreHasASchedule : Type 0
OneCoreHasASchedule = (machine : Machine) (image : MemoryImage) → IsMachine machine → machine.cores ≡ 1
    → (lists : List (List ℕ)) × (results : Results) × IsRunOf machine image lists results

-- it has no other legal schedule
abbrev pub OneCoreHasNoOtherSchedule : Type 0
OneCoreHasNoOtherSchedule = (machine : Machine) (image : MemoryImage) (lists others : List (List ℕ)) (results other_results : Results) → machine.cores ≡ 1
    → IsRunOf machine image lists results → IsRunOf machine image others other_results → lists ≡ others

-- A legal schedule names the machine's cores, and has a turn for each access of its run and a list for each interval.
pub record FitsRun (machine : Machine) (lists : List (List ℕ)) (results : Results) : Type 0 where
  pub known : All (λ turns. All (λ number. number < machine.cores) turns) lists
  pub turns : sum_by length lists ≡ results.counts.accesses
  pub intervals : length lists ≡ results.intervals
  pub few : results.intervals ≤ machine.intervals

abbrev pub LegalSchedulesFit : Type 0
LegalSchedulesFit = (machine : Machine) (image : MemoryImage) (lists : List (List ℕ)) (results : Results) → IsRunOf machine image lists results → FitsRun machine lists results

-- The run of an image under a schedule has an events file.
abbrev pub RunsHaveAnEventsFile : Type 0
RunsHaveAnEventsFile = (machine : Machine) (image : MemoryImage) (lists : List (List ℕ)) (results : Results) → IsRunOf machine image lists results
    → (bytes : List ℕ) × IsEventsFileOf machine image lists bytes

-- It has one.
abbrev pub EventsFilesAreOne : Type 0
EventsFilesAreOne = (machine : Machine) (image : MemoryImage) (lists : List (List ℕ)) (first second : List ℕ)
    → IsEventsFileOf machine image lists first → IsEventsFileOf machine image lists second → first ≡ second

-- How long an access of a run takes does not depend on when it starts.
abbrev pub AccessesTakeAsLongWhenever : Type 0
AccessesTakeAsLongWhenever = (machine : Machine) → IsWheneverItStarts (time_of machine)
