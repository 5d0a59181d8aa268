-- A run before it goes, and after.
use Rattle.std.specs.Prelude.{◌≡◌, ℕ, ◌+◌, ◌≤◌, [], min, IfOk, Option, Some, Result}
use Rattle.std.specs.List.{range_with_len}
use Rattle.elf_load.specs.MemoryImage.{MemoryImage}
use Rattle.machine_desc.specs.declared.machine.Machine.{Machine}
use Rattle.machine_desc.specs.Machine.{IsMachine}
use Rattle.access_log.specs.Schedule.{ScheduleState}
use Rattle.run.specs.declared.recording.Recording.{Recording}
use Rattle.run.specs.declared.simulation.Simulation.{Simulation}
use Rattle.run.specs.Recording.{IsRecordedRun, IsRecordingOf, is_on}
use Rattle.reference.specs.ReferenceRun.{IsKeptInOrder, IsRunOf}
use Rattle.reference.specs.Results.{HasCounts, Results}
use Rattle.run.specs.Simulation.{IsAtStart}

-- It is at its start, and there are posts enough for its workers.
pub record CanGo (machine : Machine) (image : MemoryImage) (workers posts : ℕ) (simulation : Option Simulation) (schedule : ScheduleState) (recording : Recording) : Type 0 where
  pub is_machine : IsMachine machine
  pub first : Simulation
  pub there : simulation ≡ Some first
  pub starts : IsAtStart machine image first
  pub some : 1 ≤ workers
  pub few : workers ≤ 64
  pub enough : min workers machine.cores ≤ posts + 1
  pub empty : schedule.lists ≡ []
  pub cores_known : schedule.cores ≡ machine.cores
  pub recording_is : IsRecordingOf machine [] recording

-- It came to this result, schedule and recording.
pub record HasGone {E : Type 0} (machine : Machine) (image : MemoryImage) (before : ScheduleState) (was : Recording) (schedule : ScheduleState) (recording : Recording) (result : Result Results E) : Type 0 where
  pub ok : IfOk result (IsRunOf machine image schedule.lists)
  pub recorded : IfOk result (λ r. IsRecordedRun machine image schedule.lists recording)
  pub on : is_on recording ≡ is_on was
  pub counted : IfOk result (HasCounts machine)
  pub numbered : IfOk result (λ r. r.numbers ≡ range_with_len 0 machine.cores)
  pub in_order : IsKeptInOrder machine image schedule.lists
  pub cores : schedule.cores ≡ before.cores
