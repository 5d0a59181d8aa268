-- The order in which the cores take their turns: the schedule of a file, or core after core.
use Rattle.std.specs.Prelude.{◌≡◌, ℕ, List, [], Option, Some, None, Ok}
use Rattle.access_log.specs.Schedule.{ScheduleState}
use Rattle.elf_load.specs.MemoryImage.{MemoryImage}
use Rattle.machine_desc.specs.declared.machine.Machine.{Machine}
use Rattle.reference.specs.ReferenceRun.{IsRunOf}
use Rattle.reference.specs.Results.{Results}
use Rattle.trace.specs.InTurn.{IsInTurn}
use Rattle.zsim.specs.declared.ended.Status.{Status}
use Rattle.zsim.specs.declared.ended.Status.TheVariants as status
use Rattle.zsim.specs.Ended.{no_intervals}
use Rattle.zsim.specs.InputLengths.{schedule_limit}
use Rattle.zsim.specs.Seen.{FilesSeen, WasRead}
use Rattle.zsim.specs.Setup.{schedule_by}
use Rattle.zsim.specs.Steps.{IsNotTaken, IsQuiet}

-- The schedule is that of the file of this name; or, where there is none, it is that of a run in which the cores make
-- their accesses one core after the other in each interval, in order of their numbers.
abbrev pub IsOrderOf : Machine → MemoryImage → (name : Option (List ℕ)) → ScheduleState → (sched_file : List ℕ) → FilesSeen → Type 0
IsOrderOf machine image None schedule sched_file files =
    (sched_file ≡ []) × (schedule.cores ≡ machine.cores) × IsInTurn machine image schedule.lists × ((r : Results) × IsRunOf machine image schedule.lists r)
IsOrderOf machine image (Some name) schedule sched_file files = (schedule_by machine sched_file ≡ Ok schedule) × WasRead files name schedule_limit sched_file

-- No schedule was taken: memory ran out in the run, of which there are the lists of some first intervals, each core after
-- core; or the file was not taken.
abbrev pub HasNoOrder : Status → Machine → MemoryImage → (name : Option (List ℕ)) → ScheduleState → (sched_file : List ℕ) → FilesSeen → Type 0
HasNoOrder s machine image None schedule sched_file files =
    (s ≡ status.NoMemory) × (sched_file ≡ []) × (schedule.cores ≡ machine.cores) × IsInTurn machine image schedule.lists × IsQuiet files
HasNoOrder s machine image (Some name) schedule sched_file files =
    (schedule ≡ no_intervals machine.cores) × IsNotTaken (λ seen. WasRead seen name schedule_limit) (schedule_by machine) (Some name) s files sched_file
