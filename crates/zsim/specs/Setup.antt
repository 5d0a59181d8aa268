-- What a call is to run. The steps that decide it are the machine, the executable and, of a replay, the schedule: each
-- is read, tested for its length and checked, and the first that refuses decides.
use Rattle.std.specs.Prelude.{ℕ, nat_lt, if◌then◌else◌, List, length, Option, Some, None, Result, Ok, Err}
use Rattle.access_log.specs.Schedule.{ScheduleState}
use Rattle.machine_desc.specs.declared.errors.BadMachine.{BadMachine}
use Rattle.machine_desc.specs.declared.machine.Machine.{Machine}
use Rattle.machine_desc.specs.Description.{machine_of}
use Rattle.elf_load.specs.MemoryImage.{MemoryImage}
use Rattle.elf_load.specs.Image.{image_of}
use Rattle.elf_load.specs.declared.bad_elf.BadElf.{BadElf}
use Rattle.schedule_file.specs.declared.bad_schedule.BadSchedule.{BadSchedule}
use Rattle.schedule_file.specs.ScheduleFile.{schedule_of}
use Rattle.zsim.specs.declared.ended.Kept.{Kept}
use Rattle.zsim.specs.declared.ended.ScheduleFault.TheVariants as fault
use Rattle.zsim.specs.declared.ended.Status.{Status}
use Rattle.zsim.specs.declared.ended.Status.TheVariants as status
use Rattle.zsim.specs.declared.ended.Which.TheVariants as which
use Rattle.zsim.specs.CommandLine.{Execution, Task, replay, run}
use Rattle.zsim.specs.InputLengths.{exe_limit, machine_limit, schedule_limit}

-- a machine, what is in its memory first, and the schedule that is given, if it is a replay
pub record Setup : Type 0 where
  pub machine : Machine
  pub image : MemoryImage
  pub given : Option ScheduleState

-- the answer of the checks of a machine description
abbrev pub with_machine : Result Machine BadMachine → Result Machine Status
with_machine (Ok machine) = Ok machine
with_machine (Err bad) = Err (status.BadMachine bad)

-- The machine of a description, or the refusal of the first check that fails. The first check is of the length.
unfoldable pub machine_by : (text : List ℕ) → Result Machine Status
machine_by text = if nat_lt machine_limit (length text) then Err (status.TooLong which.Machine) else with_machine (machine_of text)

-- the answer of the checks of an executable's file format
abbrev pub with_image : Result MemoryImage BadElf → Result MemoryImage Status
with_image (Ok image) = Ok image
with_image (Err bad) = Err (status.BadElf bad)

-- what a machine's memory first has of an executable, or the refusal of the first check that fails, as above
unfoldable pub image_by : Machine → (exe : List ℕ) → Result MemoryImage Status
image_by machine exe =
    if nat_lt exe_limit (length exe) then Err (status.TooLong which.Exe) else with_image (image_of exe machine.memory.base machine.memory.size)

-- the answer of the checks of a schedule file
abbrev pub with_schedule : Result ScheduleState BadSchedule → Result ScheduleState Status
with_schedule (Ok schedule) = Ok schedule
with_schedule (Err bad) = Err (status.BadSchedule (fault.File bad))

-- the schedule of a file for a machine's cores, or the refusal of the first check that fails, as above
unfoldable pub schedule_by : Machine → (sched_file : List ℕ) → Result ScheduleState Status
schedule_by machine sched_file =
    if nat_lt schedule_limit (length sched_file) then Err (status.TooLong which.Schedule) else with_schedule (schedule_of machine.cores sched_file)

-- what follows, unless something was refused
abbrev pub then_checked : {A B : Type 0} → Result A Status → (A → Result B Status) → Result B Status
then_checked (Ok x) f = f x
then_checked (Err refusal) f = Err refusal

-- the schedule that a replay is given; a run is given none
abbrev pub given_by : Machine → Task → (sched_file : List ℕ) → Result (Option ScheduleState) Status
given_by machine (run workers record_to events_to) sched_file = Ok None
given_by machine (replay name) sched_file = then_checked (schedule_by machine sched_file) (λ schedule. Ok (Some schedule))

-- what is to be run of a command, by what was kept, or the first refusal
abbrev pub setup_of : Execution → Kept → Result Setup Status
setup_of command kept =
    then_checked (machine_by kept.machine) (λ machine.
    then_checked (image_by machine kept.exe) (λ image.
    then_checked (given_by machine command.task kept.sched_file) (λ given.
    Ok (record { machine = machine; image = image; given = given }))))
