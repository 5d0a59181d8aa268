-- What the answer of a call says whose words ask for a run or a replay: what was kept, the cause of each status, and what was
-- written to standard output and to the files that the command names. And what it says on standard error.
use Rattle.std.specs.Prelude.{◌≡◌, ◌⊎◌, ◌<◌, ◌≤◌, ℕ, Bool, if◌then◌else◌, List, [], length, Option, Some, None, IfSome, IsSomeAnd, IsOk, IsOkAnd, Ok, Err, MatchOption, MatchResult}
use Rattle.access_log.specs.Schedule.{ScheduleState}
use Rattle.machine_desc.specs.declared.machine.Machine.{Machine}
use Rattle.machine_desc.specs.declared.plain.TheConstants.{PLAIN}
use Rattle.machine_desc.specs.Machine.{IsMachine}
use Rattle.elf_write.specs.File.{executable_of}
use Rattle.gen_prog.specs.Generated.{generated_image}
use Rattle.reference.specs.ReferenceRun.{Illegal, IsIllegalAt, IsKeptInOrder, IsRunOf}
use Rattle.reference.specs.Results.{HasCounts, Results}
use Rattle.reference.specs.RunEvents.{IsEventsFileOf, events_limit}
use Rattle.zsim.specs.declared.ended.Kept.{Kept}
use Rattle.zsim.specs.declared.ended.Said.{Said}
use Rattle.zsim.specs.declared.ended.Said.TheVariants as said
use Rattle.zsim.specs.declared.ended.ScheduleFault.TheVariants as fault
use Rattle.zsim.specs.declared.ended.Status.{Status}
use Rattle.zsim.specs.declared.ended.Status.TheVariants as status
use Rattle.zsim.specs.declared.ended.Which.TheVariants as which
use Rattle.zsim.specs.CommandLine.{Execution, Exe, Task, events_name, exe_file, file, generated, record_name, replay, run, schedule_name}
use Rattle.zsim.specs.ErrorLine.{error_line}
use Rattle.zsim.specs.InputLengths.{exe_limit, machine_limit, schedule_limit}
use Rattle.zsim.specs.Outputs.{WereCut, WereWritten, outputs_of}
use Rattle.zsim.specs.Report.{report_of}
use Rattle.zsim.specs.Seen.{FilesSeen, SinkSeen, FailedToReadInput, FailedToWrite, FileFailed, Gained, GainedNothing, GainedPrefix, NoFileFailed, NoPutFailed, PutFailed, SameNames, WasRead}
use Rattle.zsim.specs.Setup.{Setup, image_by, machine_by, setup_of}

-- The command of a call, and what it saw of its files and of standard output. Standard error stands apart.
pub record Seen : Type 0 where
  pub command : Execution
  pub files : FilesSeen
  pub out : SinkSeen

-- ---- what is kept

-- this text of a machine is that of its file, or the built-in one
abbrev pub IsMachineText : FilesSeen → Option (List ℕ) → List ℕ → Type 0
IsMachineText files None text = text ≡ PLAIN.now
IsMachineText files (Some name) text = WasRead files name machine_limit text

-- these bytes of an executable are those of its file, or the program that is generated for this machine
abbrev pub IsExeOf : FilesSeen → Machine → Exe → List ℕ → Type 0
IsExeOf files machine (file name) bytes = WasRead files name exe_limit bytes
IsExeOf files machine (generated n) bytes = bytes ≡ executable_of (generated_image n machine.memory.base)

-- these bytes are those of the schedule file of a replay; a run has none
abbrev pub IsScheduleFile : FilesSeen → Task → List ℕ → Type 0
IsScheduleFile files (run workers record_to events_to) bytes = bytes ≡ []
IsScheduleFile files (replay name) bytes = WasRead files name schedule_limit bytes

-- no interval yet, for so many cores
abbrev pub no_intervals : (cores : ℕ) → ScheduleState
no_intervals cores = record { cores = cores; lists = [] }

-- nothing was read
pub record KeepsNothing (kept : Kept) : Type 0 where
  pub machine : kept.machine ≡ []
  pub exe : kept.exe ≡ []
  pub sched_file : kept.sched_file ≡ []
  pub schedule : kept.schedule ≡ no_intervals 0
  pub events : kept.events ≡ []

-- the text of the machine was read
pub record KeepsText (seen : Seen) (kept : Kept) : Type 0 where
  pub machine : IsMachineText seen.files seen.command.machine kept.machine
  pub exe : kept.exe ≡ []
  pub sched_file : kept.sched_file ≡ []
  pub schedule : kept.schedule ≡ no_intervals 0

-- and it passed its checks
pub record KeepsMachine (seen : Seen) (kept : Kept) : Type 0 where
  pub machine : IsMachineText seen.files seen.command.machine kept.machine
  pub exe : kept.exe ≡ []
  pub sched_file : kept.sched_file ≡ []
  pub schedule : IsOkAnd (machine_by kept.machine) (λ machine. kept.schedule ≡ no_intervals machine.cores)

-- and the executable was read
pub record KeepsExe (seen : Seen) (kept : Kept) : Type 0 where
  pub machine : IsMachineText seen.files seen.command.machine kept.machine
  pub exe : IsOkAnd (machine_by kept.machine) (λ machine. IsExeOf seen.files machine seen.command.exe kept.exe)
  pub sched_file : kept.sched_file ≡ []
  pub cores : IsOkAnd (machine_by kept.machine) (λ machine. kept.schedule.cores ≡ machine.cores)

-- all was read that the command names
pub record KeepsAll (seen : Seen) (kept : Kept) : Type 0 where
  pub machine : IsMachineText seen.files seen.command.machine kept.machine
  pub exe : IsOkAnd (machine_by kept.machine) (λ machine. IsExeOf seen.files machine seen.command.exe kept.exe)
  pub sched_file : IsScheduleFile seen.files seen.command.task kept.sched_file
  pub cores : IsOkAnd (machine_by kept.machine) (λ machine. kept.schedule.cores ≡ machine.cores)

-- what is kept goes as far as the steps that were reached
abbrev pub Keeps : Status → Seen → Kept → Type 0
Keeps status.Ran seen kept = KeepsAll seen kept
Keeps status.Limit seen kept = KeepsAll seen kept
Keeps status.Usage seen kept = ⊥
Keeps status.ReadFault seen kept = KeepsNothing kept ⊎ KeepsMachine seen kept ⊎ KeepsExe seen kept
Keeps status.WriteFault seen kept = KeepsAll seen kept
Keeps (status.BadMachine bad) seen kept = KeepsText seen kept
Keeps (status.BadElf bad) seen kept = KeepsExe seen kept
Keeps (status.BadSchedule wrong) seen kept = KeepsAll seen kept
Keeps (status.TooLong which.Machine) seen kept = KeepsText seen kept
Keeps (status.TooLong which.Exe) seen kept = KeepsExe seen kept
Keeps (status.TooLong which.Schedule) seen kept = KeepsAll seen kept
Keeps (status.TooLong which.Events) seen kept = KeepsAll seen kept
Keeps (status.BadEvents bad) seen kept = ⊥
Keeps (status.NotWoven verdict) seen kept = ⊥
Keeps status.NoMemory seen kept = KeepsNothing kept ⊎ KeepsText seen kept ⊎ KeepsMachine seen kept ⊎ KeepsExe seen kept ⊎ KeepsAll seen kept

-- ---- the run, and its report

-- The schedule of a replay is the one of its file. That of a run names, for each interval, the cores of the accesses in
-- recorded order; it is legal as far as it goes.
abbrev pub IsScheduleOf : Setup → ScheduleState → Type 0
IsScheduleOf setup schedule = MatchOption setup.given (IsKeptInOrder setup.machine setup.image schedule.lists) (λ given. schedule ≡ given)

-- what the run of the kept inputs gives under the kept schedule
pub record Gives (command : Execution) (kept : Kept) (results : Results) : Type 0 where
  pub setup : Setup
  pub is : setup_of command kept ≡ Ok setup
  pub sound : IsMachine setup.machine
  pub schedule : IsScheduleOf setup kept.schedule
  pub run : IsRunOf setup.machine setup.image kept.schedule.lists results
  pub counted : HasCounts setup.machine results
  -- the file of its events
  pub events : List ℕ
  pub events_are : IsEventsFileOf setup.machine setup.image kept.schedule.lists events

-- a run or a replay stopped in an interval
pub record IsStopped (command : Execution) (kept : Kept) : Type 0 where
  pub setup : Setup
  pub is : setup_of command kept ≡ Ok setup
  pub schedule : IsScheduleOf setup kept.schedule

-- the schedule of a replay, which is the one of its file, is first not legal at this place
pub record IsRefusedAt (command : Execution) (kept : Kept) (at : Illegal) : Type 0 where
  pub setup : Setup
  pub is : setup_of command kept ≡ Ok setup
  pub given : setup.given ≡ Some kept.schedule
  pub illegal : IsIllegalAt setup.machine setup.image kept.schedule.lists at

-- the file of the events, if one is asked for, is not too long
abbrev pub IsShortEnough : Task → (events : List ℕ) → Type 0
IsShortEnough task events = IfSome (events_name task) (λ name. length events ≤ events_limit)

-- the run came to its end, and the file of its events that is asked for is too long
abbrev pub HasTooManyEvents : Seen → Kept → Type 0
HasTooManyEvents seen kept =
    (r : Results) × (run : Gives seen.command kept r) × IsSomeAnd (events_name seen.command.task) (λ name. events_limit < length run.events)

-- the status of a run that was reported whole
abbrev pub status_at : (limit : Bool) → Status
status_at limit = if limit then status.Limit else status.Ran

-- standard output gained the whole report of the run, whose end the status says
abbrev pub IsReported : Status → Seen → Kept → Type 0
IsReported s seen kept =
    (r : Results) × (run : Gives seen.command kept r) × IsShortEnough seen.command.task run.events × (s ≡ status_at r.limit) × Gained seen.out (report_of run.setup.machine seen.command.brief r)

-- the run came to its end, and standard output gained nothing of the report
abbrev pub IsUnreported : Seen → Kept → Type 0
IsUnreported seen kept = ((r : Results) × Gives seen.command kept r) × GainedNothing seen.out

-- standard output gained a part of the report, from its front
abbrev pub IsCut : Seen → Kept → Type 0
IsCut seen kept = (r : Results) × (run : Gives seen.command kept r) × IsShortEnough seen.command.task run.events × GainedPrefix seen.out (report_of run.setup.machine seen.command.brief r)

-- standard output gained the whole report, but what was to follow failed
abbrev pub HasWholeReport : Seen → Kept → Type 0
HasWholeReport seen kept = (r : Results) × (run : Gives seen.command kept r) × IsShortEnough seen.command.task run.events × Gained seen.out (report_of run.setup.machine seen.command.brief r)

-- the outputs that the command names were written, one after the other
abbrev pub AreOutputsWritten : Seen → Kept → Type 0
AreOutputsWritten seen kept = (r : Results) × (run : Gives seen.command kept r) × WereWritten seen.files (outputs_of seen.command.task kept.schedule run.events)

-- the writing of these was cut short
abbrev pub AreOutputsCut : Seen → Kept → Type 0
AreOutputsCut seen kept = (r : Results) × (run : Gives seen.command kept r) × WereCut seen.files (outputs_of seen.command.task kept.schedule run.events)

-- ---- the cause of each status

-- no file and no put failed
pub record NothingFailed (seen : Seen) : Type 0 where
  pub files : NoFileFailed seen.files
  pub out : NoPutFailed seen.out

-- A read failed: that of the machine's file, before anything was kept; that of the executable, for a machine that
-- passed its checks; or that of the schedule, for an executable that passed its checks too.
abbrev pub CouldNotRead : Seen → Kept → Type 0
CouldNotRead seen kept =
    (KeepsNothing kept × FailedToReadInput seen.files seen.command.machine)
    ⊎ (KeepsMachine seen kept × FailedToReadInput seen.files (exe_file seen.command.exe))
    ⊎ (KeepsExe seen kept × IsOkAnd (machine_by kept.machine) (λ machine. IsOk (image_by machine kept.exe)) × FailedToReadInput seen.files (schedule_name seen.command.task))

-- the command writes to this name
abbrev pub IsOutputName : Task → List ℕ → Type 0
IsOutputName task name = (record_name task ≡ Some name) ⊎ (events_name task ≡ Some name)

-- A put failed, or else the write of an output.
abbrev pub CouldNotWrite : Seen → Type 0
CouldNotWrite seen =
    (NoFileFailed seen.files × PutFailed seen.out)
    ⊎ (((name : List ℕ) × IsOutputName seen.command.task name × FailedToWrite seen.files name) × NoPutFailed seen.out)

-- A fault that was counted is always told: no other status comes where one was.
abbrev pub HasCause : Status → Seen → Kept → Type 0
HasCause status.Ran seen kept = IsOk (setup_of seen.command kept) × NothingFailed seen
HasCause status.Limit seen kept = IsOk (setup_of seen.command kept) × NothingFailed seen
HasCause status.Usage seen kept = ⊥
HasCause status.ReadFault seen kept = CouldNotRead seen kept × NoPutFailed seen.out
HasCause status.WriteFault seen kept = IsOk (setup_of seen.command kept) × CouldNotWrite seen
HasCause (status.BadMachine bad) seen kept = (setup_of seen.command kept ≡ Err (status.BadMachine bad)) × NothingFailed seen
HasCause (status.BadElf bad) seen kept = (setup_of seen.command kept ≡ Err (status.BadElf bad)) × NothingFailed seen
HasCause (status.BadSchedule (fault.File bad)) seen kept = (setup_of seen.command kept ≡ Err (status.BadSchedule (fault.File bad))) × NothingFailed seen
HasCause (status.BadSchedule (fault.Illegal interval place)) seen kept = IsRefusedAt seen.command kept (record { interval = interval; place = place }) × NothingFailed seen
HasCause (status.TooLong which.Machine) seen kept = (setup_of seen.command kept ≡ Err (status.TooLong which.Machine)) × NothingFailed seen
HasCause (status.TooLong which.Exe) seen kept = (setup_of seen.command kept ≡ Err (status.TooLong which.Exe)) × NothingFailed seen
HasCause (status.TooLong which.Schedule) seen kept = (setup_of seen.command kept ≡ Err (status.TooLong which.Schedule)) × NothingFailed seen
HasCause (status.TooLong which.Events) seen kept = HasTooManyEvents seen kept × NothingFailed seen
HasCause (status.BadEvents bad) seen kept = ⊥
HasCause (status.NotWoven verdict) seen kept = ⊥
HasCause status.NoMemory seen kept = NothingFailed seen

-- ---- what was written

-- Standard output gained nothing, and the kept schedule has no interval: no run was begun.
abbrev pub IsNotBegun : Seen → Kept → Type 0
IsNotBegun seen kept = (kept.schedule.lists ≡ []) × GainedNothing seen.out

-- What standard output gained. Where memory ran out, that was before the run, in an interval, behind it, in a put, or
-- when the report was whole and the outputs were being written.
abbrev pub Reports : Status → Seen → Kept → Type 0
Reports status.Ran seen kept = IsReported status.Ran seen kept
Reports status.Limit seen kept = IsReported status.Limit seen kept
Reports status.Usage seen kept = ⊥
Reports status.ReadFault seen kept = IsNotBegun seen kept
Reports status.WriteFault seen kept = (PutFailed seen.out × IsCut seen kept) ⊎ (FileFailed seen.files × HasWholeReport seen kept)
Reports (status.BadMachine bad) seen kept = IsNotBegun seen kept
Reports (status.BadElf bad) seen kept = IsNotBegun seen kept
Reports (status.BadSchedule (fault.File bad)) seen kept = IsNotBegun seen kept
Reports (status.BadSchedule (fault.Illegal interval place)) seen kept = GainedNothing seen.out
Reports (status.TooLong which.Machine) seen kept = IsNotBegun seen kept
Reports (status.TooLong which.Exe) seen kept = IsNotBegun seen kept
Reports (status.TooLong which.Schedule) seen kept = IsNotBegun seen kept
Reports (status.TooLong which.Events) seen kept = IsUnreported seen kept
Reports (status.BadEvents bad) seen kept = ⊥
Reports (status.NotWoven verdict) seen kept = ⊥
Reports status.NoMemory seen kept = IsNotBegun seen kept ⊎ (IsStopped seen.command kept × GainedNothing seen.out) ⊎ IsUnreported seen kept ⊎ IsCut seen kept ⊎ (HasWholeReport seen kept × AreOutputsCut seen kept)

-- Which names changed: none but those of the outputs, and these not before the report was whole.
abbrev pub WritesOutputs : Status → Seen → Kept → Type 0
WritesOutputs status.Ran seen kept = AreOutputsWritten seen kept
WritesOutputs status.Limit seen kept = AreOutputsWritten seen kept
WritesOutputs status.WriteFault seen kept = (PutFailed seen.out × SameNames seen.files) ⊎ (FileFailed seen.files × HasWholeReport seen kept × AreOutputsCut seen kept)
WritesOutputs status.NoMemory seen kept = SameNames seen.files ⊎ (HasWholeReport seen kept × AreOutputsCut seen kept)
WritesOutputs _ seen kept = SameNames seen.files

-- ---- all of it

-- the run of the inputs is reported and its outputs are written; or the schedule of a replay is refused at its first
-- place that is not legal; or the run has too many events for the file that is asked for
abbrev pub IsReportedOrRefused : Status → Seen → Kept → Type 0
IsReportedOrRefused s seen kept =
    (IsReported s seen kept × AreOutputsWritten seen kept)
    ⊎ ((at : Illegal) × (s ≡ status.BadSchedule (fault.Illegal at.interval at.place)) × IsRefusedAt seen.command kept at)
    ⊎ ((s ≡ status.TooLong which.Events) × HasTooManyEvents seen kept)

-- Where nothing failed, the inputs decide: what comes of their run, or their refusal, unless memory ran out.
abbrev pub IsDecided : Status → Seen → Kept → Type 0
IsDecided s seen kept = (s ≡ status.NoMemory) ⊎ MatchResult (setup_of seen.command kept) (λ setup. IsReportedOrRefused s seen kept) (λ refusal. s ≡ refusal)

-- How a call ended whose words ask for a run or a replay: what its status and what it kept tell. Nothing of it reads
-- standard error, which has no say in the status.
pub record EndsAs (seen : Seen) (s : Status) (k : Kept) : Type 0 where
  -- what was read is kept
  pub kept : Keeps s seen k
  -- each status has its cause, and each fault its status
  pub refusals : HasCause s seen k
  -- the report is that of the one-thread machine under the kept schedule
  pub report : Reports s seen k
  -- what the command names for it is written behind the report, and nothing else is
  pub files : WritesOutputs s seen k
  -- where no file and no put failed, the inputs decide
  pub complete : ¬ FileFailed seen.files → ¬ PutFailed seen.out → IsDecided s seen k

-- where the words are no command, nothing was read, and the status says so, unless memory ran out
abbrev pub IsNoCommand : Status → Kept → Type 0
IsNoCommand s kept = ((s ≡ status.Usage) ⊎ (s ≡ status.NoMemory)) × KeepsNothing kept

-- What was said of a line: all of it, or a prefix where the stream failed or memory ran out. A fault that was counted is
-- always told.
abbrev pub SaysLine : Said → (line : List ℕ) → (err : SinkSeen) → Type 0
SaysLine said.All line err = Gained err line × NoPutFailed err
SaysLine said.Fault line err = GainedPrefix err line × PutFailed err
SaysLine said.NoMemory line err = GainedPrefix err line × NoPutFailed err

-- what was said on standard error is the line of the status
abbrev pub Says : Said → Status → (err : SinkSeen) → Type 0
Says said s err = SaysLine said (error_line s) err
