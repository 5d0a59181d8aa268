-- What the steps of a call promise to the call. It serves their contracts alone: the clauses of the call itself do not
-- cite it.
use Rattle.std.specs.Prelude.{◌≡◌, ◌⊎◌, ℕ, ◌<◌, ◌≤◌, Bool, List, [], ◌∷◌, ◌++◌, length, Option, Some, None, IfSome, IsSomeAnd, Result, Ok, Err}
use Rattle.access_log.specs.Schedule.{ScheduleState}
use Rattle.elf_load.specs.MemoryImage.{MemoryImage}
use Rattle.machine_desc.specs.declared.machine.Machine.{Machine}
use Rattle.reference.specs.ReferenceRun.{Illegal, IsIllegalAt, IsRunOf}
use Rattle.reference.specs.Results.{HasCounts, Results}
use Rattle.reference.specs.RunEvents.{IsEventsFileOf, events_limit}
use Rattle.schedule_file.specs.ScheduleFile.{schedule_file_of}
use Rattle.zs_host.specs.declared.files.FileFail.{FileFail}
use Rattle.zs_host.specs.declared.files.FileFail.TheVariants as fail
use Rattle.zsim.specs.declared.ended.ScheduleFault.TheVariants as fault
use Rattle.zsim.specs.declared.ended.Status.{Status}
use Rattle.zsim.specs.declared.ended.Status.TheVariants as status
use Rattle.zsim.specs.declared.ended.Which.TheVariants as which
use Rattle.zsim.specs.declared.outputs.OutputFile.{OutputFile}
use Rattle.zsim.specs.CommandLine.{replay}
use Rattle.zsim.specs.Ended.{IsScheduleFile, no_intervals, status_at}
use Rattle.zsim.specs.Outputs.{NamedFile, WereCut, WereWritten, named_file, named_if}
use Rattle.zsim.specs.Report.{report_of}
use Rattle.zsim.specs.Setup.{schedule_by}
use Rattle.zsim.specs.Seen.{FilesSeen, SinkSeen, FailedToReadInput, FailedToWrite, NoFileFailed, Gained, GainedNothing, GainedPrefix, NoPutFailed, PutFailed, SameNames}

-- ---- inputs

-- What the read of an input with this name answered: it took no fault, or the name could not be read.
abbrev pub Reads : Result (List ℕ) FileFail → FilesSeen → Option (List ℕ) → Type 0
Reads (Ok bytes) files name = NoFileFailed files
Reads (Err fail.NoMemory) files name = NoFileFailed files
Reads (Err fail.Failed) files name = FailedToReadInput files name

-- the status where an input was not read
abbrev pub status_of_read : FileFail → Status
status_of_read fail.Failed = status.ReadFault
status_of_read fail.NoMemory = status.NoMemory

-- what checks answered by which this comes of an input, unless memory ran out
abbrev pub Checks : {A : Type 0} → Result A Status → (checked : Result A Status) → Type 0
Checks (Ok x) checked = checked ≡ Ok x
Checks (Err s) checked = (s ≡ status.NoMemory) ⊎ (checked ≡ Err s)

-- no call on the files failed, and no name changed
pub record IsQuiet (files : FilesSeen) : Type 0 where
  pub no_fault : NoFileFailed files
  pub names : SameNames files

-- An input was not taken: it could not be read; memory ran out; or it was read, and refused.
abbrev pub IsNotTaken : {A : Type 0} → (IsText : FilesSeen → List ℕ → Type 0) → (checked : List ℕ → Result A Status) → (name : Option (List ℕ)) → Status → FilesSeen → List ℕ → Type 0
IsNotTaken IsText checked name s files text =
    ((s ≡ status.ReadFault) × (text ≡ []) × FailedToReadInput files name × SameNames files)
    ⊎ ((s ≡ status.NoMemory) × ((text ≡ []) ⊎ IsText files text) × IsQuiet files)
    ⊎ ((checked text ≡ Err s) × IsText files text × IsQuiet files)

-- what came of an input that was to be read and checked, with the text that is kept of it
abbrev pub Takes : {A : Type 0} → (IsText : FilesSeen → List ℕ → Type 0) → (checked : List ℕ → Result A Status) → (name : Option (List ℕ)) → Result A Status → FilesSeen → List ℕ → Type 0
Takes IsText checked name (Ok x) files text = (checked text ≡ Ok x) × IsText files text × IsQuiet files
Takes IsText checked name (Err s) files text = IsNotTaken IsText checked name s files text

-- ---- outputs

-- nothing was written, and nothing failed
pub record IsUntouched (files : FilesSeen) (out : SinkSeen) : Type 0 where
  pub quiet : IsQuiet files
  pub no_put : NoPutFailed out
  pub nothing : GainedNothing out

-- a file as the code keeps it, by references to the words and to its bytes
abbrev pub file_value : OutputFile → NamedFile
file_value f = named_file f.name.now f.bytes.now

-- the same where there is one
abbrev pub output_list : Option OutputFile → List NamedFile
output_list None = []
output_list (Some f) = file_value f ∷ []

-- The writing of these files was cut short by a write that failed, the latest call on the files that did.
pub record FailedOnWrite (files : FilesSeen) (outputs : List NamedFile) : Type 0 where
  pub short : WereCut files outputs
  pub failed : FailedToWrite files short.cut.name

-- what writing these files came to
abbrev pub Writes : {T : Type 0} → Result T FileFail → List NamedFile → FilesSeen → Type 0
Writes (Ok x) outputs files = NoFileFailed files × WereWritten files outputs
Writes (Err fail.NoMemory) outputs files = NoFileFailed files × WereCut files outputs
Writes (Err fail.Failed) outputs files = FailedOnWrite files outputs

-- How far the outputs came: all were written, the report and behind it these files; the report was cut short; or the
-- files were.
abbrev pub FinishesAs : Status → (limit : Bool) → (text : List ℕ) → List NamedFile → FilesSeen → SinkSeen → Type 0
FinishesAs s limit text outputs files out =
    ((s ≡ status_at limit) × Gained out text × NoPutFailed out × NoFileFailed files × WereWritten files outputs)
    ⊎ ((s ≡ status.WriteFault) × GainedPrefix out text × PutFailed out × IsQuiet files)
    ⊎ ((s ≡ status.NoMemory) × GainedPrefix out text × NoPutFailed out × IsQuiet files)
    ⊎ ((s ≡ status.WriteFault) × Gained out text × NoPutFailed out × FailedOnWrite files outputs)
    ⊎ ((s ≡ status.NoMemory) × Gained out text × NoPutFailed out × NoFileFailed files × WereCut files outputs)

-- a run of an image under a schedule gives these results, and has this events file
pub record RunGives (machine : Machine) (image : MemoryImage) (schedule : ScheduleState) (results : Results) : Type 0 where
  pub run : IsRunOf machine image schedule.lists results
  pub counted : HasCounts machine results
  pub events : List ℕ
  pub events_are : IsEventsFileOf machine image schedule.lists events

-- what the run of an image came to, of which the schedule and the events are to be written to files, where they are
-- named
abbrev pub RunsAs : Status → Machine → MemoryImage → (brief : Bool) → (record_to events_to : Option (List ℕ)) → ScheduleState → FilesSeen → SinkSeen → Type 0
RunsAs s machine image brief record_to events_to schedule files out =
    ((s ≡ status.NoMemory) × IsUntouched files out)
    ⊎ ((s ≡ status.NoMemory) × ((r : Results) × RunGives machine image schedule r) × IsUntouched files out)
    ⊎ ((s ≡ status.TooLong which.Events) × ((r : Results) × (gives : RunGives machine image schedule r) × IsSomeAnd events_to (λ name. events_limit < length gives.events)) × IsUntouched files out)
    ⊎ ((r : Results) × (gives : RunGives machine image schedule r) × IfSome events_to (λ name. length gives.events ≤ events_limit)
    × FinishesAs s r.limit (report_of machine brief r) (named_if record_to (schedule_file_of schedule) ++ named_if events_to gives.events) files out)

-- what the run of an image under a schedule that is given came to
abbrev pub ReplaysAs : Status → Machine → MemoryImage → (brief : Bool) → ScheduleState → FilesSeen → SinkSeen → Type 0
ReplaysAs s machine image brief schedule files out =
    ((s ≡ status.NoMemory) × IsUntouched files out)
    ⊎ ((at : Illegal) × (s ≡ status.BadSchedule (fault.Illegal at.interval at.place)) × IsIllegalAt machine image schedule.lists at × IsUntouched files out)
    ⊎ ((r : Results) × RunGives machine image schedule r × FinishesAs s r.limit (report_of machine brief r) [] files out)

-- what came of the file of a schedule: it was not taken, or the run of an image under its schedule came to this
abbrev pub ReplaysFile : Status → Machine → MemoryImage → (brief : Bool) → (name : List ℕ) → ScheduleState → (sched_file : List ℕ) → FilesSeen → SinkSeen → Type 0
ReplaysFile s machine image brief name schedule sched_file files out =
    ((schedule ≡ no_intervals machine.cores) × IsNotTaken (λ seen. IsScheduleFile seen (replay name)) (schedule_by machine) (Some name) s files sched_file × NoPutFailed out × GainedNothing out)
    ⊎ ((schedule_by machine sched_file ≡ Ok schedule) × IsScheduleFile files (replay name) sched_file × ReplaysAs s machine image brief schedule files out)

-- how far the text was put that is to be put
abbrev pub SaysText : Status → (text : List ℕ) → SinkSeen → Type 0
SaysText s text out =
    ((s ≡ status.Ran) × Gained out text × NoPutFailed out)
    ⊎ ((s ≡ status.WriteFault) × GainedPrefix out text × PutFailed out)
    ⊎ ((s ≡ status.NoMemory) × GainedPrefix out text × NoPutFailed out)
