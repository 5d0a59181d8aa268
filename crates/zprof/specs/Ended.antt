-- What the answer of a call says whose words ask for a profile: what was kept, the cause of each status, and what was
-- written to standard output and to the files.
use Rattle.std.specs.Prelude.{◌≡◌, ◌⊎◌, List, [], Ok}
use Rattle.access_log.specs.Schedule.{ScheduleState}
use Rattle.elf_load.specs.MemoryImage.{MemoryImage}
use Rattle.machine_desc.specs.declared.machine.Machine.{Machine}
use Rattle.machine_desc.specs.Machine.{IsMachine}
use Rattle.reference.specs.ReferenceRun.{Illegal, IsIllegalAt, IsRunOf}
use Rattle.reference.specs.Results.{HasCounts, Results}
use Rattle.trace.specs.Trace.{IsTraceOf, Step}
use Rattle.zsim.specs.declared.ended.Kept.{Kept}
use Rattle.zsim.specs.declared.ended.ScheduleFault.TheVariants as fault
use Rattle.zsim.specs.declared.ended.Status.{Status}
use Rattle.zsim.specs.declared.ended.Status.TheVariants as status
use Rattle.zsim.specs.CommandLine.{exe_file}
use Rattle.zsim.specs.Ended.{IsExeOf, IsMachineText, no_intervals}
use Rattle.zsim.specs.Outputs.{NamedFile}
use Rattle.zsim.specs.Report.{report_of}
use Rattle.zsim.specs.Seen.{FilesSeen, SinkSeen, GainedNothing, NoPutFailed}
use Rattle.zsim.specs.Setup.{image_by, machine_by}
use Rattle.zsim.specs.Steps.{FinishesAs, IsNotTaken, IsUntouched}
use Rattle.zprof.specs.CommandLine.{Profiling}
use Rattle.zprof.specs.Order.{HasNoOrder, IsOrderOf}
use Rattle.zprof.specs.ProfileFiles.{AreFilesOf}

-- nothing went to standard output, and no put failed
pub record IsSilent (out : SinkSeen) : Type 0 where
  pub no_put : NoPutFailed out
  pub nothing : GainedNothing out

-- ---- the inputs

-- the machine was not taken, and nothing else was read
pub record HasNoMachine (s : Status) (c : Profiling) (k : Kept) (files : FilesSeen) : Type 0 where
  pub not : IsNotTaken (λ seen. IsMachineText seen c.machine) machine_by c.machine s files k.machine
  pub exe : k.exe ≡ []
  pub sched_file : k.sched_file ≡ []
  pub schedule : k.schedule ≡ no_intervals 0

-- the machine was taken
pub record TakesMachine (c : Profiling) (k : Kept) (files : FilesSeen) (machine : Machine) : Type 0 where
  pub is : machine_by k.machine ≡ Ok machine
  pub text : IsMachineText files c.machine k.machine
  pub sound : IsMachine machine

-- and the executable was not
pub record HasNoExe (s : Status) (c : Profiling) (k : Kept) (files : FilesSeen) : Type 0 where
  pub machine : Machine
  pub taken : TakesMachine c k files machine
  pub not : IsNotTaken (λ seen. IsExeOf seen machine c.exe) (image_by machine) (exe_file c.exe) s files k.exe
  pub sched_file : k.sched_file ≡ []
  pub schedule : k.schedule ≡ no_intervals machine.cores

-- or it was, too
pub record TakesInputs (c : Profiling) (k : Kept) (files : FilesSeen) (machine : Machine) (image : MemoryImage) : Type 0 where
  pub taken : TakesMachine c k files machine
  pub is : image_by machine k.exe ≡ Ok image
  pub exe : IsExeOf files machine c.exe k.exe

-- and there was no schedule
pub record HasNoSchedule (s : Status) (c : Profiling) (k : Kept) (files : FilesSeen) : Type 0 where
  pub machine : Machine
  pub image : MemoryImage
  pub inputs : TakesInputs c k files machine image
  pub none : HasNoOrder s machine image c.schedule k.schedule k.sched_file files

-- ---- the run

-- What the run of an image under a schedule gives, the steps that it takes, and the files of their profile.
pub record Profiled (machine : Machine) (image : MemoryImage) (c : Profiling) (schedule : ScheduleState) : Type 0 where
  pub results : Results
  pub run : IsRunOf machine image schedule.lists results
  pub counted : HasCounts machine results
  pub steps : List Step
  pub trace : IsTraceOf machine image schedule.lists steps
  pub outputs : List NamedFile
  pub files : AreFilesOf machine c steps results outputs

-- What came of it: memory ran out; the schedule is not legal for the run, first at this place; or the report was
-- written, and behind it the files.
abbrev pub ProfilesAs : Status → Machine → MemoryImage → Profiling → ScheduleState → FilesSeen → SinkSeen → Type 0
ProfilesAs s machine image c schedule files out =
    ((s ≡ status.NoMemory) × IsUntouched files out)
    ⊎ ((at : Illegal) × (s ≡ status.BadSchedule (fault.Illegal at.interval at.place)) × IsIllegalAt machine image schedule.lists at × IsUntouched files out)
    ⊎ ((p : Profiled machine image c schedule) × FinishesAs s p.results.limit (report_of machine c.brief p.results) p.outputs files out)

-- the inputs and a schedule were taken, and the run was looked at
pub record HasRun (s : Status) (c : Profiling) (k : Kept) (files : FilesSeen) (out : SinkSeen) : Type 0 where
  pub machine : Machine
  pub image : MemoryImage
  pub inputs : TakesInputs c k files machine image
  pub order : IsOrderOf machine image c.schedule k.schedule k.sched_file files
  pub profiles : ProfilesAs s machine image c k.schedule files out

-- ---- all of it

-- How a call ended whose words are this command: the first step that failed decides. Nothing of it reads standard error.
abbrev pub EndsAs : Status → Profiling → Kept → FilesSeen → SinkSeen → Type 0
EndsAs s c k files out =
    (HasNoMachine s c k files × IsSilent out)
    ⊎ (HasNoExe s c k files × IsSilent out)
    ⊎ (HasNoSchedule s c k files × IsSilent out)
    ⊎ HasRun s c k files out

-- the run of what was kept has come to its end
pub record HasEnded (k : Kept) : Type 0 where
  pub machine : Machine
  pub machine_is : machine_by k.machine ≡ Ok machine
  pub image : MemoryImage
  pub image_is : image_by machine k.exe ≡ Ok image
  pub results : Results
  pub run : IsRunOf machine image k.schedule.lists results
