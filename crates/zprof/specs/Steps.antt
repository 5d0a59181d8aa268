-- What the steps of a call promise to the call. It serves their contracts alone: the clauses of the call itself do not
-- cite it.
use Rattle.std.specs.Prelude.{◌≡◌, ◌⊎◌, ℕ, List, Option}
use Rattle.access_log.specs.Schedule.{ScheduleState}
use Rattle.elf_load.specs.MemoryImage.{MemoryImage}
use Rattle.machine_desc.specs.declared.machine.Machine.{Machine}
use Rattle.reference.specs.Results.{Results}
use Rattle.trace.specs.Trace.{Step}
use Rattle.zsim.specs.declared.ended.Status.{Status}
use Rattle.zsim.specs.declared.ended.Status.TheVariants as status
use Rattle.zsim.specs.Outputs.{NamedFile}
use Rattle.zsim.specs.Report.{report_of}
use Rattle.zsim.specs.Seen.{FilesSeen, SinkSeen}
use Rattle.zsim.specs.Steps.{FinishesAs, IsUntouched}
use Rattle.zprof.specs.CommandLine.{Profiling}
use Rattle.zprof.specs.Ended.{IsSilent, ProfilesAs}
use Rattle.zprof.specs.Order.{HasNoOrder, IsOrderOf}
use Rattle.zprof.specs.ProfileFiles.{AreFilesOf}

-- What was written of a run that gave these results: nothing, since memory ran out; or the report, and behind it the
-- files of these steps.
abbrev pub WritesAs : Status → Machine → Profiling → List Step → Results → FilesSeen → SinkSeen → Type 0
WritesAs s machine c steps r files out =
    ((s ≡ status.NoMemory) × IsUntouched files out)
    ⊎ ((outputs : List NamedFile) × AreFilesOf machine c steps r outputs × FinishesAs s r.limit (report_of machine c.brief r) outputs files out)

-- What came of a command whose machine and executable were taken, where its schedule has this name: there was no
-- schedule, or the run under it was looked at.
abbrev pub LooksAs : Status → Machine → MemoryImage → Profiling → (name : Option (List ℕ)) → ScheduleState → (sched_file : List ℕ) → FilesSeen → SinkSeen → Type 0
LooksAs s machine image c name schedule sched_file files out =
    (HasNoOrder s machine image name schedule sched_file files × IsSilent out)
    ⊎ (IsOrderOf machine image name schedule sched_file files × ProfilesAs s machine image c schedule files out)
