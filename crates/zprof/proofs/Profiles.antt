-- What came of a run that was looked at, by what was written of it.
use Rattle.std.proofs.Common.{◌≡◌, ◌⊎◌, List, inl, inr, subst, sym}
use Rattle.access_log.specs.Schedule.{ScheduleState}
use Rattle.elf_load.specs.MemoryImage.{MemoryImage}
use Rattle.machine_desc.specs.declared.machine.Machine.{Machine}
use Rattle.reference.specs.ReferenceRun.{IsRunOf}
use Rattle.reference.specs.Results.{HasCounts, Results}
use Rattle.trace.specs.Trace.{IsTraceOf, Step}
use Rattle.zsim.specs.declared.ended.Status.{Status}
use Rattle.zsim.specs.declared.ended.Status.TheVariants as status
use Rattle.zsim.specs.Outputs.{NamedFile}
use Rattle.zsim.specs.Report.{report_of}
use Rattle.zsim.specs.Seen.{FilesSeen, SinkSeen}
use Rattle.zsim.specs.Steps.{FinishesAs, IsUntouched}
use Rattle.zprof.specs.CommandLine.{Profiling}
use Rattle.zprof.specs.Ended.{ProfilesAs}
use Rattle.zprof.specs.ProfileFiles.{AreFilesOf}
use Rattle.zprof.specs.Steps.{WritesAs}

-- these outputs were written, or nothing
pub writes_as : (s : Status) (machine : Machine) (c : Profiling) (steps : List Step) (r : Results) (outputs : List NamedFile) (files : FilesSeen) (out : SinkSeen)
    → AreFilesOf machine c steps r outputs
    → ((s ≡ status.NoMemory) × IsUntouched files out) ⊎ FinishesAs s r.limit (report_of machine c.brief r) outputs files out
    → WritesAs s machine c steps r files out
writes_as s machine c steps r outputs files out are (inl none) = inl none
writes_as s machine c steps r outputs files out are (inr finishes) = inr (outputs, are, finishes)

-- the steps that were told are those of the run
pub profiles_as : (s : Status) (machine : Machine) (image : MemoryImage) (c : Profiling) (schedule : ScheduleState) (files : FilesSeen) (out : SinkSeen) (r : Results)
    → IsRunOf machine image schedule.lists r → HasCounts machine r → (steps told : List Step) → IsTraceOf machine image schedule.lists steps → told ≡ steps
    → WritesAs s machine c told r files out → ProfilesAs s machine image c schedule files out
profiles_as s machine image c schedule files out r run counted steps told trace is (inl none) = inl none
profiles_as s machine image c schedule files out r run counted steps told trace is (inr (outputs, are, finishes)) = inr (inr (
  record {
    results = r;
    run = run;
    counted = counted;
    steps = told;
    trace = subst (λ (s : List Step). IsTraceOf machine image schedule.lists s) (sym is) trace;
    outputs = outputs;
    files = are;
  },
  finishes,
))
