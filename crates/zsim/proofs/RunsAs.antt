-- What a run or a replay came to, by what its outputs came to.
use Rattle.std.proofs.Common.{◌≡◌, ◌⊎◌, ◌≤◌, Bool, List, [], ◌∷◌, ◌++◌, length, ℕ, Option, Some, None, Ok, IfSome, ap, inl, inr, option_map, refl, subst}
use Rattle.access_log.specs.Schedule.{ScheduleState}
use Rattle.elf_load.specs.MemoryImage.{MemoryImage}
use Rattle.machine_desc.specs.declared.machine.Machine.{Machine}
use Rattle.reference.specs.Results.{Results}
use Rattle.reference.specs.RunEvents.{events_limit}
use Rattle.schedule_file.specs.ScheduleFile.{schedule_file_of}
use Rattle.zsim.specs.declared.ended.Status.{Status}
use Rattle.zsim.specs.declared.ended.Status.TheVariants as status
use Rattle.zsim.specs.Outputs.{NamedFile, named_file, named_if}
use Rattle.zsim.specs.Report.{report_of}
use Rattle.zsim.specs.Seen.{FilesSeen, SinkSeen}
use Rattle.zsim.specs.Setup.{schedule_by}
use Rattle.zsim.specs.Steps.{FinishesAs, IsUntouched, ReplaysAs, RunGives, RunsAs}

-- a file is the same where its bytes are
pub named_so : {N : Type 0} (word : N → List ℕ) (name : Option N) (bytes file : List ℕ) → IfSome name (λ n. bytes ≡ file)
    → named_if (option_map word name) bytes ≡ named_if (option_map word name) file
named_so word None bytes file is = refl
named_so word (Some n) bytes file is = ap (λ (b : List ℕ). named_file (word n) b ∷ []) is

pub runs_as : (machine : Machine) (image : MemoryImage) (brief : Bool) (record_to events_to : Option (List ℕ)) (schedule : ScheduleState) (r : Results) (s : Status) (outputs : List NamedFile) (files : FilesSeen) (out : SinkSeen)
    → (gives : RunGives machine image schedule r) → IfSome events_to (λ name. length gives.events ≤ events_limit)
    → outputs ≡ named_if record_to (schedule_file_of schedule) ++ named_if events_to gives.events
    → ((s ≡ status.NoMemory) × IsUntouched files out) ⊎ FinishesAs s r.limit (report_of machine brief r) outputs files out → RunsAs s machine image brief record_to events_to schedule files out
runs_as machine image brief record_to events_to schedule r s outputs files out gives short is (inl (none, untouched)) = inr (inl (none, (r, gives), untouched))
runs_as machine image brief record_to events_to schedule r s outputs files out gives short is (inr finishes) =
    inr (inr (inr (r, gives, short, subst (λ (fs : List NamedFile). FinishesAs s r.limit (report_of machine brief r) fs files out) is finishes)))

pub replays_as : (machine : Machine) (image : MemoryImage) (brief : Bool) (schedule : ScheduleState) (r : Results) (s : Status) (files : FilesSeen) (out : SinkSeen)
    → RunGives machine image schedule r → ((s ≡ status.NoMemory) × IsUntouched files out) ⊎ FinishesAs s r.limit (report_of machine brief r) [] files out
    → ReplaysAs s machine image brief schedule files out
replays_as machine image brief schedule r s files out run (inl none) = inl none
replays_as machine image brief schedule r s files out run (inr finishes) = inr (inr (r, run, finishes))

-- standard output was not touched, or the run came to its end, under the schedule of the file
pub under_its_schedule : {S : Type 0} (machine : Machine) (image : MemoryImage) (schedule : ScheduleState) (sched_file : List ℕ) (old new : S) → schedule_by machine sched_file ≡ Ok schedule
    → (new ≡ old) ⊎ ((r : Results) × RunGives machine image schedule r) → (new ≡ old) ⊎ ((schedule_by machine sched_file ≡ Ok schedule) × ((r : Results) × RunGives machine image schedule r))
under_its_schedule machine image schedule sched_file old new is (inl same) = inl same
under_its_schedule machine image schedule sched_file old new is (inr run) = inr (is, run)
