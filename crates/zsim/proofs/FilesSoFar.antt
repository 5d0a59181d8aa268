-- What holds of a call's files after two parts of it, of which the first changed nothing.
use Rattle.std.proofs.Common.{◌⊎◌, ℕ, ◌+◌, Bool, IsTrue, List, [], ◌∷◌, ◌++◌, Option, Some, None, Result, take, sym, ◌∙◌, ap, subst, inl, inr}
use Rattle.std.specs.Option.{option_map}
use Rattle.zs_host.specs.declared.fault.Fault.{Fault}
use Rattle.zs_host.specs.Faults.{Rose}
use Rattle.machine_desc.specs.declared.machine.Machine.{Machine}
use Rattle.zsim.specs.declared.ended.Status.{Status}
use Rattle.zsim.specs.CommandLine.{Exe, file, generated, replay}
use Rattle.zsim.specs.Ended.{IsExeOf, IsMachineText, IsScheduleFile}
use Rattle.zsim.specs.InputLengths.{exe_limit, schedule_limit}
use Rattle.zsim.specs.Outputs.{HoldsWith, NamedFile, WereCut, WereWritten, held_with, named_file}
use Rattle.zsim.specs.Seen.{FilesSeen, SinkSeen, FailedToReadInput, FailedToWrite, FileFailed, NoFileFailed, SameNames, WasRead, files_seen}
use Rattle.zsim.specs.Setup.{schedule_by}
use Rattle.zsim.specs.Steps.{FailedOnWrite, FinishesAs, IsNotTaken, IsQuiet, IsUntouched, ReplaysAs, ReplaysFile, RunsAs}
use Rattle.access_log.specs.Schedule.{ScheduleState}
use Rattle.elf_load.specs.MemoryImage.{MemoryImage}

-- where a call on the files failed, one did
pub failed_input : (files : FilesSeen) (name : Option (List ℕ)) → FailedToReadInput files name → FileFailed files
failed_input files None failed = absurd failed
failed_input files (Some name) failed = failed.failed

module _ {F : Type 0} (is_seen : Bool) (contents : F → List ℕ → Option (List ℕ)) (faults : F → ℕ) (latest : F → Option Fault) (before between after : F) where
  abbrev first : FilesSeen
  first = files_seen is_seen contents faults latest before between

  abbrev second : FilesSeen
  second = files_seen is_seen contents faults latest between after

  abbrev both : FilesSeen
  both = files_seen is_seen contents faults latest before after

  -- what was read first stays read
  pub text_stays : (name : Option (List ℕ)) (text : List ℕ) → IsMachineText first name text → IsMachineText both name text
  text_stays None text is = is
  text_stays (Some name) text read = record { held = read.held; most = read.most }

  pub exe_stays : (machine : Machine) (exe : Exe) (bytes : List ℕ) → IsExeOf first machine exe bytes → IsExeOf both machine exe bytes
  exe_stays machine (file name) bytes read = record { held = read.held; most = read.most }
  exe_stays machine (generated n) bytes is = is

  pub schedule_stays : (name bytes : List ℕ) → IsScheduleFile first (replay name) bytes → IsScheduleFile both (replay name) bytes
  schedule_stays name bytes read = record { held = read.held; most = read.most }

  module _ (quiet : IsQuiet first) where
    names : SameNames second → SameNames both
    names same = λ told name. same told name ∙ quiet.names told name

    no_fault : NoFileFailed second → NoFileFailed both
    no_fault none = record { faults = none.faults ∙ quiet.no_fault.faults; latest = none.latest ∙ quiet.no_fault.latest }

    pub still_quiet : IsQuiet second → IsQuiet both
    still_quiet then_quiet = record { no_fault = no_fault then_quiet.no_fault; names = names then_quiet.names }

    failed : FileFailed second → FileFailed both
    failed rose = subst (λ (n : ℕ). Rose n (faults after)) quiet.no_fault.faults rose

    input_failed : (name : Option (List ℕ)) → FailedToReadInput second name → FailedToReadInput both name
    input_failed None none = none
    input_failed (Some name) not_read = record { failed = failed not_read.failed; latest = not_read.latest }

    -- what was read then
    pub was_read : (name : List ℕ) (limit : ℕ) (bytes : List ℕ) → WasRead second name limit bytes → WasRead both name limit bytes
    was_read name limit bytes read = record {
      held = λ told. ap (option_map (take (limit + 1))) (sym (quiet.names told name)) ∙ read.held told;
      most = read.most;
    }

    pub exe_was_read : (machine : Machine) (exe : Exe) (bytes : List ℕ) → IsExeOf second machine exe bytes → IsExeOf both machine exe bytes
    exe_was_read machine (file name) bytes read = was_read name exe_limit bytes read
    exe_was_read machine (generated n) bytes is = is

    -- an input was taken then, or not
    pub not_taken : {A : Type 0} (IsText : FilesSeen → List ℕ → Type 0) (checked : List ℕ → Result A Status) (name : Option (List ℕ)) (s : Status) (text : List ℕ)
        → ((bytes : List ℕ) → IsText second bytes → IsText both bytes) → IsNotTaken IsText checked name s second text → IsNotTaken IsText checked name s both text
    not_taken IsText checked name s text lift (inl (is, none, not_read, same)) = inl (is, none, input_failed name not_read, names same)
    not_taken IsText checked name s text lift (inr (inl (is, inl none, then_quiet))) = inr (inl (is, inl none, still_quiet then_quiet))
    not_taken IsText checked name s text lift (inr (inl (is, inr some, then_quiet))) = inr (inl (is, inr (lift text some), still_quiet then_quiet))
    not_taken IsText checked name s text lift (inr (inr (refused, is, then_quiet))) = inr (inr (refused, lift text is, still_quiet then_quiet))

    -- files were written then, or not
    failed_to_write : (name : List ℕ) → FailedToWrite second name → FailedToWrite both name
    failed_to_write name not_written = record { failed = failed not_written.failed; latest = not_written.latest }

    module _ (told : IsTrue is_seen) where
      holds_later : (outputs : List NamedFile) → HoldsWith second outputs → HoldsWith both outputs
      holds_later outputs holds name = holds name ∙ ap (λ (held : Option (List ℕ)). held_with outputs held name) (quiet.names told name)

      cut_here : (done : List NamedFile) (cut : NamedFile) → HoldsWith second done ⊎ ((n : ℕ) × HoldsWith second (done ++ named_file cut.name (take n cut.bytes) ∷ []))
          → HoldsWith both done ⊎ ((n : ℕ) × HoldsWith both (done ++ named_file cut.name (take n cut.bytes) ∷ []))
      cut_here done cut (inl holds) = inl (holds_later done holds)
      cut_here done cut (inr (n, holds)) = inr (n, holds_later (done ++ named_file cut.name (take n cut.bytes) ∷ []) holds)

    whole_later : (outputs : List NamedFile) → WereWritten second outputs → WereWritten both outputs
    whole_later outputs written = λ told. holds_later told outputs (written told)

    abbrev cut_later : (outputs : List NamedFile) → WereCut second outputs → WereCut both outputs
    cut_later outputs short = record {
      done = short.done;
      cut = short.cut;
      rest = short.rest;
      are = short.are;
      held = λ told. cut_here told short.done short.cut (short.held told);
    }

    failed_later : (outputs : List NamedFile) → FailedOnWrite second outputs → FailedOnWrite both outputs
    failed_later outputs is = record { short = cut_later outputs is.short; failed = failed_to_write is.short.cut.name is.failed }

    pub finishes_later : (s : Status) (limit : Bool) (text : List ℕ) (outputs : List NamedFile) (out : SinkSeen) → FinishesAs s limit text outputs second out → FinishesAs s limit text outputs both out
    finishes_later s limit text outputs out (inl (is, whole, no_put, none, written)) = inl (is, whole, no_put, no_fault none, whole_later outputs written)
    finishes_later s limit text outputs out (inr (inl (is, part, put, then_quiet))) = inr (inl (is, part, put, still_quiet then_quiet))
    finishes_later s limit text outputs out (inr (inr (inl (is, part, no_put, then_quiet)))) = inr (inr (inl (is, part, no_put, still_quiet then_quiet)))
    finishes_later s limit text outputs out (inr (inr (inr (inl (is, whole, no_put, not_written))))) = inr (inr (inr (inl (is, whole, no_put, failed_later outputs not_written))))
    finishes_later s limit text outputs out (inr (inr (inr (inr (is, whole, no_put, none, cut))))) = inr (inr (inr (inr (is, whole, no_put, no_fault none, cut_later outputs cut))))

    pub untouched_later : (out : SinkSeen) → IsUntouched second out → IsUntouched both out
    untouched_later out untouched = record { quiet = still_quiet untouched.quiet; no_put = untouched.no_put; nothing = untouched.nothing }

    pub runs_later : (s : Status) (machine : Machine) (image : MemoryImage) (brief : Bool) (record_to events_to : Option (List ℕ)) (schedule : ScheduleState) (out : SinkSeen)
        → RunsAs s machine image brief record_to events_to schedule second out → RunsAs s machine image brief record_to events_to schedule both out
    runs_later s machine image brief record_to events_to schedule out (inl (is, untouched)) = inl (is, untouched_later out untouched)
    runs_later s machine image brief record_to events_to schedule out (inr (inl (is, run, untouched))) = inr (inl (is, run, untouched_later out untouched))
    runs_later s machine image brief record_to events_to schedule out (inr (inr (inl (is, long, untouched)))) = inr (inr (inl (is, long, untouched_later out untouched)))
    runs_later s machine image brief record_to events_to schedule out (inr (inr (inr (r, run, short, finishes)))) = inr (inr (inr (r, run, short, finishes_later s r.limit _ _ out finishes)))

    pub replays_later : (s : Status) (machine : Machine) (image : MemoryImage) (brief : Bool) (schedule : ScheduleState) (out : SinkSeen)
        → ReplaysAs s machine image brief schedule second out → ReplaysAs s machine image brief schedule both out
    replays_later s machine image brief schedule out (inl (is, untouched)) = inl (is, untouched_later out untouched)
    replays_later s machine image brief schedule out (inr (inl (at, is, illegal, untouched))) = inr (inl (at, is, illegal, untouched_later out untouched))
    replays_later s machine image brief schedule out (inr (inr (r, run, finishes))) = inr (inr (r, run, finishes_later s r.limit _ [] out finishes))

    pub replays_file_later : (s : Status) (machine : Machine) (image : MemoryImage) (brief : Bool) (name : List ℕ) (schedule : ScheduleState) (sched_file : List ℕ) (out : SinkSeen)
        → ReplaysFile s machine image brief name schedule sched_file second out → ReplaysFile s machine image brief name schedule sched_file both out
    replays_file_later s machine image brief name schedule sched_file out (inl (empty, not, no_put, nothing)) =
        inl (empty, not_taken (λ seen. IsScheduleFile seen (replay name)) (schedule_by machine) (Some name) s sched_file (was_read name schedule_limit) not, no_put, nothing)
    replays_file_later s machine image brief name schedule sched_file out (inr (is, read, replays)) =
        inr (is, was_read name schedule_limit sched_file read, replays_later s machine image brief schedule out replays)
