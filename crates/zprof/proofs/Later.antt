-- What holds of a call's files after two parts of it, of which the first changed nothing: of the schedule, and of the run.
use Rattle.std.proofs.Common.{ℕ, Bool, List, Option, Some, None, inl, inr}
use Rattle.access_log.specs.Schedule.{ScheduleState}
use Rattle.elf_load.specs.MemoryImage.{MemoryImage}
use Rattle.machine_desc.specs.declared.machine.Machine.{Machine}
use Rattle.zs_host.specs.declared.fault.Fault.{Fault}
use Rattle.zsim.specs.declared.ended.Status.{Status}
use Rattle.zsim.specs.InputLengths.{schedule_limit}
use Rattle.zsim.specs.Report.{report_of}
use Rattle.zsim.specs.Seen.{FilesSeen, SinkSeen, WasRead, files_seen}
use Rattle.zsim.specs.Setup.{schedule_by}
use Rattle.zsim.specs.Steps.{IsQuiet}
use Rattle.zsim.proofs.FilesSoFar.{finishes_later, not_taken, still_quiet, untouched_later, was_read}
use Rattle.zprof.specs.CommandLine.{Profiling}
use Rattle.zprof.specs.Ended.{ProfilesAs}
use Rattle.zprof.specs.Order.{HasNoOrder, IsOrderOf}
use Rattle.zprof.specs.Steps.{LooksAs}

module _ {F : Type 0} (is_seen : Bool) (contents : F → List ℕ → Option (List ℕ)) (faults : F → ℕ) (latest : F → Option Fault) (before between after : F) where
  abbrev first : FilesSeen
  first = files_seen is_seen contents faults latest before between

  abbrev second : FilesSeen
  second = files_seen is_seen contents faults latest between after

  abbrev both : FilesSeen
  both = files_seen is_seen contents faults latest before after

  -- what was read first stays read
  pub order_stays : (machine : Machine) (image : MemoryImage) (name : Option (List ℕ)) (schedule : ScheduleState) (sched_file : List ℕ)
      → IsOrderOf machine image name schedule sched_file first → IsOrderOf machine image name schedule sched_file both
  order_stays machine image None schedule sched_file is = is
  order_stays machine image (Some name) schedule sched_file (is, read) = (is, record { held = read.held; most = read.most })

  module _ (quiet : IsQuiet first) where
    pub order_later : (machine : Machine) (image : MemoryImage) (name : Option (List ℕ)) (schedule : ScheduleState) (sched_file : List ℕ)
        → IsOrderOf machine image name schedule sched_file second → IsOrderOf machine image name schedule sched_file both
    order_later machine image None schedule sched_file is = is
    order_later machine image (Some name) schedule sched_file (is, read) =
        (is, was_read is_seen contents faults latest before between after quiet name schedule_limit sched_file read)

    pub no_order_later : (s : Status) (machine : Machine) (image : MemoryImage) (name : Option (List ℕ)) (schedule : ScheduleState) (sched_file : List ℕ)
        → HasNoOrder s machine image name schedule sched_file second → HasNoOrder s machine image name schedule sched_file both
    no_order_later s machine image None schedule sched_file (is, none, cores, in_order, then_quiet) =
        (is, none, cores, in_order, still_quiet is_seen contents faults latest before between after quiet then_quiet)
    no_order_later s machine image (Some name) schedule sched_file (empty, not) = (
      empty,
      not_taken is_seen contents faults latest before between after quiet (λ seen. WasRead seen name schedule_limit) (schedule_by machine) (Some name) s sched_file
          (was_read is_seen contents faults latest before between after quiet name schedule_limit) not,
    )

    pub profiles_later : (s : Status) (machine : Machine) (image : MemoryImage) (c : Profiling) (schedule : ScheduleState) (out : SinkSeen)
        → ProfilesAs s machine image c schedule second out → ProfilesAs s machine image c schedule both out
    profiles_later s machine image c schedule out (inl (is, untouched)) =
        inl (is, untouched_later is_seen contents faults latest before between after quiet out untouched)
    profiles_later s machine image c schedule out (inr (inl (at, is, illegal, untouched))) =
        inr (inl (at, is, illegal, untouched_later is_seen contents faults latest before between after quiet out untouched))
    profiles_later s machine image c schedule out (inr (inr (p, finishes))) =
        inr (inr (p, finishes_later is_seen contents faults latest before between after quiet s p.results.limit (report_of machine c.brief p.results) p.outputs out finishes))

    pub looks_later : (s : Status) (machine : Machine) (image : MemoryImage) (c : Profiling) (name : Option (List ℕ)) (schedule : ScheduleState) (sched_file : List ℕ) (out : SinkSeen)
        → LooksAs s machine image c name schedule sched_file second out → LooksAs s machine image c name schedule sched_file both out
    looks_later s machine image c name schedule sched_file out (inl (none, silent)) = inl (no_order_later s machine image name schedule sched_file none, silent)
    looks_later s machine image c name schedule sched_file out (inr (order, profiles)) =
        inr (order_later machine image name schedule sched_file order, profiles_later s machine image c schedule out profiles)
