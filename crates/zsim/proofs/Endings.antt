-- How a call ended: an input was not taken, memory ran out in the run, a schedule was not legal, or the run came to its
-- end.
use Rattle.std.proofs.Common.{◌≡◌, ◌⊎◌, ℕ, Bool, true, false, List, [], ◌∷◌, ◌++◌, Option, Some, None, Ok, Err, Result, refl, sym, inl, inr, ap, subst}
use Rattle.std.specs.Prelude.{◌<◌, IsOk, IsSomeAnd, is_ok, if◌then◌else◌, length, nat_lt}
use Rattle.access_log.specs.Schedule.{ScheduleState}
use Rattle.machine_desc.specs.declared.errors.BadMachine.{BadMachine}
use Rattle.machine_desc.specs.declared.machine.Machine.{Machine}
use Rattle.machine_desc.specs.Machine.{IsMachine}
use Rattle.machine_desc.specs.Description.{machine_of}
use Rattle.elf_load.specs.declared.bad_elf.BadElf.{BadElf}
use Rattle.elf_load.specs.Image.{image_of}
use Rattle.elf_load.specs.MemoryImage.{MemoryImage}
use Rattle.reference.specs.ReferenceRun.{Illegal, IsIllegalAt, IsKeptInOrder}
use Rattle.reference.specs.Results.{Results}
use Rattle.reference.specs.RunEvents.{events_limit}
use Rattle.schedule_file.specs.declared.bad_schedule.BadSchedule.{BadSchedule}
use Rattle.schedule_file.specs.ScheduleFile.{schedule_file_of, schedule_of}
use Rattle.zsim.specs.declared.ended.Kept.{Kept}
use Rattle.zsim.specs.declared.ended.ScheduleFault.TheVariants as fault
use Rattle.zsim.specs.declared.ended.Status.{Status}
use Rattle.zsim.specs.declared.ended.Status.TheVariants as status
use Rattle.zsim.specs.declared.ended.Which.TheVariants as which
use Rattle.zsim.specs.CommandLine.{Execution, Task, events_name, exe_file, replay, run}
use Rattle.zsim.specs.Ended.{Gives, EndsAs, IsExeOf, IsMachineText, IsOutputName, IsRefusedAt, IsScheduleFile, IsScheduleOf, IsShortEnough, KeepsAll, KeepsExe, KeepsMachine, KeepsNothing, KeepsText, NothingFailed, Seen, no_intervals, status_at}
use Rattle.zsim.specs.InputLengths.{exe_limit, machine_limit, schedule_limit}
use Rattle.zsim.specs.Outputs.{NamedFile, outputs_of}
use Rattle.zsim.specs.Report.{report_of}
use Rattle.zsim.specs.Seen.{GainedNothing, NoPutFailed}
use Rattle.zsim.specs.Setup.{Setup, image_by, machine_by, schedule_by, setup_of, with_image, with_machine, with_schedule}
use Rattle.zsim.specs.Steps.{FinishesAs, IsNotTaken, IsUntouched, ReplaysAs, ReplaysFile, RunGives, RunsAs}
use Rattle.zsim.proofs.FilesSoFar.{failed_input}
use Rattle.zsim.proofs.OutputsDone.{output_of_two}
use Rattle.zsim.proofs.ScheduleCores.{schedule_cores}

-- ---- which refusals there are

refused_machine : (P : Status → Type 0) → P (status.TooLong which.Machine) → ((bad : BadMachine) → P (status.BadMachine bad))
    → (long : Bool) (found : Result Machine BadMachine) (s : Status) → (if long then Err (status.TooLong which.Machine) else with_machine found) ≡ Err s → P s
refused_machine P is_long is_bad true found s is = let same : status.TooLong which.Machine ≡ s = cc in subst P same is_long
refused_machine P is_long is_bad false (Ok machine) s is = absurd cc
refused_machine P is_long is_bad false (Err bad) s is = let same : status.BadMachine bad ≡ s = cc in subst P same (is_bad bad)

pub machine_refuses : (P : Status → Type 0) → P (status.TooLong which.Machine) → ((bad : BadMachine) → P (status.BadMachine bad))
    → (text : List ℕ) (s : Status) → machine_by text ≡ Err s → P s
unfolding machine_by
machine_refuses P is_long is_bad text s is = refused_machine P is_long is_bad (nat_lt machine_limit (length text)) (machine_of text) s is

refused_exe : (P : Status → Type 0) → P (status.TooLong which.Exe) → ((bad : BadElf) → P (status.BadElf bad))
    → (long : Bool) (found : Result MemoryImage BadElf) (s : Status) → (if long then Err (status.TooLong which.Exe) else with_image found) ≡ Err s → P s
refused_exe P is_long is_bad true found s is = let same : status.TooLong which.Exe ≡ s = cc in subst P same is_long
refused_exe P is_long is_bad false (Ok image) s is = absurd cc
refused_exe P is_long is_bad false (Err bad) s is = let same : status.BadElf bad ≡ s = cc in subst P same (is_bad bad)

exe_refuses : (P : Status → Type 0) → P (status.TooLong which.Exe) → ((bad : BadElf) → P (status.BadElf bad))
    → (machine : Machine) (exe : List ℕ) (s : Status) → image_by machine exe ≡ Err s → P s
unfolding image_by
exe_refuses P is_long is_bad machine exe s is =
    refused_exe P is_long is_bad (nat_lt exe_limit (length exe)) (image_of exe machine.memory.base machine.memory.size) s is

refused_schedule : (P : Status → Type 0) → P (status.TooLong which.Schedule) → ((bad : BadSchedule) → P (status.BadSchedule (fault.File bad)))
    → (long : Bool) (found : Result ScheduleState BadSchedule) (s : Status) → (if long then Err (status.TooLong which.Schedule) else with_schedule found) ≡ Err s → P s
refused_schedule P is_long is_bad true found s is = let same : status.TooLong which.Schedule ≡ s = cc in subst P same is_long
refused_schedule P is_long is_bad false (Ok schedule) s is = absurd cc
refused_schedule P is_long is_bad false (Err bad) s is = let same : status.BadSchedule (fault.File bad) ≡ s = cc in subst P same (is_bad bad)

pub schedule_refuses : (P : Status → Type 0) → P (status.TooLong which.Schedule) → ((bad : BadSchedule) → P (status.BadSchedule (fault.File bad)))
    → (machine : Machine) (sched_file : List ℕ) (s : Status) → schedule_by machine sched_file ≡ Err s → P s
unfolding schedule_by
schedule_refuses P is_long is_bad machine sched_file s is =
    refused_schedule P is_long is_bad (nat_lt schedule_limit (length sched_file)) (schedule_of machine.cores sched_file) s is

-- ---- no run was begun

-- standard output was not touched, and the kept schedule has no interval
pub record IsBefore (seen : Seen) (k : Kept) : Type 0 where
  pub lists : k.schedule.lists ≡ []
  pub out : NoPutFailed seen.out
  pub nothing : GainedNothing seen.out

module _ (seen : Seen) (k : Kept) (before : IsBefore seen k) where
  -- the first input
  pub machine_not_taken : (s : Status) → IsNotTaken (λ files. IsMachineText files seen.command.machine) machine_by seen.command.machine s seen.files k.machine
      → k.exe ≡ [] → k.sched_file ≡ [] → k.schedule ≡ no_intervals 0 → k.events ≡ [] → EndsAs seen s k
  machine_not_taken s (inl (is, none, not_read, same)) exe sched_file schedule events =
      let nothing : KeepsNothing k = record { machine = none; exe = exe; sched_file = sched_file; schedule = schedule; events = events } in
      let ended : EndsAs seen status.ReadFault k = record {
        kept = inl nothing;
        refusals = (inl (nothing, not_read), before.out);
        report = (before.lists, before.nothing);
        files = same;
        complete = λ no _. absurd (no (failed_input seen.files seen.command.machine not_read));
      } in
      subst (λ (t : Status). EndsAs seen t k) (sym is) ended
  machine_not_taken s (inr (inl (is, inl none, quiet))) exe sched_file schedule events =
      let nothing : KeepsNothing k = record { machine = none; exe = exe; sched_file = sched_file; schedule = schedule; events = events } in
      let ended : EndsAs seen status.NoMemory k = record {
        kept = inl nothing;
        refusals = record { files = quiet.no_fault; out = before.out };
        report = inl (before.lists, before.nothing);
        files = inl quiet.names;
        complete = λ _ _. inl refl;
      } in
      subst (λ (t : Status). EndsAs seen t k) (sym is) ended
  machine_not_taken s (inr (inl (is, inr some, quiet))) exe sched_file schedule events =
      let text : KeepsText seen k = record { machine = some; exe = exe; sched_file = sched_file; schedule = schedule } in
      let ended : EndsAs seen status.NoMemory k = record {
        kept = inr (inl text);
        refusals = record { files = quiet.no_fault; out = before.out };
        report = inl (before.lists, before.nothing);
        files = inl quiet.names;
        complete = λ _ _. inl refl;
      } in
      subst (λ (t : Status). EndsAs seen t k) (sym is) ended
  machine_not_taken s (inr (inr (refused, some, quiet))) exe sched_file schedule events =
      let text : KeepsText seen k = record { machine = some; exe = exe; sched_file = sched_file; schedule = schedule } in
      let none : NothingFailed seen = record { files = quiet.no_fault; out = before.out } in
      let setup : (t : Status) → machine_by k.machine ≡ Err t → setup_of seen.command k ≡ Err t = λ t is. rw is refl in
      machine_refuses (λ (t : Status). machine_by k.machine ≡ Err t → EndsAs seen t k)
      (λ is. record {
        kept = text;
        refusals = (setup _ is, none);
        report = (before.lists, before.nothing);
        files = quiet.names;
        complete = λ _ _. inr (rw (setup _ is) refl);
      })
      (λ bad is. record {
        kept = text;
        refusals = (setup _ is, none);
        report = (before.lists, before.nothing);
        files = quiet.names;
        complete = λ _ _. inr (rw (setup _ is) refl);
      })
      k.machine s refused refused

  module _ (machine : Machine) (machine_is : machine_by k.machine ≡ Ok machine) (text : IsMachineText seen.files seen.command.machine k.machine) where
    -- the second
    pub exe_not_taken : (s : Status) → IsNotTaken (λ files. IsExeOf files machine seen.command.exe) (image_by machine) (exe_file seen.command.exe) s seen.files k.exe
        → k.sched_file ≡ [] → k.schedule ≡ no_intervals machine.cores → EndsAs seen s k
    exe_not_taken s (inl (is, none, not_read, same)) sched_file schedule =
        let keeps : KeepsMachine seen k = record { machine = text; exe = none; sched_file = sched_file; schedule = rw machine_is schedule } in
        let ended : EndsAs seen status.ReadFault k = record {
          kept = inr (inl keeps);
          refusals = (inr (inl (keeps, not_read)), before.out);
          report = (before.lists, before.nothing);
          files = same;
          complete = λ no _. absurd (no (failed_input seen.files (exe_file seen.command.exe) not_read));
        } in
        subst (λ (t : Status). EndsAs seen t k) (sym is) ended
    exe_not_taken s (inr (inl (is, inl none, quiet))) sched_file schedule =
        let keeps : KeepsMachine seen k = record { machine = text; exe = none; sched_file = sched_file; schedule = rw machine_is schedule } in
        let ended : EndsAs seen status.NoMemory k = record {
          kept = inr (inr (inl keeps));
          refusals = record { files = quiet.no_fault; out = before.out };
          report = inl (before.lists, before.nothing);
          files = inl quiet.names;
          complete = λ _ _. inl refl;
        } in
        subst (λ (t : Status). EndsAs seen t k) (sym is) ended
    exe_not_taken s (inr (inl (is, inr some, quiet))) sched_file schedule =
        let keeps : KeepsExe seen k = record { machine = text; exe = rw machine_is some; sched_file = sched_file; cores = rw machine_is (ap (λ (l : ScheduleState). l.cores) schedule) } in
        let ended : EndsAs seen status.NoMemory k = record {
          kept = inr (inr (inr (inl keeps)));
          refusals = record { files = quiet.no_fault; out = before.out };
          report = inl (before.lists, before.nothing);
          files = inl quiet.names;
          complete = λ _ _. inl refl;
        } in
        subst (λ (t : Status). EndsAs seen t k) (sym is) ended
    exe_not_taken s (inr (inr (refused, some, quiet))) sched_file schedule =
        let keeps : KeepsExe seen k = record { machine = text; exe = rw machine_is some; sched_file = sched_file; cores = rw machine_is (ap (λ (l : ScheduleState). l.cores) schedule) } in
        let none : NothingFailed seen = record { files = quiet.no_fault; out = before.out } in
        let setup : (t : Status) → image_by machine k.exe ≡ Err t → setup_of seen.command k ≡ Err t = λ t is. rw (machine_is, is) refl in
        exe_refuses (λ (t : Status). image_by machine k.exe ≡ Err t → EndsAs seen t k)
        (λ is. record {
          kept = keeps;
          refusals = (setup _ is, none);
          report = (before.lists, before.nothing);
          files = quiet.names;
          complete = λ _ _. inr (rw (setup _ is) refl);
        })
        (λ bad is. record {
          kept = keeps;
          refusals = (setup _ is, none);
          report = (before.lists, before.nothing);
          files = quiet.names;
          complete = λ _ _. inr (rw (setup _ is) refl);
        })
        machine k.exe s refused refused

    module _ (image : MemoryImage) (image_is : image_by machine k.exe ≡ Ok image) (exe : IsExeOf seen.files machine seen.command.exe k.exe) (cores : k.schedule.cores ≡ machine.cores) where
      -- the third
      pub schedule_not_taken : (name : List ℕ) (s : Status) → seen.command.task ≡ replay name
          → IsNotTaken (λ files. IsScheduleFile files (replay name)) (schedule_by machine) (Some name) s seen.files k.sched_file → EndsAs seen s k
      schedule_not_taken name s replays (inl (is, none, not_read, same)) =
          let keeps : KeepsExe seen k = record { machine = text; exe = rw machine_is exe; sched_file = none; cores = rw machine_is cores } in
          let loads : IsOk (image_by machine k.exe) = ap is_ok image_is in
          let ended : EndsAs seen status.ReadFault k = record {
            kept = inr (inr keeps);
            refusals = (inr (inr (keeps, rw machine_is loads, rw replays not_read)), before.out);
            report = (before.lists, before.nothing);
            files = same;
            complete = λ no _. absurd (no not_read.failed);
          } in
          subst (λ (t : Status). EndsAs seen t k) (sym is) ended
      schedule_not_taken name s replays (inr (inl (is, inl none, quiet))) =
          let keeps : KeepsExe seen k = record { machine = text; exe = rw machine_is exe; sched_file = none; cores = rw machine_is cores } in
          let ended : EndsAs seen status.NoMemory k = record {
            kept = inr (inr (inr (inl keeps)));
            refusals = record { files = quiet.no_fault; out = before.out };
            report = inl (before.lists, before.nothing);
            files = inl quiet.names;
            complete = λ _ _. inl refl;
          } in
          subst (λ (t : Status). EndsAs seen t k) (sym is) ended
      schedule_not_taken name s replays (inr (inl (is, inr some, quiet))) =
          let keeps : KeepsAll seen k = record { machine = text; exe = rw machine_is exe; sched_file = rw replays some; cores = rw machine_is cores } in
          let ended : EndsAs seen status.NoMemory k = record {
            kept = inr (inr (inr (inr keeps)));
            refusals = record { files = quiet.no_fault; out = before.out };
            report = inl (before.lists, before.nothing);
            files = inl quiet.names;
            complete = λ _ _. inl refl;
          } in
          subst (λ (t : Status). EndsAs seen t k) (sym is) ended
      schedule_not_taken name s replays (inr (inr (refused, some, quiet))) =
          let keeps : KeepsAll seen k = record { machine = text; exe = rw machine_is exe; sched_file = rw replays some; cores = rw machine_is cores } in
          let none : NothingFailed seen = record { files = quiet.no_fault; out = before.out } in
          let setup : (t : Status) → schedule_by machine k.sched_file ≡ Err t → setup_of seen.command k ≡ Err t = λ t is. rw (machine_is, image_is, replays, is) refl in
          schedule_refuses (λ (t : Status). schedule_by machine k.sched_file ≡ Err t → EndsAs seen t k)
          (λ is. record {
            kept = keeps;
            refusals = (setup _ is, none);
            report = (before.lists, before.nothing);
            files = quiet.names;
            complete = λ _ _. inr (rw (setup _ is) refl);
          })
          (λ bad is. record {
            kept = keeps;
            refusals = (setup _ is, none);
            report = (before.lists, before.nothing);
            files = quiet.names;
            complete = λ _ _. inr (rw (setup _ is) refl);
          })
          machine k.sched_file s refused refused

-- ---- the run was begun

elim_limit : (P : Bool → Type 0) → P true → P false → (limit : Bool) → P limit
elim_limit P limited halted true = limited
elim_limit P limited halted false = halted

-- the file whose write failed is one that the command names
output_name : (task : Task) (schedule : ScheduleState) (events : List ℕ) (done : List NamedFile) (cut : NamedFile) (rest : List NamedFile) → outputs_of task schedule events ≡ done ++ cut ∷ rest
    → IsOutputName task cut.name
output_name (run workers record_to events_to) schedule events done cut rest is = output_of_two record_to events_to (schedule_file_of schedule) events done cut rest is
output_name (replay name) schedule events [] cut rest is = absurd cc
output_name (replay name) schedule events (f ∷ fs) cut rest is = absurd cc

module _ (seen : Seen) (k : Kept) (keeps : KeepsAll seen k) (setup : Setup) (setup_is : setup_of seen.command k ≡ Ok setup) (valid : IsMachine setup.machine) where
  sound : IsOk (setup_of seen.command k)
  sound = ap is_ok setup_is

  -- memory ran out before there was a report
  pub stopped : IsScheduleOf setup k.schedule → IsUntouched seen.files seen.out
      → EndsAs seen status.NoMemory k
  stopped schedule untouched = record {
    kept = inr (inr (inr (inr keeps)));
    refusals = record { files = untouched.quiet.no_fault; out = untouched.no_put };
    report = inr (inl (record { setup = setup; is = setup_is; schedule = schedule }, untouched.nothing));
    files = inl untouched.quiet.names;
    complete = λ _ _. inl refl;
  }

  -- the schedule of a replay is not legal
  pub refused_at : (at : Illegal) → setup.given ≡ Some k.schedule → IsIllegalAt setup.machine setup.image k.schedule.lists at → IsUntouched seen.files seen.out
      → EndsAs seen (status.BadSchedule (fault.Illegal at.interval at.place)) k
  refused_at at given illegal untouched =
      let refused : IsRefusedAt seen.command k at = record { setup = setup; is = setup_is; given = given; illegal = illegal } in
      record {
        kept = keeps;
        refusals = (refused, record { files = untouched.quiet.no_fault; out = untouched.no_put });
        report = untouched.nothing;
        files = untouched.quiet.names;
        complete = λ _ _. inr (rw setup_is (inr (inl (at, refl, refused))));
      }

  -- the run came to its end
  module _ (schedule : IsScheduleOf setup k.schedule) (r : Results) (run : RunGives setup.machine setup.image k.schedule r) where
    abbrev gives : Gives seen.command k r
    gives = record { setup = setup; is = setup_is; sound = valid; schedule = schedule; run = run.run; counted = run.counted; events = run.events; events_are = run.events_are }

    abbrev text : List ℕ
    text = report_of setup.machine seen.command.brief r

    -- but memory ran out before there was a report
    unreported : IsUntouched seen.files seen.out → EndsAs seen status.NoMemory k
    unreported untouched = record {
      kept = inr (inr (inr (inr keeps)));
      refusals = record { files = untouched.quiet.no_fault; out = untouched.no_put };
      report = inr (inr (inl ((r, gives), untouched.nothing)));
      files = inl untouched.quiet.names;
      complete = λ _ _. inl refl;
    }

    -- but it has too many events for the file that is asked for
    too_many : IsSomeAnd (events_name seen.command.task) (λ name. events_limit < length run.events) → IsUntouched seen.files seen.out → EndsAs seen (status.TooLong which.Events) k
    too_many long untouched = record {
      kept = keeps;
      refusals = ((r, gives, long), record { files = untouched.quiet.no_fault; out = untouched.no_put });
      report = ((r, gives), untouched.nothing);
      files = untouched.quiet.names;
      complete = λ _ _. inr (rw setup_is (inr (inr (refl, (r, gives, long)))));
    }

    pub finished : (s : Status) → IsShortEnough seen.command.task run.events → FinishesAs s r.limit text (outputs_of seen.command.task k.schedule run.events) seen.files seen.out → EndsAs seen s k
    finished s short_enough (inl (is, whole, no_put, no_file, written)) =
        let by_limit : (limit : Bool) → r.limit ≡ limit → EndsAs seen (status_at limit) k =
        elim_limit (λ (limit : Bool). r.limit ≡ limit → EndsAs seen (status_at limit) k)
        (λ ends. record {
          kept = keeps;
          refusals = (sound, record { files = no_file; out = no_put });
          report = (r, gives, short_enough, rw ends refl, whole);
          files = (r, gives, written);
          complete = λ _ _. inr (rw setup_is (inl ((r, gives, short_enough, rw ends refl, whole), (r, gives, written))));
        })
        (λ ends. record {
          kept = keeps;
          refusals = (sound, record { files = no_file; out = no_put });
          report = (r, gives, short_enough, rw ends refl, whole);
          files = (r, gives, written);
          complete = λ _ _. inr (rw setup_is (inl ((r, gives, short_enough, rw ends refl, whole), (r, gives, written))));
        }) in
        subst (λ (t : Status). EndsAs seen t k) (sym is) (by_limit r.limit refl)
    finished s short_enough (inr (inl (is, part, failed, quiet))) =
        let ended : EndsAs seen status.WriteFault k = record {
          kept = keeps;
          refusals = (sound, inl (quiet.no_fault, failed));
          report = inl (failed, (r, gives, short_enough, part));
          files = inl (failed, quiet.names);
          complete = λ _ no. absurd (no failed);
        } in
        subst (λ (t : Status). EndsAs seen t k) (sym is) ended
    finished s short_enough (inr (inr (inl (is, part, no_put, quiet)))) =
        let ended : EndsAs seen status.NoMemory k = record {
          kept = inr (inr (inr (inr keeps)));
          refusals = record { files = quiet.no_fault; out = no_put };
          report = inr (inr (inr (inl (r, gives, short_enough, part))));
          files = inl quiet.names;
          complete = λ _ _. inl refl;
        } in
        subst (λ (t : Status). EndsAs seen t k) (sym is) ended
    finished s short_enough (inr (inr (inr (inl (is, whole, no_put, failed))))) =
        let short = failed.short in
        let name = output_name seen.command.task k.schedule run.events short.done short.cut short.rest short.are in
        let rose = failed.failed.failed in
        let ended : EndsAs seen status.WriteFault k = record {
          kept = keeps;
          refusals = (sound, inr ((short.cut.name, name, failed.failed), no_put));
          report = inr (rose, (r, gives, short_enough, whole));
          files = inr (rose, (r, gives, short_enough, whole), (r, gives, short));
          complete = λ no _. absurd (no rose);
        } in
        subst (λ (t : Status). EndsAs seen t k) (sym is) ended
    finished s short_enough (inr (inr (inr (inr (is, whole, no_put, no_file, cut))))) =
        let ended : EndsAs seen status.NoMemory k = record {
          kept = inr (inr (inr (inr keeps)));
          refusals = record { files = no_file; out = no_put };
          report = inr (inr (inr (inr ((r, gives, short_enough, whole), (r, gives, cut)))));
          files = inr ((r, gives, short_enough, whole), (r, gives, cut));
          complete = λ _ _. inl refl;
        } in
        subst (λ (t : Status). EndsAs seen t k) (sym is) ended

  -- a run, and a replay
  pub ran : (s : Status) (workers : ℕ) (record_to events_to : Option (List ℕ)) → seen.command.task ≡ run workers record_to events_to → setup.given ≡ None
      → IsKeptInOrder setup.machine setup.image k.schedule.lists
      → RunsAs s setup.machine setup.image seen.command.brief record_to events_to k.schedule seen.files seen.out → EndsAs seen s k
  ran s workers record_to events_to is_run none in_order (inl (is, untouched)) = subst (λ (t : Status). EndsAs seen t k) (sym is) (stopped (rw none in_order) untouched)
  ran s workers record_to events_to is_run none in_order (inr (inl (is, (r, gives), untouched))) =
      subst (λ (t : Status). EndsAs seen t k) (sym is) (unreported (rw none in_order) r gives untouched)
  ran s workers record_to events_to is_run none in_order (inr (inr (inl (is, (r, gives, long), untouched)))) =
      subst (λ (t : Status). EndsAs seen t k) (sym is) (too_many (rw none in_order) r gives (rw is_run long) untouched)
  ran s workers record_to events_to is_run none in_order (inr (inr (inr (r, gives, short, finishes)))) =
      finished (rw none in_order) r gives s (rw is_run short) (rw is_run finishes)

  pub replayed : (s : Status) (name : List ℕ) → seen.command.task ≡ replay name → setup.given ≡ Some k.schedule
      → ReplaysAs s setup.machine setup.image seen.command.brief k.schedule seen.files seen.out → EndsAs seen s k
  replayed s name is_replay given (inl (is, untouched)) = subst (λ (t : Status). EndsAs seen t k) (sym is) (stopped (rw given refl) untouched)
  replayed s name is_replay given (inr (inl (at, is, illegal, untouched))) = subst (λ (t : Status). EndsAs seen t k) (sym is) (refused_at at given illegal untouched)
  replayed s name is_replay given (inr (inr (r, gives, finishes))) = finished (rw given refl) r gives s (rw is_replay tt) (rw is_replay finishes)

-- the file of a schedule was not taken, or the replay came to this
pub replayed_file : (seen : Seen) (k : Kept) (machine : Machine) (image : MemoryImage) (name : List ℕ) (s : Status) → IsMachine machine
    → machine_by k.machine ≡ Ok machine → image_by machine k.exe ≡ Ok image
    → IsMachineText seen.files seen.command.machine k.machine → IsExeOf seen.files machine seen.command.exe k.exe
    → seen.command.task ≡ replay name → ReplaysFile s machine image seen.command.brief name k.schedule k.sched_file seen.files seen.out → EndsAs seen s k
replayed_file seen k machine image name s valid machine_is image_is text exe is_replay (inl (empty, not, no_put, nothing)) =
    let before : IsBefore seen k = record { lists = ap (λ (l : ScheduleState). l.lists) empty; out = no_put; nothing = nothing } in
    schedule_not_taken seen k before machine machine_is text image image_is exe (ap (λ (l : ScheduleState). l.cores) empty) name s is_replay not
replayed_file seen k machine image name s valid machine_is image_is text exe is_replay (inr (is, sched_file, replays)) =
    let setup : Setup = record { machine = machine; image = image; given = Some k.schedule } in
    let setup_is : setup_of seen.command k ≡ Ok setup = rw (machine_is, image_is, is_replay, is) refl in
    let keeps : KeepsAll seen k = record {
      machine = text;
      exe = rw machine_is exe;
      sched_file = rw is_replay sched_file;
      cores = rw machine_is (schedule_cores machine k.sched_file k.schedule is);
    } in
    replayed seen k keeps setup setup_is valid s name is_replay refl replays

-- standard output was not touched, or the run came to its end
pub untouched_or_run : {S : Type 0} (command : Execution) (k : Kept) (setup : Setup) → setup_of command k ≡ Ok setup → IsMachine setup.machine
    → IsScheduleOf setup k.schedule → (old new : S)
    → (new ≡ old) ⊎ ((r : Results) × RunGives setup.machine setup.image k.schedule r) → (new ≡ old) ⊎ ((r : Results) × Gives command k r)
untouched_or_run command k setup setup_is valid schedule old new (inl same) = inl same
untouched_or_run command k setup setup_is valid schedule old new (inr (r, came)) =
    inr (r, record { setup = setup; is = setup_is; sound = valid; schedule = schedule; run = came.run; counted = came.counted; events = came.events; events_are = came.events_are })

pub untouched_or_replayed : {S : Type 0} (command : Execution) (k : Kept) (machine : Machine) (image : MemoryImage) (name : List ℕ) → IsMachine machine
    → machine_by k.machine ≡ Ok machine → image_by machine k.exe ≡ Ok image → command.task ≡ replay name → (old new : S)
    → (new ≡ old) ⊎ ((schedule_by machine k.sched_file ≡ Ok k.schedule) × ((r : Results) × RunGives machine image k.schedule r)) → (new ≡ old) ⊎ ((r : Results) × Gives command k r)
untouched_or_replayed command k machine image name valid machine_is image_is is_replay old new (inl same) = inl same
untouched_or_replayed command k machine image name valid machine_is image_is is_replay old new (inr (is, came)) =
    let setup : Setup = record { machine = machine; image = image; given = Some k.schedule } in
    let setup_is : setup_of command k ≡ Ok setup = rw (machine_is, image_is, is_replay, is) refl in
    untouched_or_run command k setup setup_is valid refl old new (inr came)
