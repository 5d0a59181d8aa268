-- A replay of a recorded schedule repeats the run.
use Rattle.std.proofs.Common.{◌≡◌, ◌≢◌, ℕ, ◌+◌, ◌<◌, ◌≤◌, Bool, true, false, List, ◌∷◌, length, Option, Some, None, Result, Ok, Err, All, take, option_map, refl, sym, ◌∙◌, ap, subst, inl, inr, arith, nat_lt}
use Rattle.std.specs.Prelude.{IsOkAnd, IsSomeAnd, MatchOption, MatchResult}
use Rattle.std.proofs.lemmas.Bool.Decides.{nat_tests}
use Rattle.std.proofs.lemmas.List.{take_all}
use Rattle.std.proofs.lemmas.List.Sums.{get_or-le-sum_by}
use Rattle.access_log.specs.Schedule.{AreTurns, ScheduleState}
use Rattle.machine_desc.specs.declared.machine.Machine.{Machine}
use Rattle.machine_desc.specs.Machine.{IsMachine}
use Rattle.elf_load.specs.MemoryImage.{MemoryImage}
use Rattle.replay.specs.declared.replay_fail.ReplayFail.TheVariants as fail
use Rattle.reference.specs.Laws.{FitsRun, LegalSchedulesFit}
use Rattle.replay.specs.Laws.{ReplaysGiveTheSame}
use Rattle.reference.specs.ReferenceRun.{Illegal, IsIllegalAt, IsKeptInOrder, IsRunOf}
use Rattle.reference.specs.Results.{HasCounts, Results}
use Rattle.reference.specs.RunEvents.{events_limit}
use Rattle.schedule_file.specs.Laws.{EachScheduleIsReadAgain, FilesAreShort}
use Rattle.schedule_file.specs.ScheduleFile.{schedule_file_of, schedule_of}
use Rattle.zsim.specs.declared.ended.Kept.{Kept}
use Rattle.zsim.specs.declared.ended.ScheduleFault.TheVariants as fault
use Rattle.zsim.specs.declared.ended.Status.{Status}
use Rattle.zsim.specs.declared.ended.Status.TheVariants as status
use Rattle.zsim.specs.declared.ended.Which.TheVariants as which
use Rattle.zsim.specs.CommandLine.{Execution, Task, events_name, is_one_name, record_name, replay, run}
use Rattle.zsim.specs.Ended.{Gives, EndsAs, IsDecided, IsReportedOrRefused, AreOutputsWritten, IsReported, IsScheduleFile, KeepsAll, Seen, status_at}
use Rattle.zsim.specs.Laws.{IsGivenTheRecord, IsRepeated, IsReplayOf, IsReportedWhole}
use Rattle.zsim.specs.InputLengths.{schedule_limit}
use Rattle.zsim.specs.Outputs.{held_with, named_file, named_if, outputs_of}
use Rattle.zsim.specs.Report.{report_of}
use Rattle.zsim.specs.Seen.{FileFailed, Gained, PutFailed, WasRead}
use Rattle.zsim.specs.Setup.{Setup, given_by, image_by, machine_by, schedule_by, setup_of, then_checked}
use Rattle.zsim.proofs.Endings.{schedule_refuses}
use Rattle.zsim.proofs.OutputsDone.{at_name}

-- ---- what is to be run

-- the machine and the image of what is to be run
pub record HasParts (command : Execution) (kept : Kept) (setup : Setup) : Type 0 where
  pub machine : machine_by kept.machine ≡ Ok setup.machine
  pub image : image_by setup.machine kept.exe ≡ Ok setup.image
  pub given : given_by setup.machine command.task kept.sched_file ≡ Ok setup.given

parts_from : (command : Execution) (kept : Kept) (setup : Setup) (machine : Result Machine Status) → machine_by kept.machine ≡ machine
    → then_checked machine (λ m. then_checked (image_by m kept.exe) (λ i. then_checked (given_by m command.task kept.sched_file) (λ given. Ok (record { machine = m; image = i; given = given })))) ≡ Ok setup
    → HasParts command kept setup
parts_from command kept setup (Err refusal) is e = cc
parts_from command kept setup (Ok machine) is e =
    let by_image : (image : Result MemoryImage Status) → image_by machine kept.exe ≡ image
    → then_checked image (λ i. then_checked (given_by machine command.task kept.sched_file) (λ given. Ok (record { machine = machine; image = i; given = given }))) ≡ Ok setup → HasParts command kept setup =
    λ o. elim o as (λ v. image_by machine kept.exe ≡ v
    → then_checked v (λ i. then_checked (given_by machine command.task kept.sched_file) (λ given. Ok (record { machine = machine; image = i; given = given }))) ≡ Ok setup → HasParts command kept setup) [
      | Err refusal ↦ λ image_is f. cc
      | Ok image ↦ λ image_is f.
          let by_given : (given : Result (Option ScheduleState) Status) → given_by machine command.task kept.sched_file ≡ given
          → then_checked given (λ g. Ok (record { machine = machine; image = image; given = g })) ≡ Ok setup → HasParts command kept setup =
          λ p. elim p as (λ v. given_by machine command.task kept.sched_file ≡ v
          → then_checked v (λ g. Ok (record { machine = machine; image = image; given = g })) ≡ Ok setup → HasParts command kept setup) [
            | Err refusal ↦ λ given_is h. cc
            | Ok given ↦ λ given_is h.
                let made : Setup = record { machine = machine; image = image; given = given } in
                let same : made ≡ setup = cc in
                subst (λ (x : Setup). HasParts command kept x) same (record { machine = is; image = image_is; given = given_is })
          ]
          in
          by_given (given_by machine command.task kept.sched_file) refl f
    ]
    in
    by_image (image_by machine kept.exe) refl e

pub parts : (command : Execution) (kept : Kept) (setup : Setup) → setup_of command kept ≡ Ok setup → HasParts command kept setup
parts command kept setup is = parts_from command kept setup (machine_by kept.machine) refl is

-- ---- the file of a schedule

not_over : (most n : ℕ) → n ≤ most → nat_lt most n ≡ false
not_over most n within = grind (arith, nat_tests)

-- the file of a schedule that fits in it is read again
reads_again : (machine : Machine) (s : ScheduleState) → length (schedule_file_of s) ≤ schedule_limit → schedule_of machine.cores (schedule_file_of s) ≡ Ok s → schedule_by machine (schedule_file_of s) ≡ Ok s
unfolding schedule_by
reads_again machine s short again = rw (not_over schedule_limit (length (schedule_file_of s)) short, again) refl

module _ (read_again : EachScheduleIsReadAgain) (files_short : FilesAreShort) (machine : Machine) (sound : IsMachine machine) (s : ScheduleState) (results : Results) (cores : s.cores ≡ machine.cores) (fits : FitsRun machine s.lists results) (counted : HasCounts machine results) where
  are_turns : AreTurns s
  are_turns = record {
    known = subst (λ (n : ℕ). All (λ (turns : List ℕ). All (λ number. number < n) turns) s.lists) (sym cores) fits.known;
    short = λ i d below. omega (arith, get_or-le-sum_by length s.lists i d below, fits.turns, counted.accesses);
    few = omega (arith, fits.intervals, fits.few, sound.intervals.1);
  }

  pub short_enough : length (schedule_file_of s) ≤ schedule_limit
  short_enough = omega (arith, files_short s, fits.turns, counted.accesses, fits.intervals, fits.few, sound.intervals.1)

  pub is_read_again : schedule_by machine (schedule_file_of s) ≡ Ok s
  is_read_again =
      let again : schedule_of machine.cores (schedule_file_of s) ≡ Ok s = ap (λ (n : ℕ). schedule_of n (schedule_file_of s)) (sym cores) ∙ read_again s are_turns (omega (arith, cores, sound.cores.1)) in
      reads_again machine s short_enough again

ok_and : {T E : Type 0} (P : T → Type 0) (r : Result T E) (x : T) → r ≡ Ok x → IsOkAnd r P → P x
ok_and P (Err e) x is all = absurd all
ok_and P (Ok y) x is all = let same : y ≡ x = cc in subst P same all

-- ---- a run that was reported whole

pub reported : (seen : Seen) (s : Status) (k : Kept) → EndsAs seen s k → IsReportedWhole s → IsReported s seen k
reported seen s k ended (inl ran) =
    let at : EndsAs seen status.Ran k = subst (λ (t : Status). EndsAs seen t k) ran ended in
    subst (λ (t : Status). IsReported t seen k) (sym ran) at.report
reported seen s k ended (inr limited) =
    let at : EndsAs seen status.Limit k = subst (λ (t : Status). EndsAs seen t k) limited ended in
    subst (λ (t : Status). IsReported t seen k) (sym limited) at.report

pub keeps_all : (seen : Seen) (s : Status) (k : Kept) → EndsAs seen s k → IsReportedWhole s → KeepsAll seen k
keeps_all seen s k ended (inl ran) =
    let at : EndsAs seen status.Ran k = subst (λ (t : Status). EndsAs seen t k) ran ended in
    at.kept
keeps_all seen s k ended (inr limited) =
    let at : EndsAs seen status.Limit k = subst (λ (t : Status). EndsAs seen t k) limited ended in
    at.kept

pub recorded : (seen : Seen) (s : Status) (k : Kept) → EndsAs seen s k → IsReportedWhole s → AreOutputsWritten seen k
recorded seen s k ended (inl ran) =
    let at : EndsAs seen status.Ran k = subst (λ (t : Status). EndsAs seen t k) ran ended in
    at.files
recorded seen s k ended (inr limited) =
    let at : EndsAs seen status.Limit k = subst (λ (t : Status). EndsAs seen t k) limited ended in
    at.files

-- the name for the schedule holds its file, as that for the events is another
held_first : (events_to : Option (List ℕ)) (schedule events : List ℕ) (name : List ℕ) (before : Option (List ℕ)) → is_one_name (Some name) events_to ≡ false
    → held_with (named_file name schedule ∷ named_if events_to events) before name ≡ Some schedule
held_first None schedule events name before apart = at_name name schedule before
held_first (Some other) schedule events name before apart = rw apart (at_name name schedule before)

schedule_held : (task : Task) (schedule : ScheduleState) (events : List ℕ) (name : List ℕ) (before : Option (List ℕ)) → record_name task ≡ Some name
    → is_one_name (record_name task) (events_name task) ≡ false → held_with (outputs_of task schedule events) before name ≡ Some (schedule_file_of schedule)
schedule_held (run workers None events_to) schedule events name before is apart = absurd cc
schedule_held (run workers (Some to) events_to) schedule events name before is apart =
    let same : to ≡ name = cc in
    subst (λ (n : List ℕ). held_with (named_file to (schedule_file_of schedule) ∷ named_if events_to events) before n ≡ Some (schedule_file_of schedule)) same
    (held_first events_to (schedule_file_of schedule) events to before apart)
schedule_held (replay of) schedule events name before is apart = absurd cc

-- what was decided, where memory did not run out
decided : (seen : Seen) (t : Status) (k : Kept) (setup : Setup) → IsDecided t seen k → t ≢ status.NoMemory → setup_of seen.command k ≡ Ok setup → IsReportedOrRefused t seen k
decided seen t k setup (inl none) some is = absurd (some none)
decided seen t k setup (inr all) some is =
    subst (λ (r : Result Setup Status). MatchResult r (λ setup. IsReportedOrRefused t seen k) (λ refusal. t ≡ refusal)) is all

-- ---- a replay of what it kept

module _ (replays : ReplaysGiveTheSame) (fits : LegalSchedulesFit) (read_again : EachScheduleIsReadAgain) (files_short : FilesAreShort) (first second : Seen) (s t : Status) (ran replayed : Kept) (ended : EndsAs first s ran) (whole : IsReportedWhole s) (ended_again : EndsAs second t replayed) (again : IsReplayOf first second ran replayed) where
  abbrev report : IsReported s first ran
  report = reported first s ran ended whole

  abbrev results : Results
  results = report.0

  abbrev gives : Gives first.command ran results
  gives = report.1

  abbrev machine : Machine
  machine = gives.setup.machine

  abbrev image : MemoryImage
  image = gives.setup.image

  had : HasParts first.command ran gives.setup
  had = parts first.command ran gives.setup gives.is

  cores : ran.schedule.cores ≡ machine.cores
  cores = ok_and (λ (m : Machine). ran.schedule.cores ≡ m.cores) (machine_by ran.machine) machine had.machine (keeps_all first s ran ended whole).cores

  file_is_read : schedule_by machine (schedule_file_of ran.schedule) ≡ Ok ran.schedule
  file_is_read = is_read_again read_again files_short machine gives.sound ran.schedule results cores (fits machine image ran.schedule.lists results gives.run) gives.counted

  pub file_is_short : length (schedule_file_of ran.schedule) ≤ schedule_limit
  file_is_short = short_enough read_again files_short machine gives.sound ran.schedule results cores (fits machine image ran.schedule.lists results gives.run) gives.counted

  pub same_machine : machine_by replayed.machine ≡ Ok machine
  same_machine = ap machine_by again.machine ∙ had.machine

  pub same_image : image_by machine replayed.exe ≡ Ok image
  same_image = ap (image_by machine) again.exe ∙ had.image

  module _ (file : replayed.sched_file ≡ schedule_file_of ran.schedule) (no_file : ¬ FileFailed second.files) (no_put : ¬ PutFailed second.out) (some : t ≢ status.NoMemory) where
    abbrev setup : Setup
    setup = record { machine = machine; image = image; given = Some ran.schedule }

    setup_is : setup_of second.command replayed ≡ Ok setup
    setup_is = let read = ap (schedule_by machine) file ∙ file_is_read in rw (same_machine, same_image, again.task, read) refl

    same_setup : (other : Setup) → setup_of second.command replayed ≡ Ok other → other ≡ setup
    same_setup other is = let same : Ok other ≡ Ok setup = sym is ∙ setup_is in cc

    -- the run of another set of inputs is this one
    same_run : (other : Setup) → other ≡ setup → (lists : List (List ℕ)) → lists ≡ ran.schedule.lists → (found : Results) → IsRunOf other.machine other.image lists found → found ≡ results
    same_run other is lists lists_are found came =
        let here : IsRunOf machine image lists found = subst (λ (x : Setup). IsRunOf x.machine x.image lists found) is came in
        let there : IsRunOf machine image ran.schedule.lists found = subst (λ (ls : List (List ℕ)). IsRunOf machine image ls found) lists_are here in
        elim (replays machine image ran.schedule.lists results (Ok found) gives.run there) as (λ _. found ≡ results) [
          | inl same ↦ cc
          | inr none ↦ cc
        ]

    not_illegal : (other : Setup) → other ≡ setup → (lists : List (List ℕ)) → lists ≡ ran.schedule.lists → (at : Illegal) → IsIllegalAt other.machine other.image lists at → ⊥
    not_illegal other is lists lists_are at illegal =
        let here : IsIllegalAt machine image lists at = subst (λ (x : Setup). IsIllegalAt x.machine x.image lists at) is illegal in
        let there : IsIllegalAt machine image ran.schedule.lists at = subst (λ (ls : List (List ℕ)). IsIllegalAt machine image ls at) lists_are here in
        elim (replays machine image ran.schedule.lists results (Err (fail.Illegal at.interval at.place)) gives.run there) as (λ _. ⊥) [
          | inl same ↦ cc
          | inr none ↦ cc
        ]

    lists_of : (given : Option ScheduleState) → given ≡ Some ran.schedule → (kept : ScheduleState) (InOrder : Type 0) → MatchOption given InOrder (λ schedule. kept ≡ schedule) → kept.lists ≡ ran.schedule.lists
    lists_of None is kept InOrder same = cc
    lists_of (Some schedule) is kept InOrder same =
        let these : schedule ≡ ran.schedule = cc in
        ap (λ (l : ScheduleState). l.lists) (same ∙ these)

    repeats : IsReportedOrRefused t second replayed → IsRepeated first second s t
    repeats (inl done) =
        let now = done.0 in
        let found = now.0 in
        let run = now.1 in
        let same = same_setup run.setup run.is in
        let lists = lists_of run.setup.given (ap (λ (x : Setup). x.given) same) replayed.schedule (IsKeptInOrder run.setup.machine run.setup.image replayed.schedule.lists) run.schedule in
        let equal : found ≡ results = same_run run.setup same replayed.schedule.lists lists found run.run in
        let texts : report_of run.setup.machine second.command.brief found ≡ report_of machine first.command.brief results = rw (same, again.brief, equal) refl in
        record {
          status = now.3 ∙ ap (λ (r : Results). status_at r.limit) equal ∙ sym report.3;
          text = report_of machine first.command.brief results;
          reported = report.4;
          repeated = subst (Gained second.out) texts now.4;
        }
    repeats (inr (inl (at, is, refused))) =
        let same = same_setup refused.setup refused.is in
        let given : refused.setup.given ≡ Some ran.schedule = ap (λ (x : Setup). x.given) same in
        let these : Some replayed.schedule ≡ Some ran.schedule = sym refused.given ∙ given in
        let lists : replayed.schedule.lists ≡ ran.schedule.lists = cc in
        absurd (not_illegal refused.setup same replayed.schedule.lists lists at refused.illegal)
    repeats (inr (inr (is, (r, gives_again, long)))) =
        let none : events_name second.command.task ≡ None = ap events_name again.task in
        absurd (subst (λ (name : Option (List ℕ)). IsSomeAnd name (λ n. events_limit < length gives_again.events)) none long)

    pub repeated : IsRepeated first second s t
    repeated = repeats (decided second t replayed setup (ended_again.complete no_file no_put) some setup_is)

  -- ---- a replay of what it wrote

  -- the schedule's file was read
  file_by_limit : (limit : Bool) → EndsAs second (status_at limit) replayed → IsScheduleFile second.files second.command.task replayed.sched_file
  file_by_limit true e = e.kept.sched_file
  file_by_limit false e = e.kept.sched_file

  module _ (no_file : ¬ FileFailed second.files) (no_put : ¬ PutFailed second.out) (some : t ≢ status.NoMemory) where
    file_where_done : IsReportedOrRefused t second replayed → IsScheduleFile second.files second.command.task replayed.sched_file
    file_where_done (inl done) =
        let now = done.0 in
        file_by_limit now.0.limit (subst (λ (x : Status). EndsAs second x replayed) now.3 ended_again)
    file_where_done (inr (inl (at, is, refused))) =
        let e : EndsAs second (status.BadSchedule (fault.Illegal at.interval at.place)) replayed = subst (λ (x : Status). EndsAs second x replayed) is ended_again in
        e.kept.sched_file
    file_where_done (inr (inr (is, (r, gives_again, long)))) =
        let e : EndsAs second (status.TooLong which.Events) replayed = subst (λ (x : Status). EndsAs second x replayed) is ended_again in
        e.kept.sched_file

    file_where_refused : (refusal : Status) → schedule_by machine replayed.sched_file ≡ Err refusal → EndsAs second refusal replayed
        → IsScheduleFile second.files second.command.task replayed.sched_file
    file_where_refused refusal is ended =
        schedule_refuses (λ (x : Status). EndsAs second x replayed → IsScheduleFile second.files second.command.task replayed.sched_file)
        (λ e. e.kept.sched_file)
        (λ bad e. e.kept.sched_file)
        machine replayed.sched_file refusal is ended

    file_was_read : (found : Result ScheduleState Status) → schedule_by machine replayed.sched_file ≡ found → IsScheduleFile second.files second.command.task replayed.sched_file
    file_was_read (Ok schedule) is =
        let setup : Setup = record { machine = machine; image = image; given = Some schedule } in
        let setup_is : setup_of second.command replayed ≡ Ok setup = rw (same_machine, same_image, again.task, is) refl in
        file_where_done (decided second t replayed setup (ended_again.complete no_file no_put) some setup_is)
    file_was_read (Err refusal) is =
        let setup_is : setup_of second.command replayed ≡ Err refusal = rw (same_machine, same_image, again.task, is) refl in
        let by : IsDecided t second replayed → t ≡ refusal = λ d. elim d as (λ _. t ≡ refusal) [
          | inl none ↦ absurd (some none)
          | inr all ↦ subst (λ (r : Result Setup Status). MatchResult r (λ setup. IsReportedOrRefused t second replayed) (λ refusal. t ≡ refusal)) setup_is all
        ]
        in
        file_where_refused refusal is (subst (λ (x : Status). EndsAs second x replayed) (by (ended_again.complete no_file no_put)) ended_again)

    -- it held what was written
    same_file : (given : IsGivenTheRecord first second again.name) → replayed.sched_file ≡ schedule_file_of ran.schedule
    same_file given =
        let read : WasRead second.files again.name schedule_limit replayed.sched_file = subst (λ (task : Task). IsScheduleFile second.files task replayed.sched_file) again.task (file_was_read (schedule_by machine replayed.sched_file) refl) in
        let outputs = recorded first s ran ended whole in
        let held : second.files.held_before again.name ≡ Some (schedule_file_of ran.schedule) =
        given.holds ∙ outputs.2 given.first_tells given.recorded
        ∙ schedule_held first.command.task ran.schedule outputs.1.events given.recorded (first.files.held_before given.recorded) given.record_to given.apart
        in
        let all : take (schedule_limit + 1) (schedule_file_of ran.schedule) ≡ schedule_file_of ran.schedule = take_all (schedule_limit + 1) (schedule_file_of ran.schedule) (omega (arith, file_is_short)) in
        let found : Some (schedule_file_of ran.schedule) ≡ Some replayed.sched_file =
        ap Some (sym all) ∙ ap (option_map (take (schedule_limit + 1))) (sym held) ∙ read.held given.second_tells
        in
        cc

    pub repeated_by_file : IsGivenTheRecord first second again.name → IsRepeated first second s t
    repeated_by_file given = repeated (same_file given) no_file no_put some
