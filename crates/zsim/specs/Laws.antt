-- What is true of all words, and of all calls.
use Rattle.std.specs.Prelude.{◌≡◌, ◌≢◌, ◌⊎◌, IsTrue, false, nat_eq, ℕ, List, [], ◌∷◌, codes, Some, None}
use Rattle.std.specs.List.{starts_with}
use Rattle.std.specs.Option.{option_map}
use Rattle.schedule_file.specs.ScheduleFile.{schedule_file_of}
use Rattle.zsim.specs.declared.ended.Kept.{Kept}
use Rattle.zsim.specs.declared.ended.Status.{Status}
use Rattle.zsim.specs.declared.ended.Status.TheVariants as status
use Rattle.zsim.specs.CommandLine.{Execution, check, command_of, events_name, exe_of, execute, is_one_name, machine_file_of, record_name, replay, run}
use Rattle.zsim.specs.Ended.{EndsAs, Seen}
use Rattle.zsim.specs.Seen.{FileFailed, Gained, PutFailed}

-- ---- words

-- the word does not begin with a hyphen
abbrev pub HasNoHyphen : List ℕ → Type 0
HasNoHyphen word = starts_with nat_eq word (codes "-") ≡ false

-- `run M E` runs an executable by one worker, and reports all.
abbrev pub PlainRunsAreCommands : Type 0
PlainRunsAreCommands = (machine exe : List ℕ) → HasNoHyphen machine → HasNoHyphen exe
    → command_of (codes "run" ∷ machine ∷ exe ∷ []) ≡ option_map (λ e. execute (record { machine = machine_file_of machine; exe = e; task = run 1 None None; brief = false })) (exe_of exe)

-- `replay M E --schedule S` runs it under the schedule of a file.
abbrev pub PlainReplaysAreCommands : Type 0
PlainReplaysAreCommands = (machine exe schedule : List ℕ) → HasNoHyphen machine → HasNoHyphen exe → HasNoHyphen schedule
    → command_of (codes "replay" ∷ machine ∷ exe ∷ codes "--schedule" ∷ schedule ∷ []) ≡ option_map (λ e. execute (record { machine = machine_file_of machine; exe = e; task = replay schedule; brief = false })) (exe_of exe)

-- `check M V` checks the events of a file on a machine.
abbrev pub PlainChecksAreCommands : Type 0
PlainChecksAreCommands = (machine events : List ℕ) → HasNoHyphen machine → HasNoHyphen events
    → command_of (codes "check" ∷ machine ∷ events ∷ []) ≡ Some (check (record { machine = machine_file_of machine; events = events }))

-- No command writes the schedule and the events to one file.
abbrev pub OutputsAreApart : Type 0
OutputsAreApart = (words : List (List ℕ)) (e : Execution) → command_of words ≡ Some (execute e)
    → is_one_name (record_name e.task) (events_name e.task) ≡ false

-- ---- replays

-- the second call was given the machine and the executable of the first, and a schedule, and reports as briefly
pub record IsReplayOf (first second : Seen) (ran replayed : Kept) : Type 0 where
  -- the name of the schedule's file
  pub name : List ℕ
  pub task : second.command.task ≡ replay name
  pub brief : second.command.brief ≡ first.command.brief
  pub machine : replayed.machine ≡ ran.machine
  pub exe : replayed.exe ≡ ran.exe

-- the first call wrote the file of its schedule, and the file of the second's held that before the call
pub record IsGivenTheRecord (first second : Seen) (name : List ℕ) : Type 0 where
  -- the name to which the first wrote
  pub recorded : List ℕ
  pub record_to : record_name first.command.task ≡ Some recorded
  -- the events did not go there
  pub apart : is_one_name (record_name first.command.task) (events_name first.command.task) ≡ false
  pub first_tells : IsTrue first.files.is_seen
  pub second_tells : IsTrue second.files.is_seen
  pub holds : second.files.held_before name ≡ first.files.held_after recorded

-- both calls ended in the same way, and wrote the same bytes to standard output
pub record IsRepeated (first second : Seen) (s t : Status) : Type 0 where
  pub status : t ≡ s
  pub text : List ℕ
  pub reported : Gained first.out text
  pub repeated : Gained second.out text

-- the report was written
abbrev pub IsReportedWhole : Status → Type 0
IsReportedWhole s = (s ≡ status.Ran) ⊎ (s ≡ status.Limit)

-- A replay under the schedule that a run kept repeats the run, unless a file or a put fails or memory runs out.
abbrev pub ReplaysRepeatRuns : Type 0
ReplaysRepeatRuns = (first second : Seen) (s t : Status) (ran replayed : Kept)
    → EndsAs first s ran → IsReportedWhole s → EndsAs second t replayed → IsReplayOf first second ran replayed → replayed.sched_file ≡ schedule_file_of ran.schedule
    → ¬ FileFailed second.files → ¬ PutFailed second.out → t ≢ status.NoMemory → IsRepeated first second s t

-- And so does a replay of the file that the run wrote.
abbrev pub RecordsAreReplayed : Type 0
RecordsAreReplayed = (first second : Seen) (s t : Status) (ran replayed : Kept)
    → EndsAs first s ran → IsReportedWhole s → EndsAs second t replayed → (replays : IsReplayOf first second ran replayed) → IsGivenTheRecord first second replays.name
    → ¬ FileFailed second.files → ¬ PutFailed second.out → t ≢ status.NoMemory → IsRepeated first second s t
