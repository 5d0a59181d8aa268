-- The command that a list of words stands for. The words are those after the program's name, as bytes.
use Rattle.std.specs.Prelude.{ℕ, ◌^◌, nat_eq, nat_le, nat_lt, Bool, false, not, ◌&&◌, ◌||◌, if◌then◌else◌, List, [], ◌∷◌, drop, codes, Option, Some, None, option_map, option_and_then}
use Rattle.std.specs.Char.{is_ascii_digit}
use Rattle.std.specs.List.{list_all, starts_with}
use Rattle.std.specs.Option.{option_map_or}
use Rattle.std.specs.Str.{bytes_eq}
use Rattle.std.specs.Str.Parse.{digits_value}
use Rattle.clap.specs.Walk.{is_empty}
use Rattle.clap.specs.Words.{App, Row, first_of}
use Rattle.zsim.specs.Options.{check_options, matched_by, replay_options, run_options}

-- what is to be executed: a file of this name, or the program that the generator makes of a number
pub data Exe : Type 0 where
  file : List ℕ → Exe
  generated : ℕ → Exe

-- what is to be done with the executable
pub data Task : Type 0 where
  -- It is run, by so many threads. The schedule of the run may be written to a file, and its events to another.
  run : (workers : ℕ) → (record_to events_to : Option (List ℕ)) → Task
  -- it is run under the schedule of the file of this name
  replay : (schedule : List ℕ) → Task

-- An executable is run or replayed. The number of threads has no part in what is answered.
pub record Execution : Type 0 where
  -- the name of the machine's file, or None for the built-in machine
  pub machine : Option (List ℕ)
  pub exe : Exe
  pub task : Task
  -- only the summary is reported
  pub brief : Bool

-- the events of a file are checked
pub record Checking : Type 0 where
  -- the name of the machine's file, or None for the built-in machine
  pub machine : Option (List ℕ)
  -- the name of the file of the events
  pub events : List ℕ

-- what the words ask for
pub data Command : Type 0 where
  execute : Execution → Command
  check : Checking → Command

-- decimal digits, without a leading zero
unfoldable pub is_decimal : List ℕ → Bool
is_decimal word =
    not (is_empty word) && (list_all is_ascii_digit word && (bytes_eq word (codes "0") || not (starts_with nat_eq word (codes "0"))))

-- the number below 2^64 that a word writes
unfoldable pub decimal_of : List ℕ → Option ℕ
decimal_of word = if is_decimal word && nat_lt (digits_value 10 word) (2 ^ 64) then Some (digits_value 10 word) else None

-- the name of the machine's file, where the word is not that of the built-in machine
unfoldable pub machine_file_of : List ℕ → Option (List ℕ)
machine_file_of word = if bytes_eq word (codes "plain") then None else Some word

-- `gen:N`, or the name of a file
unfoldable pub exe_of : List ℕ → Option Exe
exe_of word = if starts_with nat_eq word (codes "gen:") then option_map generated (decimal_of (drop 4 word)) else Some (file word)

-- from 1 to 64
abbrev pub up_to_64 : ℕ → Option ℕ
up_to_64 n = if nat_le 1 n && nat_le n 64 then Some n else None

-- the number of workers, which is 1 where none is given
unfoldable pub workers_of : Option (List ℕ) → Option ℕ
workers_of None = Some 1
workers_of (Some word) = option_and_then up_to_64 (decimal_of word)

-- whether two names are there and the same
abbrev pub is_one_name : Option (List ℕ) → Option (List ℕ) → Bool
is_one_name (Some a) (Some b) = bytes_eq a b
is_one_name _ _ = false

-- a run whose schedule and events do not go to one file
abbrev pub run_to : (record_to events_to : Option (List ℕ)) → (workers : ℕ) → Option Task
run_to record_to events_to workers = if is_one_name record_to events_to then None else Some (run workers record_to events_to)

-- a run has a number of workers, and the names of files for its schedule and its events where they are given
abbrev pub run_of : List Row → Option Task
run_of rows = option_and_then (run_to (first_of (codes "record") rows) (first_of (codes "events") rows)) (workers_of (first_of (codes "workers") rows))

abbrev pub replay_of : List Row → Option Task
replay_of rows = option_map replay (first_of (codes "schedule") rows)

abbrev pub execution_with : (machine : Option (List ℕ)) → Option Exe → Option Task → (brief : Option (List ℕ)) → Option Execution
execution_with (Some machine) (Some exe) (Some task) brief = Some (record {
  machine = machine_file_of machine;
  exe = exe;
  task = task;
  brief = option_map_or (bytes_eq (codes "true")) brief false;
})
execution_with _ _ _ brief = None

-- what the matched words ask for beside a task, where their values are well formed
unfoldable pub execution_by : List Row → Option Task → Option Execution
execution_by rows task =
    execution_with (first_of (codes "machine") rows) (option_and_then exe_of (first_of (codes "exe") rows)) task (first_of (codes "brief") rows)

-- the execution that words ask for which `clap` is to match with these options
abbrev pub execution_after : App → (task_of : List Row → Option Task) → List (List ℕ) → Option Execution
execution_after options task_of words = option_and_then (λ rows. execution_by rows (task_of rows)) (matched_by options words)

abbrev pub checking_with : (machine events : Option (List ℕ)) → Option Checking
checking_with (Some machine) (Some events) = Some (record { machine = machine_file_of machine; events = events })
checking_with _ _ = None

-- the check that the words after `check` ask for
abbrev pub checking_of : List Row → Option Checking
checking_of rows = checking_with (first_of (codes "machine") rows) (first_of (codes "events") rows)

abbrev pub checking_after : List (List ℕ) → Option Checking
checking_after words = option_and_then checking_of (matched_by check_options words)

-- the command that the words are, if they are one
unfoldable pub command_of : List (List ℕ) → Option Command
command_of [] = None
command_of (verb ∷ words) =
    if bytes_eq verb (codes "run") then option_map execute (execution_after run_options run_of words)
    else if bytes_eq verb (codes "replay") then option_map execute (execution_after replay_options replay_of words)
    else if bytes_eq verb (codes "check") then option_map check (checking_after words)
    else None

-- the name of the executable's file, if it has one
abbrev pub exe_file : Exe → Option (List ℕ)
exe_file (file name) = Some name
exe_file (generated n) = None

-- the name of the file to which the schedule of a run is to be written
abbrev pub record_name : Task → Option (List ℕ)
record_name (run workers record_to events_to) = record_to
record_name (replay schedule) = None

-- the name of the file of the schedule that is replayed
abbrev pub schedule_name : Task → Option (List ℕ)
schedule_name (run workers record_to events_to) = None
schedule_name (replay schedule) = Some schedule

-- the name of the file to which the events of a run are to be written
abbrev pub events_name : Task → Option (List ℕ)
events_name (run workers record_to events_to) = events_to
events_name (replay schedule) = None
