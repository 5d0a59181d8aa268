-- The files that a run writes, one after the other, and what names hold after that.
use Rattle.std.specs.Prelude.{◌≡◌, ◌⊎◌, ℕ, if◌then◌else◌, IsTrue, List, [], ◌∷◌, ◌++◌, take, Option, Some, None}
use Rattle.std.specs.Str.{bytes_eq}
use Rattle.access_log.specs.Schedule.{ScheduleState}
use Rattle.schedule_file.specs.ScheduleFile.{schedule_file_of}
use Rattle.zsim.specs.CommandLine.{Task, replay, run}
use Rattle.zsim.specs.Seen.{FilesSeen}

-- a file that is to be written
pub record NamedFile : Type 0 where
  pub name : List ℕ
  pub bytes : List ℕ

abbrev pub named_file : (name bytes : List ℕ) → NamedFile
named_file name bytes = record { name = name; bytes = bytes }

-- what a name holds after these files were written, one after the other, if it held this before
abbrev pub held_with : List NamedFile → (before : Option (List ℕ)) → (name : List ℕ) → Option (List ℕ)
held_with [] before name = before
held_with (f ∷ fs) before name = held_with fs (if bytes_eq name f.name then Some f.bytes else before) name

-- each name holds what it held, or what these files made it hold
abbrev pub HoldsWith : FilesSeen → List NamedFile → Type 0
HoldsWith files outputs = (name : List ℕ) → files.held_after name ≡ held_with outputs (files.held_before name) name

-- these were written, and no other name changed
abbrev pub WereWritten : FilesSeen → List NamedFile → Type 0
WereWritten files outputs = IsTrue files.is_seen → HoldsWith files outputs

-- The writing was cut short: the first of these were written, the one behind them holds what it held or the first of
-- its bytes, and no other name changed.
pub record WereCut (files : FilesSeen) (outputs : List NamedFile) : Type 0 where
  pub done : List NamedFile
  pub cut : NamedFile
  pub rest : List NamedFile
  pub are : outputs ≡ done ++ cut ∷ rest
  pub held : IsTrue files.is_seen → HoldsWith files done ⊎ ((n : ℕ) × HoldsWith files (done ++ named_file cut.name (take n cut.bytes) ∷ []))

-- a file where it is named
abbrev pub named_if : Option (List ℕ) → (bytes : List ℕ) → List NamedFile
named_if None bytes = []
named_if (Some name) bytes = named_file name bytes ∷ []

-- what is written beside the report: the schedule of a run, and behind it the run's events, where files are named
abbrev pub outputs_of : Task → ScheduleState → (events : List ℕ) → List NamedFile
outputs_of (run workers record_to events_to) schedule events = named_if record_to (schedule_file_of schedule) ++ named_if events_to events
outputs_of (replay name) schedule events = []
