-- What a call saw of the world outside it: files by name and streams that take bytes, before and after it.
use Rattle.std.specs.Prelude.{◌≡◌, ℕ, ◌+◌, ◌<◌, ◌≤◌, Bool, IsTrue, List, ◌++◌, length, take, Option, Some, None}
use Rattle.std.specs.Option.{option_map}
use Rattle.zs_host.specs.Faults.{Rose}
use Rattle.zs_host.specs.declared.fault.Fault.{Fault}
use Rattle.zs_host.specs.declared.fault.Operation.TheVariants.{Read, Write}

pub record FilesSeen : Type 0 where
  -- whether they tell what their names hold
  pub is_seen : Bool
  -- the bytes that each name held, if it was there
  pub held_before : List ℕ → Option (List ℕ)
  pub held_after : List ℕ → Option (List ℕ)
  -- how many calls on them had failed
  pub faults_before : ℕ
  pub faults_after : ℕ
  -- the latest that had
  pub latest_before : Option Fault
  pub latest_after : Option Fault

pub record SinkSeen : Type 0 where
  -- whether contracts see which bytes it took
  pub is_seen : Bool
  pub bytes_before : List ℕ
  pub bytes_after : List ℕ
  -- how many puts had failed
  pub faults_before : ℕ
  pub faults_after : ℕ

-- what files of any type tell before and after a call
abbrev pub files_seen : {F : Type 0} → (is_seen : Bool) → (contents : F → List ℕ → Option (List ℕ)) → (faults : F → ℕ) → (latest : F → Option Fault) → (before after : F) → FilesSeen
files_seen is_seen contents faults latest before after = record {
  is_seen = is_seen;
  held_before = contents before;
  held_after = contents after;
  faults_before = faults before;
  faults_after = faults after;
  latest_before = latest before;
  latest_after = latest after;
}

-- what is seen of a stream of any type before and after a call
abbrev pub sink_seen : {S : Type 0} → (is_seen : Bool) → (bytes : S → List ℕ) → (faults : S → ℕ) → (before after : S) → SinkSeen
sink_seen is_seen bytes faults before after = record {
  is_seen = is_seen;
  bytes_before = bytes before;
  bytes_after = bytes after;
  faults_before = faults before;
  faults_after = faults after;
}

-- no name changed
abbrev pub SameNames : FilesSeen → Type 0
SameNames files = IsTrue files.is_seen → (name : List ℕ) → files.held_after name ≡ files.held_before name

-- no call on the files failed
pub record NoFileFailed (files : FilesSeen) : Type 0 where
  pub faults : files.faults_after ≡ files.faults_before
  pub latest : files.latest_after ≡ files.latest_before

-- a call on the files failed: their count rose, or it stands at its last value
abbrev pub FileFailed : FilesSeen → Type 0
FileFailed files = Rose files.faults_before files.faults_after

-- a call on the files failed, and the latest that did was to read this name
pub record FailedToRead (files : FilesSeen) (name : List ℕ) : Type 0 where
  pub failed : FileFailed files
  pub latest : files.latest_after ≡ Some (record { operation = Read; name = name })

-- a call on the files failed, and the latest that did was to write to this name
pub record FailedToWrite (files : FilesSeen) (name : List ℕ) : Type 0 where
  pub failed : FileFailed files
  pub latest : files.latest_after ≡ Some (record { operation = Write; name = name })

-- these are the first bytes that the name held, up to a limit and one byte more
pub record WasRead (files : FilesSeen) (name : List ℕ) (limit : ℕ) (bytes : List ℕ) : Type 0 where
  pub held : IsTrue files.is_seen → option_map (take (limit + 1)) (files.held_before name) ≡ Some bytes
  pub most : length bytes ≤ limit + 1

-- the file of an input was asked for, and could not be read; an input without a file is not
abbrev pub FailedToReadInput : FilesSeen → Option (List ℕ) → Type 0
FailedToReadInput files None = ⊥
FailedToReadInput files (Some name) = FailedToRead files name

-- no put failed
abbrev pub NoPutFailed : SinkSeen → Type 0
NoPutFailed sink = sink.faults_after ≡ sink.faults_before

-- a put failed: the count rose, or it stands at its last value
abbrev pub PutFailed : SinkSeen → Type 0
PutFailed sink = Rose sink.faults_before sink.faults_after

-- the stream gained nothing
abbrev pub GainedNothing : SinkSeen → Type 0
GainedNothing sink = IsTrue sink.is_seen → sink.bytes_after ≡ sink.bytes_before

-- the stream gained all of these bytes
abbrev pub Gained : SinkSeen → List ℕ → Type 0
Gained sink bytes = IsTrue sink.is_seen → sink.bytes_after ≡ sink.bytes_before ++ bytes

-- the stream gained the first of these bytes, and not all
abbrev pub GainedPrefix : SinkSeen → List ℕ → Type 0
GainedPrefix sink whole = IsTrue sink.is_seen → (n : ℕ) × (n < length whole) × (sink.bytes_after ≡ sink.bytes_before ++ take n whole)
