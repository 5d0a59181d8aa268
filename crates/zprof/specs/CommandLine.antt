-- The command that a list of words stands for. The words are those after the program's name, as bytes.
use Rattle.std.specs.Prelude.{ℕ, ◌^◌, nat_le, nat_lt, ◌&&◌, Bool, false, if◌then◌else◌, List, [], ◌∷◌, codes, Option, Some, None, option_and_then}
use Rattle.std.specs.Option.{option_map_or}
use Rattle.std.specs.Str.{bytes_eq}
use Rattle.clap.specs.Words.{Row, first_of}
use Rattle.zsim.specs.CommandLine.{Exe, decimal_of, exe_of, machine_file_of}
use Rattle.zsim.specs.Options.{matched_by}
use Rattle.zprof.specs.Options.{profile_options}

-- a run is to be looked at
pub record Profiling : Type 0 where
  -- the name of the machine's file, or None for the built-in machine
  pub machine : Option (List ℕ)
  pub exe : Exe
  -- the name of the schedule's file, or None for the order core after core
  pub schedule : Option (List ℕ)
  -- the name of the folder of the files
  pub folder : List ℕ
  -- what was counted of an instruction is told by core
  pub separate : Bool
  -- how many intervals a row of the series has
  pub every : ℕ
  -- only the summary is reported
  pub brief : Bool

-- the name of the folder, which is not empty
unfoldable pub folder_of : List ℕ → Option (List ℕ)
folder_of [] = None
folder_of (byte ∷ bytes) = Some (byte ∷ bytes)

-- one at least, and below 2^32, as intervals are
abbrev pub from_1 : ℕ → Option ℕ
from_1 n = if nat_le 1 n && nat_lt n (2 ^ 32) then Some n else None

-- how many intervals a row has, which is 1 where nothing is said
unfoldable pub every_of : Option (List ℕ) → Option ℕ
every_of None = Some 1
every_of (Some word) = option_and_then from_1 (decimal_of word)

-- the option was given, which takes no value
abbrev pub is_given : Option (List ℕ) → Bool
is_given given = option_map_or (bytes_eq (codes "true")) given false

abbrev pub profiling_with : (machine : Option (List ℕ)) → Option Exe → (folder : Option (List ℕ)) → (every : Option ℕ) → (schedule separate brief : Option (List ℕ)) → Option Profiling
profiling_with (Some machine) (Some exe) (Some folder) (Some every) schedule separate brief = Some (record {
  machine = machine_file_of machine;
  exe = exe;
  schedule = schedule;
  folder = folder;
  separate = is_given separate;
  every = every;
  brief = is_given brief;
})
profiling_with _ _ _ _ schedule separate brief = None

-- what the matched words ask for, where their values are well formed
unfoldable pub profiling_of : List Row → Option Profiling
profiling_of rows =
    profiling_with (first_of (codes "machine") rows) (option_and_then exe_of (first_of (codes "exe") rows)) (option_and_then folder_of (first_of (codes "out") rows))
    (every_of (first_of (codes "every") rows)) (first_of (codes "schedule") rows) (first_of (codes "separate-cores") rows) (first_of (codes "brief") rows)

-- the command that the words are, if they are one
abbrev pub command_of : List (List ℕ) → Option Profiling
command_of words = option_and_then profiling_of (matched_by profile_options words)
