-- The words after `run`, `replay` and `check` as `clap` reads them: two positional words and the options of the command.
use Rattle.std.specs.Prelude.{true, if◌then◌else◌, List, codes, Option, Some, None}
use Rattle.clap.specs.declared.builder.action.ArgAction.TheVariants.{SetTrue}
use Rattle.clap.specs.Simple.{on_top}
use Rattle.clap.specs.Walk.{is_empty}
use Rattle.clap.specs.Words.{App, Row, Rule, Text, fault_of, matches_of, new_app, new_rule, with_rule}

-- a word that has no name, and has to be there
abbrev pub positional : Text → Rule
positional name = record (new_rule name) { required = true }

-- `--name VALUE`
abbrev pub option : Text → Rule
option name = record (new_rule name) { long = Some name }

-- `--name VALUE`, which has to be there
abbrev pub needed_option : Text → Rule
needed_option name = record (option name) { required = true }

-- `--name`
abbrev pub flag : Text → Rule
flag name = record (option name) { action = Some SetTrue }

-- no words yet; the first is not the program's name, and none asks for help
abbrev pub no_options : App
no_options = on_top (λ s. record s { no_binary_name = true; disable_help_flag = true }) (new_app (codes "zsim"))

-- the machine and the executable
abbrev pub inputs : App
inputs = with_rule (with_rule no_options (positional (codes "machine"))) (positional (codes "exe"))

unfoldable pub run_options : App
run_options = with_rule (with_rule (with_rule (with_rule inputs (option (codes "workers"))) (option (codes "record"))) (option (codes "events"))) (flag (codes "brief"))

unfoldable pub replay_options : App
replay_options = with_rule (with_rule inputs (needed_option (codes "schedule"))) (flag (codes "brief"))

-- the machine and the file of the events
unfoldable pub check_options : App
check_options = with_rule (with_rule no_options (positional (codes "machine"))) (positional (codes "events"))

-- what `clap` matches with the options: a row for each that has a value, or None where the words do not fit
abbrev pub matched_by : App → List Text → Option (List Row)
matched_by options words = if is_empty (fault_of options words) then Some (matches_of options words) else None
