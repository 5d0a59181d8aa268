use Rattle.std.proofs.Common.{ap, ◌∙◌, option_map, rules}
use Rattle.std.specs.Prelude.{map, string_bytes}
use Rattle.clap.specs.Words.{found_of, rows_of}
use Rattle.zsim.specs.CommandLine.{check, checking_of}
use Rattle.zsim.specs.Options.{check_options}
use Rattle.zsim.proofs.MatchedCommands.{none_matched, some_matched}
use Rattle.zsim.proofs.command_line.command_after_check.Goals as goal

pub returns-in-Some : goal.returns-in-Some
returns-in-Some c =
    c.check.ensures
    ∙ ap (option_map check) (some_matched (λ m. rows_of (found_of m)) check_options checking_of (map string_bytes c.args.words.now) _ c.in_ok-matches.field-0 c.in-Some.matches _
    c.in_ok-check_options.ensures.options c.in_ok-matches.ensures (search rules) c.checking_of.ensures)

pub returns-in-None : goal.returns-in-None
returns-in-None c =
    ap (option_map check) (none_matched (λ m. rows_of (found_of m)) check_options checking_of (map string_bytes c.args.words.now) _ c.in_ok-matches.field-0
    c.in_ok-check_options.ensures.options c.in_ok-matches.ensures (search rules))
