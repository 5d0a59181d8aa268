use Rattle.std.proofs.Common.{ap, ◌∙◌, option_map, rules}
use Rattle.std.specs.Prelude.{map, string_bytes}
use Rattle.clap.specs.Words.{found_of, rows_of}
use Rattle.zsim.specs.CommandLine.{execute, execution_by, replay_of}
use Rattle.zsim.specs.Options.{replay_options}
use Rattle.zsim.proofs.MatchedCommands.{none_matched, some_matched}
use Rattle.zsim.proofs.command_line.command_after_replay.Goals as goal

pub returns-in-Some : goal.returns-in-Some
returns-in-Some c =
    c.execute.ensures
    ∙ ap (option_map execute) (some_matched (λ m. rows_of (found_of m)) replay_options (λ rows. execution_by rows (replay_of rows)) (map string_bytes c.args.words.now) _ c.in_ok-matches.field-0 c.in-Some.matches _
    c.in_ok-replay_options.ensures.options c.in_ok-matches.ensures (search rules) (c.execution_by.ensures ∙ ap (execution_by _) c.replay_of.ensures))

pub returns-in-None : goal.returns-in-None
returns-in-None c =
    ap (option_map execute) (none_matched (λ m. rows_of (found_of m)) replay_options (λ rows. execution_by rows (replay_of rows)) (map string_bytes c.args.words.now) _ c.in_ok-matches.field-0
    c.in_ok-replay_options.ensures.options c.in_ok-matches.ensures (search rules))
