-- The words of a profile as `clap` reads them: those of a replay, and the options of the profile.
use Rattle.std.specs.Prelude.{codes}
use Rattle.clap.specs.Words.{App, with_rule}
use Rattle.zsim.specs.Options.{flag, inputs, needed_option, option}

-- the schedule need not be there, and the folder has to
abbrev pub with_files : App
with_files = with_rule (with_rule inputs (option (codes "schedule"))) (needed_option (codes "out"))

unfoldable pub profile_options : App
profile_options = with_rule (with_rule (with_rule with_files (flag (codes "separate-cores"))) (option (codes "every"))) (flag (codes "brief"))
