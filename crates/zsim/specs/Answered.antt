-- What a call answers whose words are a command.
use Rattle.std.specs.Prelude.{◌≡◌, []}
use Rattle.reference.specs.Results.{Results}
use Rattle.zsim.specs.declared.ended.Kept.{Kept}
use Rattle.zsim.specs.declared.ended.Status.{Status}
use Rattle.zsim.specs.Checked.{ChecksAs, IsYes}
use Rattle.zsim.specs.CommandLine.{Command, check, execute}
use Rattle.zsim.specs.Ended.{EndsAs, Gives}
use Rattle.zsim.specs.Seen.{FilesSeen, SinkSeen}

-- How a call ended whose words are this command, as its files and standard output were seen. A run and a replay read no
-- events.
abbrev pub Answers : Command → FilesSeen → SinkSeen → Status → Kept → Type 0
Answers (execute command) files out s k = EndsAs (record { command = command; files = files; out = out }) s k × (k.events ≡ [])
Answers (check command) files out s k = ChecksAs (record { command = command; files = files; out = out }) s k

-- a run has come to its end, or a verdict to yes
abbrev pub HasCome : Command → Kept → Type 0
HasCome (execute command) kept = (r : Results) × Gives command kept r
HasCome (check command) kept = IsYes kept
