-- Words without a leading hyphen go where they stand.
use Rattle.zsim.proofs.PlainWords.{check_is, plain, replay_is, run_is}
use Rattle.zsim.proofs.laws.plain_words_are_commands.Goals as goal

pub returns-clause-run : goal.returns-clause-run
returns-clause-run c = λ machine exe first second. run_is machine exe (plain machine first) (plain exe second)

pub returns-clause-replay : goal.returns-clause-replay
returns-clause-replay c = λ machine exe schedule first second third. replay_is machine exe schedule (plain machine first) (plain exe second) (plain schedule third)

pub returns-clause-check : goal.returns-clause-check
returns-clause-check c = λ machine events first second. check_is machine events (plain machine first) (plain events second)
