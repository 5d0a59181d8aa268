use Rattle.shard.proofs.StandsForRuns.{entries_are_of_one_machine}
use Rattle.shard.proofs.laws.entries_are_of_one_machine.Goals as goal

pub returns : goal.returns
returns c = entries_are_of_one_machine
