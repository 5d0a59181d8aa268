use Rattle.shard.proofs.StandsForRuns.{new_shards_are_one_machine}
use Rattle.shard.proofs.laws.new_shards_are_one_machine.Goals as goal

pub returns : goal.returns
returns c = new_shards_are_one_machine
