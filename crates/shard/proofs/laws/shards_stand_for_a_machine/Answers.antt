use Rattle.shard.proofs.StandsForStep.{shards_stand}
use Rattle.shard.proofs.laws.shards_stand_for_a_machine.Goals as goal

pub returns : goal.returns
returns c = shards_stand
