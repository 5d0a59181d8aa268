use Rattle.shard.proofs.StandsForStart.{new_shards_stand}
use Rattle.shard.proofs.laws.new_shards_stand.Goals as goal

pub returns : goal.returns
returns c = new_shards_stand
