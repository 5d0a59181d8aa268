use Rattle.shard.proofs.HomesAndL1s.NewPartsSeen.{new_parts_are_shards}
use Rattle.shard.proofs.laws.new_parts_are_shards.Goals as goal

pub returns : goal.returns
returns c = new_parts_are_shards
