use Rattle.shard.proofs.HomesAndL1s.NewBanks.{new_banks_are_shards}
use Rattle.shard.proofs.laws.new_banks_are_shards.Goals as goal

pub returns : goal.returns
returns c = new_banks_are_shards
