use Rattle.shard.proofs.HomesAndL1s.Private.{private_is_of_one_l1}
use Rattle.shard.proofs.laws.private_is_of_one_l1.Goals as goal

pub returns : goal.returns
returns c = private_is_of_one_l1
