use Rattle.shard.specs.Served.{shard_after}
use Rattle.std.proofs.Common.{refl}
use Rattle.shard.proofs.laws.number_stays.Goals as goal

pub returns : goal.returns
unfolding shard_after
returns c shard entry = refl
