use Rattle.shard.specs.Served.{shard_after}
use Rattle.std.proofs.Common.{refl}
use Rattle.shard.proofs.laws.last_is_stamp.Goals as goal

pub returns : goal.returns
unfolding shard_after
returns c shard entry = refl
