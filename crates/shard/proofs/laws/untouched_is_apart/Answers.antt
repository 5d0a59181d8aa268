use Rattle.shard.proofs.HomesAndL1s.Untouched.{untouched}
use Rattle.shard.proofs.laws.untouched_is_apart.Goals as goal

pub returns : goal.returns
returns c = untouched
