use Rattle.shard.proofs.AskedOthers.{touched_known}
use Rattle.shard.proofs.laws.touched_are_known.Goals as goal

pub returns : goal.returns
returns c = touched_known
