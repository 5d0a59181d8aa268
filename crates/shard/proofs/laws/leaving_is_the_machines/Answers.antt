use Rattle.shard.proofs.LeavingOfParts.{leaving_is_the_machines}
use Rattle.shard.proofs.laws.leaving_is_the_machines.Goals as goal

pub returns : goal.returns
returns c = leaving_is_the_machines
