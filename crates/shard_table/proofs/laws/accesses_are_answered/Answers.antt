use Rattle.shard_table.proofs.OneMachine.{whole_answered}
use Rattle.shard_table.proofs.laws.accesses_are_answered.Goals as goal

pub returns : goal.returns
returns c t entries seats left whole = whole_answered c.number_stays.ensures t entries seats left whole
