use Rattle.shard.proofs.HomesAndL1s.OnlyTouched.{only_touched_count}
use Rattle.shard.proofs.laws.only_touched_parts_count.Goals as goal

pub returns : goal.returns
returns c = only_touched_count
