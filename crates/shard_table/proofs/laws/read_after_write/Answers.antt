use Rattle.shard_table.proofs.OneMachine.{reads_after_writes}
use Rattle.shard_table.proofs.laws.read_after_write.Goals as goal

pub returns : goal.returns
returns c = reads_after_writes c.accesses_are_answered.ensures c.coherence_stays.ensures c.shards_stand_for_a_machine.ensures c.read_after_write.ensures
