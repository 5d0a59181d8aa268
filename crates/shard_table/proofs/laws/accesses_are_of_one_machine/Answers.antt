use Rattle.shard_table.proofs.OneMachine.{whole_of_one_machine}
use Rattle.shard_table.proofs.laws.accesses_are_of_one_machine.Goals as goal

pub returns : goal.returns
returns c t entries seats left memory caches whole stand =
    whole_of_one_machine c.accesses_are_answered.ensures c.coherence_stays.ensures c.shards_stand_for_a_machine.ensures c.entries_are_of_one_machine.ensures
    t entries seats left memory caches whole stand
