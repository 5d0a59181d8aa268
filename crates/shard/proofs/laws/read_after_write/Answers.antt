use Rattle.shard.proofs.StandsForReads.{read_after_write}
use Rattle.shard.proofs.laws.read_after_write.Goals as goal

pub returns : goal.returns
returns c = read_after_write c.stored_is_loaded.ensures
