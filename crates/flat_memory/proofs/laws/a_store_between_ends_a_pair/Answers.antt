use Rattle.flat_memory.proofs.Accesses.{store_between_ends_pair}
use Rattle.flat_memory.proofs.laws.a_store_between_ends_a_pair.Goals as goal

pub returns : goal.returns
returns c = store_between_ends_pair
