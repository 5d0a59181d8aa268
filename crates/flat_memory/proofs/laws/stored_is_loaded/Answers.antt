use Rattle.flat_memory.proofs.Accesses.{stored_is_loaded}
use Rattle.flat_memory.proofs.laws.stored_is_loaded.Goals as goal

pub returns : goal.returns
returns c = stored_is_loaded
