use Rattle.flat_memory.proofs.Accesses.{other_bytes_stay}
use Rattle.flat_memory.proofs.laws.other_bytes_stay.Goals as goal

pub returns : goal.returns
returns c = other_bytes_stay
