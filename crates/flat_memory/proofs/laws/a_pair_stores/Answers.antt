use Rattle.flat_memory.proofs.Accesses.{pair_stores}
use Rattle.flat_memory.proofs.laws.a_pair_stores.Goals as goal

pub returns : goal.returns
returns c = pair_stores
