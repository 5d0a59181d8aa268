use Rattle.rv_core.proofs.Bytes.{loads_join, stores_write}
use Rattle.rv_core.proofs.laws.accesses_are_little_endian.Goals as goal

pub returns : goal.returns
returns c = record { stores = stores_write; loads = loads_join }
