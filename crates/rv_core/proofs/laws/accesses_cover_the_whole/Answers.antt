use Rattle.rv_core.proofs.Bytes.{loads_cover, stores_cover}
use Rattle.rv_core.proofs.laws.accesses_cover_the_whole.Goals as goal

pub returns : goal.returns
returns c = record { loads = loads_cover; stores = stores_cover }
