use Rattle.shard.proofs.Coherent.{coherent_stays}
use Rattle.shard.proofs.laws.coherence_stays.Goals as goal

pub returns : goal.returns
returns c = coherent_stays
