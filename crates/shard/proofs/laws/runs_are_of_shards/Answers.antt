use Rattle.shard.proofs.Coherent.{coherent_stays, l2_laws}
use Rattle.shard.proofs.HomesAndL1s.RunsOfShards.{runs_are_of_shards}
use Rattle.shard.proofs.laws.runs_are_of_shards.Goals as goal

pub returns : goal.returns
returns c = runs_are_of_shards coherent_stays l2_laws
