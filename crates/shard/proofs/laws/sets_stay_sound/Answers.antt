use Rattle.shard.specs.Coherence.{Caches, empty_caches}
use Rattle.shard.specs.Accesses.{caches_after_all}
use Rattle.shard.proofs.Fits.{accesses_fit, empty_fit}
use Rattle.shard.proofs.CoherentSets.{sets_of_fit}
use Rattle.shard.proofs.CoherentPlaced.{accesses_placed, empty_placed}
use Rattle.shard.proofs.laws.sets_stay_sound.Goals as goal

pub returns : goal.returns
returns c cores shards l1_sets l1_ways fetchers l1i_sets l1i_ways l2_sets l2_ways accesses =
    let start : Caches = empty_caches cores shards l1_sets l1_ways fetchers l1i_sets l1i_ways l2_sets l2_ways in
    sets_of_fit (caches_after_all start accesses)
    (accesses_fit accesses start (empty_fit cores shards l1_sets l1_ways fetchers l1i_sets l1i_ways l2_sets l2_ways))
    (accesses_placed accesses start (empty_placed cores shards l1_sets l1_ways fetchers l1i_sets l1i_ways l2_sets l2_ways))
