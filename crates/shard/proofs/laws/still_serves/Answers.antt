use Rattle.shard.specs.Served.{shard_after, CanServe}
use Rattle.shard.proofs.Kept.{SameShape, access_same}
use Rattle.shard.specs.Coherence.{caches_after}
use Rattle.shard.proofs.laws.still_serves.Goals as goal

pub returns : goal.returns
unfolding shard_after CanServe
returns c shard entry request h =
    let same : SameShape (caches_after shard.caches entry.core entry.request) shard.caches = access_same shard.caches entry.core entry.request in
    (rw same.fetchers h.0, rw same.shards h.1)
