use Rattle.std.proofs.Common.{List, subst, sym}
use Rattle.shard.specs.Served.{ShardState}
use Rattle.bound_core.specs.ShardPort.{AreShardsOf, base_in, size_in}
use Rattle.bound_core.proofs.NewShards.{are_shards}
use Rattle.bound_records.proofs.recorder.new_port.Goals as goal

pub new-requires-2-clause-shards : goal.new-requires-2-clause-shards
new-requires-2-clause-shards c =
    let machine = c.args.machine.now in
    subst (λ (shards : List ShardState). AreShardsOf machine.cores shards (base_in shards) (size_in shards)) (sym c.in_ok-parts.ensures)
    (are_shards machine c.args.image.now c.requires.machine)
