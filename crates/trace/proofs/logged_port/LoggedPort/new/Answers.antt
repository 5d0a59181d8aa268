use Rattle.std.proofs.Common.{List, rules, subst, sym}
use Rattle.shard.specs.Served.{ShardState}
use Rattle.bound_core.specs.ShardPort.{AreShardsOf, base_in, size_in}
use Rattle.bound_core.proofs.NewShards.{are_shards}
use Rattle.trace.proofs.Rising.{knows_none}
use Rattle.trace.proofs.logged_port.LoggedPort.new.Goals as goal

pub new-requires-2-clause-shards : goal.new-requires-2-clause-shards
new-requires-2-clause-shards c =
    let machine = c.args.machine.now in
    subst (λ (shards : List ShardState). AreShardsOf machine.cores shards (base_in shards) (size_in shards)) (sym c.in_ok-parts.ensures)
    (are_shards machine c.args.image.now c.requires.machine)

pub invariant_of-result : goal.invariant_of-result
invariant_of-result c = knows_none _ (search rules)
