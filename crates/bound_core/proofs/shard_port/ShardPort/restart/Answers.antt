use Rattle.std.proofs.Common.{rules, ◌≡◌, ◌∙◌, List, ap, length, map}
use Rattle.std.proofs.lemmas.List.{length-map}
use Rattle.shard.specs.Served.{ShardState}
use Rattle.reference.specs.ShardWorld.{restarted}
use Rattle.bound_core.proofs.AllShards.{whole_again}
use Rattle.bound_core.proofs.ShardPorts.{port_restarted}
use Rattle.bound_core.proofs.shard_port.ShardPort.restart.Goals as goal

pub invariant_of-self : goal.invariant_of-self
invariant_of-self c =
    let old = c.self.inside.shards.items in
    let is : c.restart_all.new.shards ≡ map restarted old = c.restart_all.ensures ∙ ap (λ (ss : List ShardState). map restarted ss) c.deref_mut.ensures.value in
    port_restarted (record { world = record { shards = old; stamps = c.self.inside.stamps.items }; core = c.self.inside.core }) _ c.fill.new.self.items
    (record { shards = c.self.invariant.shards; core_is = c.self.invariant.core_is })
    (whole_again c.self.inside.shards.len c.restart_all.new.shards old (ap length is ∙ length-map old restarted) (search rules) ∙ is) (search rules)
