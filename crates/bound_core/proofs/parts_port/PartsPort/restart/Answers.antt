use Rattle.std.proofs.Common.{rules}
use Rattle.bound_core.proofs.ShardPorts.{port_restarted}
use Rattle.bound_core.proofs.parts_port.PartsPort.restart.Goals as goal

pub invariant_of-self : goal.invariant_of-self
invariant_of-self c =
    port_restarted (record { world = record { shards = c.self.inside.parts; stamps = c.self.inside.stamps.items }; core = c.self.inside.core }) _ c.fill.new.self.items
    (record { shards = c.self.invariant.shards; core_is = c.self.invariant.core_is }) c.restart.ensures (search rules)
