use Rattle.bound_core.specs.ShardPort.{IsShardPort}
use Rattle.reference.specs.ShardWorld.{ShardWorld}
use Rattle.bound_core.proofs.PartsPorts.{knows}
use Rattle.bound_core.proofs.parts_port.PartsPort.leaving.Goals as goal

pub leaving-requires : goal.leaving-requires
leaving-requires c =
    let w : ShardWorld = record { shards = c.self.inside.parts; stamps = c.self.inside.stamps.items } in
    let port : IsShardPort (record { world = w; core = c.self.inside.core }) = record { shards = c.self.invariant.shards; core_is = c.self.invariant.core_is } in
    knows w c.self.inside.core 0 c.args.request port
