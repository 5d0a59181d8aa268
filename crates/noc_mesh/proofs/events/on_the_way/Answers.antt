use Rattle.std.proofs.Common.{arith}
use Rattle.event_graph.specs.AccessPaths.{head_time}
use Rattle.noc_mesh.specs.declared.stop.Stop.TheVariants.{Core, Bank}
use Rattle.noc_mesh.specs.NetTiming.{hops}
use Rattle.noc_mesh.specs.Passages.{begun}
use Rattle.noc_mesh.specs.PassageLaws.{passes_length}
use Rattle.noc_mesh.proofs.events.on_the_way.Goals as goal

pub hop-requires-clause-place : goal.hop-requires-clause-place
hop-requires-clause-place c =
    omega (arith, passes_length (begun (head_time c.args.path.now c.args.entry.now.request)) (hops c.args.path.now c.args.entry.now Core Bank), c.requires.place)
