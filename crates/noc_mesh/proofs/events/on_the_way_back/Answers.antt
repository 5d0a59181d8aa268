use Rattle.std.proofs.Common.{◌<◌, ◌≤◌, arith}
use Rattle.noc_mesh.specs.declared.stop.Stop.TheVariants.{Bank, Controller}
use Rattle.noc_mesh.specs.NetTiming as timing
use Rattle.noc_mesh.proofs.Ways.{before_hops, hop_within}
use Rattle.noc_mesh.proofs.events.on_the_way_back.Goals as goal

pub hop-requires-clause-place : goal.hop-requires-clause-place
hop-requires-clause-place c =
    let past : c.read_in-read_in.result.events ≤ c.args.place = omega (arith, c.if-place-read_in.false) in
    hop_within c.args.path.now c.args.entry.now (timing.read_in c.args.path.now c.args.entry.now c.args.dirty) Controller Bank c.read_in-read_in.result c.args.place c.read_in-read_in.ensures.come past c.requires.place

pub returns-then-place-read_in : goal.returns-then-place-read_in
returns-then-place-read_in c =
    let early : c.args.place < c.read_in-read_in.result.events = omega (arith, c.if-place-read_in.true) in
    before_hops c.args.path.now c.args.entry.now (timing.read_in c.args.path.now c.args.entry.now c.args.dirty) Controller Bank c.read_in-read_in.result c.args.place c.in_memory.result c.read_in-read_in.ensures.come early c.in_memory.ensures
