use Rattle.std.proofs.Common.{◌<◌, ◌≤◌, false, arith}
use Rattle.noc_mesh.specs.declared.stop.Stop.TheVariants.{Bank, Controller}
use Rattle.noc_mesh.specs.NetTiming as timing
use Rattle.noc_mesh.proofs.Ways.{before_hops, hop_within}
use Rattle.noc_mesh.proofs.events.on_to_memory.Goals as goal

pub hop-requires-clause-place : goal.hop-requires-clause-place
hop-requires-clause-place c =
    let past : c.looked_up-looked_up.result.events ≤ c.args.place = omega (arith, c.if-place-looked_up.false) in
    hop_within c.args.path.now c.args.entry.now (timing.looked_up c.args.path.now c.args.entry.now false) Bank Controller c.looked_up-looked_up.result c.args.place c.looked_up-looked_up.ensures.come past c.requires.place

pub returns-then-place-looked_up : goal.returns-then-place-looked_up
returns-then-place-looked_up c =
    let early : c.args.place < c.looked_up-looked_up.result.events = omega (arith, c.if-place-looked_up.true) in
    before_hops c.args.path.now c.args.entry.now (timing.looked_up c.args.path.now c.args.entry.now false) Bank Controller c.looked_up-looked_up.result c.args.place c.at_the_bank.result c.looked_up-looked_up.ensures.come early c.at_the_bank.ensures
