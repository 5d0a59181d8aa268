use Rattle.std.proofs.Common.{◌<◌, ◌≤◌, arith}
use Rattle.noc_mesh.specs.declared.stop.Stop.TheVariants.{Core, Bank}
use Rattle.noc_mesh.specs.NetTiming as timing
use Rattle.noc_mesh.proofs.Ways.{before_hops, hop_within}
use Rattle.noc_mesh.proofs.events.missed.Goals as goal

pub hop-requires-clause-place : goal.hop-requires-clause-place
hop-requires-clause-place c =
    let past : c.filled-filled.result.events ≤ c.args.place = omega (arith, c.if-place-filled.false) in
    hop_within c.args.path.now c.args.entry.now (timing.filled c.args.path.now c.args.entry.now c.args.dirty) Bank Core c.filled-filled.result c.args.place c.filled-filled.ensures.come past c.requires.place

pub returns-then-place-filled : goal.returns-then-place-filled
returns-then-place-filled c =
    let early : c.args.place < c.filled-filled.result.events = omega (arith, c.if-place-filled.true) in
    before_hops c.args.path.now c.args.entry.now (timing.filled c.args.path.now c.args.entry.now c.args.dirty) Bank Core c.filled-filled.result c.args.place c.back_at_the_bank.result c.filled-filled.ensures.come early c.back_at_the_bank.ensures
