-- All are raised at the end.
use Rattle.std.proofs.Common.{arith}
use Rattle.weave_run.proofs.Floors.{all_raised}
use Rattle.weave_run.proofs.rounds.raise_floors.Goals as goal

pub returns : goal.returns
returns g c =
    let end = c.loop-index-test.false in
    let len = c.len-index-end.ensures in
    let ok = c.args.domains.now.ok in
    all_raised c.args.domains.now.items c.loop-index.domains.items c.args.floor c.loop-index.index c.loop-index.invariant (omega (arith, end, len, ok))
