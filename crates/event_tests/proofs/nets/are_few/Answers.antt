use Rattle.std.proofs.Common.{◌≤◌, length, arith}
use Rattle.std.proofs.lemmas.Bool.{leb-true}
use Rattle.event_tests.proofs.nets.are_few.Goals as goal

pub returns : goal.returns
returns c = λ few. (
    let entries = c.args.entries.now in
    let within = c.net_accesses_have_few_events.ensures c.args.net.now.path entries c.args.net.now.in_range in
    let small : length entries ≤ 1048576 = leb-true (length entries) 1048576 few in
    omega (arith, within, small)
    )
