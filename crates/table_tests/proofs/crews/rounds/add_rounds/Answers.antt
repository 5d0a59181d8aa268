use Rattle.std.proofs.Common.{◌∙◌, arith}
use Rattle.table_tests.proofs.crews.rounds.add_rounds.Goals as goal

pub loop-preserved : goal.loop-preserved
loop-preserved g c =
    let same = c.do_all.ensures.done.count in
    let so_far = c.loop.invariant.count in
    let before = c.loop.numbers.ok in
    let after = c.do_all.new.jobs.ok in
    record { askers = c.do_all.ensures.free ∙ c.loop.invariant.askers; count = omega (arith, same, so_far, before, after) }
