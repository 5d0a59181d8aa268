use Rattle.std.proofs.Common.{arith}
use Rattle.run.proofs.Cores.{all_waited, same_numbers}
use Rattle.run.proofs.simulation.delay_all.Goals as goal

pub returns-clause-timed : goal.returns-clause-timed
returns-clause-timed c =
    all_waited c.args.delays.now c.args.cores.now c.loop-number.cores c.loop-number.auto.cores
    (λ k d below. c.loop-number.invariant.done k d (omega (arith, below, c.loop-number-test.false, c.loop-number.auto.number-end)))

pub returns-clause-numbered : goal.returns-clause-numbered
returns-clause-numbered c = same_numbers c.args.cores.now c.loop-number.cores c.loop-number.auto.cores c.loop-number.invariant.numbers
