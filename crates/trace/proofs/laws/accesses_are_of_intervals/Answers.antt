use Rattle.trace.proofs.RunAccesses.{run_ends, sums_over}
use Rattle.trace.proofs.laws.accesses_are_of_intervals.Goals as goal

pub returns-clause-each : goal.returns-clause-each
returns-clause-each c machine image lists steps results is trace run =
    run_ends c.stamps_rise.ensures c.rising_lists_stay.ensures c.machine_components_stay.ensures machine is.l2.banks.0 image (λ comps others one other. c.fresh_components_are_one.ensures machine others comps other one) lists steps results trace run

pub returns-clause-sums : goal.returns-clause-sums
returns-clause-sums c machine steps ends weight = sums_over machine c.recorded_order_sorts.ensures steps ends weight
