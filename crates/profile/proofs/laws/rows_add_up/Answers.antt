use Rattle.std.proofs.Common.{arith}
use Rattle.profile.proofs.CoreCounters.{core_is_known}
use Rattle.profile.proofs.RowsAddUp.{address_rows_add_up, line_rows_add_up}
use Rattle.profile.proofs.SumRows.{sum_rows_add_up}
use Rattle.profile.proofs.laws.rows_add_up.Goals as goal

pub returns-clause-addresses : goal.returns-clause-addresses
returns-clause-addresses c machine image lists steps results is image_is trace run p of core count timed here there fits small rows are =
    address_rows_add_up c.intervals_are_the_runs.ensures.counts c.accesses_are_of_intervals.ensures.each c.accesses_are_of_intervals.ensures.sums c.steps_fit.ensures machine image lists steps results is image_is trace run p of
    core count here fits c.instructions_are_told.ensures.each timed there small rows are

pub returns-clause-lines : goal.returns-clause-lines
returns-clause-lines c machine image lists steps results is image_is trace run p of core count here fits rows are =
    let known = core_is_known c.intervals_are_the_runs.ensures.counts machine image lists steps results trace run core count here in
    line_rows_add_up c.intervals_are_the_runs.ensures.counts c.accesses_are_of_intervals.ensures.each c.accesses_are_of_intervals.ensures.sums c.steps_fit.ensures machine image lists steps results is image_is trace run p of
    core count here fits (omega (arith, known, of.cores)) rows are

pub returns-clause-sums : goal.returns-clause-sums
returns-clause-sums c machine image lists steps results is image_is trace run p of many fits small rows are =
    sum_rows_add_up c.intervals_are_the_runs.ensures.counts c.accesses_are_of_intervals.ensures.each c.accesses_are_of_intervals.ensures.sums c.steps_fit.ensures machine image lists steps results is image_is trace run p of
    c.instructions_are_told.ensures.each many fits small rows are
