use Rattle.profile.proofs.RunWaits.{run_address_rows_wait, run_line_rows_wait}
use Rattle.profile.proofs.laws.rows_wait.Goals as goal

pub returns-clause-addresses : goal.returns-clause-addresses
returns-clause-addresses c machine image lists steps results is image_is trace run many small p of separate rows are =
    run_address_rows_wait machine steps
    (c.accesses_are_of_intervals.ensures.each machine image lists steps results is trace run)
    (c.steps_fit.ensures machine image lists steps results is image_is trace run)
    results (c.waits_add_up.ensures.components machine image lists steps results is trace run many) small p of separate rows are

pub returns-clause-lines : goal.returns-clause-lines
returns-clause-lines c machine image lists steps results is image_is trace run many small p of rows are =
    run_line_rows_wait machine steps
    (c.accesses_are_of_intervals.ensures.each machine image lists steps results is trace run)
    (c.steps_fit.ensures machine image lists steps results is image_is trace run)
    results (c.waits_add_up.ensures.components machine image lists steps results is trace run many) small p of rows are
