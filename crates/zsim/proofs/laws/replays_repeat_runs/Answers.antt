-- The schedule that is replayed is the one that the run kept.
use Rattle.zsim.proofs.Repeating.{repeated, repeated_by_file}
use Rattle.zsim.proofs.laws.replays_repeat_runs.Goals as goal

pub returns-clause-kept : goal.returns-clause-kept
returns-clause-kept c = λ first second s t ran replayed ended whole ended_again again file no_file no_put some.
    repeated c.replays_give_the_same.ensures c.legal_schedules_fit.ensures c.each_schedule_is_read_again.ensures c.files_are_short.ensures first second s t ran replayed ended whole ended_again again file no_file no_put some

pub returns-clause-recorded : goal.returns-clause-recorded
returns-clause-recorded c = λ first second s t ran replayed ended whole ended_again again given no_file no_put some.
    repeated_by_file c.replays_give_the_same.ensures c.legal_schedules_fit.ensures c.each_schedule_is_read_again.ensures c.files_are_short.ensures first second s t ran replayed ended whole ended_again again no_file no_put some given
