use Rattle.std.proofs.Common.{◌∙◌}
use Rattle.profile.proofs.ComponentsWait.{all_of_components}
use Rattle.profile.proofs.WaitsAddUp.{waits_add_up}
use Rattle.profile.proofs.laws.waits_add_up.Goals as goal

pub returns-clause-events : goal.returns-clause-events
returns-clause-events c machine image lists steps results is trace run =
    waits_add_up c.recorded_order_sorts.ensures c.net_accesses_beyond_hits_have_events.ensures c.accesses_are_of_intervals.ensures.each machine image lists steps results is trace run

pub returns-clause-components : goal.returns-clause-components
returns-clause-components c machine image lists steps results is trace run many =
    waits_add_up c.recorded_order_sorts.ensures c.net_accesses_beyond_hits_have_events.ensures c.accesses_are_of_intervals.ensures.each machine image lists steps results is trace run
    ∙ all_of_components c.net_graphs_fit.ensures c.intervals_are_the_runs.ensures.counts machine image lists steps results is trace run (c.accesses_are_of_intervals.ensures.each machine image lists steps results is trace run) many
