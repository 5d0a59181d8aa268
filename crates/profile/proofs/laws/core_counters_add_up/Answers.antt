use Rattle.profile.proofs.CoreCounters.{core_counters}
use Rattle.profile.proofs.laws.core_counters_add_up.Goals as goal

pub returns : goal.returns
returns c machine image lists steps results is trace run core count here =
    core_counters c.intervals_are_the_runs.ensures.counts c.accesses_are_of_intervals.ensures.each c.accesses_are_of_intervals.ensures.sums machine image lists steps results is trace run core count here
