use Rattle.profile.proofs.SeriesCounts.{series_counts}
use Rattle.profile.proofs.laws.series_adds_up.Goals as goal

pub returns : goal.returns
returns c machine image lists steps results is trace run p of many =
    series_counts c.intervals_are_the_runs.ensures.intervals c.intervals_are_the_runs.ensures.counts c.instructions_are_told.ensures.all
    c.accesses_are_of_intervals.ensures.each c.accesses_are_of_intervals.ensures.sums machine image lists steps results is trace run p of many
