use Rattle.std.proofs.Common.{map, ap}
use Rattle.profile.specs.Series.{sums_in}
use Rattle.profile.proofs.SeriesMore.{nothing_capped}
use Rattle.profile.proofs.series.SeriesRows.new.Goals as goal

pub returns : goal.returns
returns c = record { begun = nothing_capped; rows = ap (map sums_in) c.new.ensures.items }
