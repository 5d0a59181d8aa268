use Rattle.profile.specs.Series.{sums_in}
use Rattle.profile.proofs.SeriesMore.{joined}
use Rattle.profile.proofs.series.join.Goals as goal

pub returns : goal.returns
unfolding sums_in
returns c = λ s o is begun_is.
    joined s o c.args.row.now c.args.begun.now c.args.events.now c.args.fired.now is begun_is
    c.saturating_add-row.result c.saturating_add-row-2.result c.plus-row.result c.saturating_add-row-3.result c.add_waits.new.waits.items
    c.saturating_add-row.ensures c.saturating_add-row-2.ensures c.plus-row.ensures c.saturating_add-row-3.ensures (c.add_waits.ensures s.waits)
