use Rattle.std.proofs.Common.{◌-◌, ap, ◌∙◌, arith}
use Rattle.profile.specs.Series.{sums_in, with_interval}
use Rattle.profile.proofs.SeriesMore.{last_joined}
use Rattle.profile.proofs.series.join_last.Goals as goal

pub returns : goal.returns
returns c = λ sums o are begun_is.
    let row = c.index_mut-row.result.now in
    last_joined (with_interval o c.args.events.now c.args.fired.now) row c.join.new.row c.args.rows.now.items sums (c.len-last.result - 1)
    (omega (arith, c.requires, c.len-last.ensures)) are
    (λ s is. c.join.ensures s o (ap sums_in c.index_mut-row.ensures.value ∙ is) begun_is)
