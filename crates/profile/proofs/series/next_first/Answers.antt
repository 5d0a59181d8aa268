use Rattle.std.proofs.Common.{◌+◌, ◌-◌, sym, ◌∙◌, ap, arith}
use Rattle.profile_rows.specs.declared.series_row.SeriesRow.{SeriesRow}
use Rattle.profile_rows.specs.Tallies.{capped}
use Rattle.profile.proofs.SeriesMore.{last_first}
use Rattle.profile.proofs.series.next_first.Goals as goal

pub returns : goal.returns
returns c =
    let row = c.index-last.result.now in
    let rows = c.args.rows.now.items in
    c.saturating_add.ensures
    ∙ ap (λ (r : SeriesRow). capped (r.first + r.intervals)) c.index-last.ensures
    ∙ ap capped (sym (last_first row rows (c.len-count.result - 1) (omega (arith, c.len-count.ensures, c.if-count-eq0.false))))
