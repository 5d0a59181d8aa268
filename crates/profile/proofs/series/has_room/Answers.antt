use Rattle.std.proofs.Common.{ℕ, ◌-◌, nat_lt, sym, ◌∙◌, ap, ap₂, arith}
use Rattle.profile_rows.specs.declared.series_row.SeriesRow.{SeriesRow}
use Rattle.profile.proofs.SeriesMore.{last_room}
use Rattle.profile.proofs.series.has_room.Goals as goal

pub returns-then-count-gt0 : goal.returns-then-count-gt0
returns-then-count-gt0 c =
    let row = c.index.result.now in
    let rows = c.args.rows.now.items in
    ap₂ (λ (n m : ℕ). nat_lt n m) (ap (λ (r : SeriesRow). r.intervals) c.index.ensures) c.from.ensures
    ∙ sym (last_room c.args.every row rows (c.len-count.result - 1) (omega (arith, c.len-count.ensures, c.if-count-gt0.true)))
