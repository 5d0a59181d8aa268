use Rattle.profile.specs.Series.{with_room}
use Rattle.profile.proofs.SeriesMore.{nothing_capped}
use Rattle.profile.proofs.series.SeriesRows.ended.Goals as goal

pub returns : goal.returns
returns c = λ s is. record {
  begun = nothing_capped;
  rows = c.join_last.ensures (with_room c.args.comps c.args.every s.rows) s.begun (c.in_ok-make_room.ensures.rows s.rows is.rows) is.begun;
}
