use Rattle.profile.specs.Added.{with_hit}
use Rattle.profile.proofs.SeriesMore.{changed_more}
use Rattle.profile.proofs.series.SeriesRows.hit.Goals as goal

pub returns : goal.returns
returns c = λ s more adds is. record {
  begun = changed_more c.args.self.now.begun s.begun c.change.new.value more (with_hit c.args.hit.now.kind c.args.hit.now.cycles) adds is.begun c.change.ensures;
  rows = is.rows;
}
