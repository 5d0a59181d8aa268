use Rattle.profile.specs.Added.{with_met}
use Rattle.profile.proofs.SeriesMore.{changed_more}
use Rattle.profile.proofs.series.SeriesRows.accessed.Goals as goal

pub returns : goal.returns
returns c = λ s more adds is. record {
  begun = changed_more c.args.self.now.begun s.begun c.change.new.value more (with_met c.args.met.now) adds is.begun c.change.ensures;
  rows = is.rows;
}
