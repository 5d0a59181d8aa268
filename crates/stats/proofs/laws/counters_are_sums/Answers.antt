use Rattle.stats.proofs.Sums.{interval_added}
use Rattle.stats.proofs.laws.counters_are_sums.Goals as goal

pub returns : goal.returns
returns c = λ cores before comps intervals i same. interval_added intervals i cores before comps same
