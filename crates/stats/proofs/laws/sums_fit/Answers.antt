use Rattle.stats.proofs.SumsFit.{sums_fit}
use Rattle.stats.proofs.laws.sums_fit.Goals as goal

pub returns : goal.returns
returns c = λ cores comps intervals accesses events short bounded. sums_fit intervals accesses events short bounded cores comps
