use Rattle.stats.proofs.Sums.{nothing_counted}
use Rattle.stats.proofs.laws.nothing_is_counted_first.Goals as goal

pub returns : goal.returns
returns c = λ m comps fresh. nothing_counted m comps fresh
