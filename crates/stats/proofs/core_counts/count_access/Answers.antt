use Rattle.std.proofs.Common.{arith}
use Rattle.stats.specs.Counted.{core_plus, entry_count}
use Rattle.stats.proofs.core_counts.count_access.Goals as goal

pub returns-in-Miss : goal.returns-in-Miss
unfolding core_plus entry_count
returns-in-Miss c = grind arith
