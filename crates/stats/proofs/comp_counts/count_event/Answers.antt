use Rattle.std.proofs.Common.{arith}
use Rattle.stats.proofs.comp_counts.count_event.Goals as goal

pub returns : goal.returns
returns c = grind arith
