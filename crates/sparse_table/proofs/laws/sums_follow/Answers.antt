use Rattle.sparse_table.proofs.Entries.{sums_follow}
use Rattle.sparse_table.proofs.laws.sums_follow.Goals as goal

pub returns : goal.returns
returns g c = λ measure table number value rise zero. sums_follow measure table.none 0 number value table.entries rise zero
