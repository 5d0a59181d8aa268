use Rattle.std.proofs.Common.{arith}
use Rattle.sparse_table.proofs.Entries.{stays_rising}
use Rattle.sparse_table.proofs.laws.entries_stay_rising.Goals as goal

pub returns : goal.returns
returns g c = λ table number value rise. stays_rising 0 number value table.entries (omega arith) rise
