use Rattle.sparse_table.proofs.Entries.{from_zero}
use Rattle.sparse_table.proofs.laws.walks_from_zero.Goals as goal

pub returns : goal.returns
returns g c = λ table. from_zero table.entries
