use Rattle.sparse_table.proofs.Entries.{is_walked}
use Rattle.sparse_table.proofs.laws.walks_visit_entries.Goals as goal

pub returns : goal.returns
returns g c = λ table from rise. is_walked table.none 0 from table.entries rise
