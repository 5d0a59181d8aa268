use Rattle.sparse_table.proofs.Entries.{is_set_now}
use Rattle.sparse_table.proofs.laws.is_set_now.Goals as goal

pub returns : goal.returns
returns g c = λ table number value. is_set_now number value table.entries
