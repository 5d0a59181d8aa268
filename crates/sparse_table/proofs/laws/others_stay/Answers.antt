use Rattle.sparse_table.proofs.Entries.{others_stay}
use Rattle.sparse_table.proofs.laws.others_stay.Goals as goal

pub returns : goal.returns
returns g c = λ table number value other ne. others_stay table.none number value other table.entries ne
