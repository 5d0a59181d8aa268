use Rattle.sparse_table.proofs.Entries.{gives_back}
use Rattle.sparse_table.proofs.laws.set_gives_back.Goals as goal

pub returns : goal.returns
returns g c = λ table number value. gives_back table.none number value table.entries
