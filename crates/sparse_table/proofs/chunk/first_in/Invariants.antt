use Rattle.sparse_table.proofs.Firsts.{IsAhead}
use Rattle.sparse_table.proofs.chunk.first_in.Given as goal

abbrev pub invariant-loop-place : goal.invariant-loop-place
invariant-loop-place g l = IsAhead l.base l.values l.from l.place
