use Rattle.std.proofs.Common.{map}
use Rattle.sparse_table.proofs.Counts.{IsCounted}
use Rattle.sparse_table.proofs.chunks.count_in_chunks.Given as goal

abbrev pub invariant-loop-chunk : goal.invariant-loop-chunk
invariant-loop-chunk g l = IsCounted (map (λ c. (c.number, c.values.items)) l.chunks.items) l.count l.chunk-index
