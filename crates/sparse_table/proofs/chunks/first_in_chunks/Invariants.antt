use Rattle.std.proofs.Common.{◌≡◌, drop, map}
use Rattle.sparse_table.specs.Chunks.{entries_of}
use Rattle.sparse_table.specs.Sparse.{entries_from}
use Rattle.sparse_table.proofs.chunks.first_in_chunks.Given as goal

abbrev pub invariant-loop-place : goal.invariant-loop-place
invariant-loop-place g l = entries_from l.from (entries_of (map (λ c. (c.number, c.values.items)) l.chunks.items)) ≡ entries_from l.from (entries_of (drop l.place (map (λ c. (c.number, c.values.items)) l.chunks.items)))
