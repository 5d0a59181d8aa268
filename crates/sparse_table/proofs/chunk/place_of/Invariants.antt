use Rattle.std.proofs.Common.{◌-◌, map}
use Rattle.sparse_table.proofs.Places.{IsBetween}
use Rattle.sparse_table.proofs.chunk.place_of.Given as goal

abbrev pub invariant-loop-from : goal.invariant-loop-from
invariant-loop-from g l = IsBetween (map (λ c. (c.number, c.values.items)) l.chunks.items) l.number l.from l.to

abbrev pub decreases-loop-from : goal.decreases-loop-from
decreases-loop-from g l = l.to - l.from
