-- the L1s of the cores before this one are there
use Rattle.std.proofs.Common.{◌≡◌, replicate}
use Rattle.shard.specs.NewParts.{l1_of_core}
use Rattle.shard.proofs.new_parts.new_l1s.Given as goal

abbrev pub invariant-loop-core : goal.invariant-loop-core
invariant-loop-core l = l.l1s.items ≡ replicate l._core (l1_of_core l.machine l.parts)
