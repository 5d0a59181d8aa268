use Rattle.std.proofs.Common.{◌≡◌, ◌+◌}
use Rattle.sparse_table.specs.ByCore.{value_at}
use Rattle.execution_counts.specs.Counted.{capped, no_stretch, sum_below, times_as}
use Rattle.execution_counts.proofs.counts.ExecutionCounts.get.Given as goal

abbrev pub invariant-loop-place : goal.invariant-loop-place
invariant-loop-place l = record {
  so_far : l.count ≡ capped (value_at 0 l.self-inside.singles.items l.core l.pc + sum_below (times_as (value_at no_stretch l.self-inside.stretches.items l.core) l.pc) l.place);
}
