use Rattle.std.proofs.Common.{◌≡◌, ℕ, ◌+◌, ◌==◌}
use Rattle.std.specs.Prelude.{◌&&◌}
use Rattle.execution_counts.specs.Counted.{capped, counted, is_in_stretch, one_if}
use Rattle.execution_counts.proofs.counts.ExecutionCounts.add_one_by_one.Given as goal

abbrev pub invariant-loop-place : goal.invariant-loop-place
invariant-loop-place l = record {
  so_far : (c n : ℕ) → counted l.self c n ≡ capped (counted l.initial.self c n + one_if (l.core == c && is_in_stretch l.pc l.place n));
}
