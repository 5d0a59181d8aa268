use Rattle.std.proofs.Common.{◌≡◌, ℕ, ◌+◌, ◌<◌, ◌≤◌}
use Rattle.execution_counts.specs.Counted.{counted}
use Rattle.execution_counts.proofs.counts.ExecutionCounts.near.Given as goal

abbrev pub invariant-loop-place : goal.invariant-loop-place
invariant-loop-place l = record {
  none : (n : ℕ) → l.from ≤ n → n < l.from + l.place → counted l.self l.core n ≡ 0;
}
