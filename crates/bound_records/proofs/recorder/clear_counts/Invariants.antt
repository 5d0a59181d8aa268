-- the counts before this one are at nothing, and the others are as they were
use Rattle.std.proofs.Common.{◌≡◌, ◌<◌, ◌≤◌, ℕ, get_or}
use Rattle.stats.specs.Counted.{no_core_count}
use Rattle.bound_records.proofs.recorder.clear_counts.Given as goal

abbrev pub invariant-loop-count : goal.invariant-loop-count
invariant-loop-count l = record {
  done : (i : ℕ) → i < l.count-index → get_or l.count-items i no_core_count ≡ no_core_count;
  rest : (i : ℕ) → l.count-index ≤ i → get_or l.count-items i no_core_count ≡ get_or l.initial.count-items i no_core_count;
}
