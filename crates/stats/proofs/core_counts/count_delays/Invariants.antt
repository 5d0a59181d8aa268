use Rattle.std.proofs.Common.{◌≡◌, ◌<◌, ◌≤◌, ℕ, get_or, slice_index}
use Rattle.stats.specs.declared.counts.CoreCount.{CoreCount}
use Rattle.stats.specs.Passes.{with_delay}
use Rattle.stats.proofs.core_counts.count_delays.Given as goal

abbrev pub invariant-loop-n : goal.invariant-loop-n
invariant-loop-n l =
    ((k : ℕ) (d : CoreCount) → k < l.n → get_or l.counts k d ≡ with_delay (get_or l.initial.counts k d) (slice_index l.delays k))
    × ((k : ℕ) (d : CoreCount) → l.n ≤ k → get_or l.counts k d ≡ get_or l.initial.counts k d)
