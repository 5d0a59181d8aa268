use Rattle.std.proofs.Common.{◌≡◌, ◌<◌, ◌≤◌, ℕ, get_or, slice_index}
use Rattle.stats.specs.declared.counts.CoreCount.{CoreCount}
use Rattle.stats.specs.Passes.{with_counted}
use Rattle.stats.proofs.core_counts.add_counted_cores.Given as goal

abbrev pub invariant-loop-n : goal.invariant-loop-n
invariant-loop-n l =
    ((k : ℕ) (d : CoreCount) → k < l.n → get_or l.counts k d ≡ with_counted (get_or l.initial.counts k d) (slice_index l.delays k) (get_or l.accesses k d))
    × ((k : ℕ) (d : CoreCount) → l.n ≤ k → get_or l.counts k d ≡ get_or l.initial.counts k d)
