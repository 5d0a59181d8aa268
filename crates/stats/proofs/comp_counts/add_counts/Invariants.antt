use Rattle.std.proofs.Common.{◌≡◌, ◌<◌, ◌≤◌, ℕ, get_or}
use Rattle.stats.specs.declared.counts.CompCount.{CompCount}
use Rattle.stats.specs.Counted.{comp_plus}
use Rattle.stats.proofs.comp_counts.add_counts.Given as goal

abbrev pub invariant-loop-n : goal.invariant-loop-n
invariant-loop-n l =
    ((k : ℕ) (d : CompCount) → k < l.n → get_or l.counts k d ≡ comp_plus (get_or l.initial.counts k d) (get_or l.events k d))
    × ((k : ℕ) (d : CompCount) → l.n ≤ k → get_or l.counts k d ≡ get_or l.initial.counts k d)
