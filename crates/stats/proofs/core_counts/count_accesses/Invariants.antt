use Rattle.std.proofs.Common.{◌≡◌, ◌<◌, ℕ, length, get_or, take}
use Rattle.stats.specs.declared.counts.CoreCount.{CoreCount}
use Rattle.stats.specs.Passes.{with_accesses}
use Rattle.stats.proofs.core_counts.count_accesses.Given as goal

abbrev pub invariant-loop-entry : goal.invariant-loop-entry
invariant-loop-entry l =
    (n : ℕ) (d : CoreCount) → n < length l.initial.counts
    → get_or l.counts n d ≡ with_accesses (get_or l.initial.counts n d) n (take l.entry-index l.entries)
