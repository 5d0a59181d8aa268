use Rattle.std.proofs.Common.{◌≡◌, ◌<◌, ℕ, length, get_or, take}
use Rattle.std.specs.List.{zip}
use Rattle.stats.specs.declared.counts.CompCount.{CompCount}
use Rattle.stats.specs.Passes.{with_events}
use Rattle.stats.proofs.comp_counts.count_events.Given as goal

abbrev pub invariant-loop-i : goal.invariant-loop-i
invariant-loop-i l =
    (n : ℕ) (d : CompCount) → n < length l.initial.counts
    → get_or l.counts n d ≡ with_events (get_or l.initial.counts n d) n (take l.i (zip l.events l.fired))
