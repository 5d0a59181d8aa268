use Rattle.std.proofs.Common.{◌≡◌, ◌<◌, ◌≤◌, ℕ, get_or}
use Rattle.component.specs.declared.comp.Comp.{Comp}
use Rattle.component.specs.ComponentStep.{free_of}
use Rattle.stats.specs.declared.counts.CompCount.{CompCount}
use Rattle.stats.specs.Passes.{with_free}
use Rattle.stats.proofs.comp_counts.keep_free.Given as goal

abbrev pub invariant-loop-n : goal.invariant-loop-n
invariant-loop-n l =
    ((k : ℕ) (d : CompCount) (c : Comp) → k < l.n → get_or l.counts k d ≡ with_free (get_or l.initial.counts k d) (free_of (get_or l.comps k c)))
    × ((k : ℕ) (d : CompCount) → l.n ≤ k → get_or l.counts k d ≡ get_or l.initial.counts k d)
