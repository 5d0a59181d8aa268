use Rattle.std.proofs.Common.{◌≡◌, ℕ, List, drop, map}
use Rattle.std.specs.List.{zip}
use Rattle.profile.specs.Series.{with_waits}
use Rattle.profile_rows.specs.Tallies.{capped_wide}
use Rattle.profile.proofs.series.add_waits.Given as goal

-- what was added so far, and what is left, is all
abbrev pub invariant-loop-place : goal.invariant-loop-place
invariant-loop-place l =
    (sums : List ℕ) → l.initial.waits.items ≡ map capped_wide sums
    → (now : List ℕ) × (l.waits.items ≡ map capped_wide now) × (with_waits now (drop l.place (zip l.events l.fired)) ≡ with_waits sums (zip l.events l.fired))
