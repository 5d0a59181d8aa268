use Rattle.std.proofs.Common.{◌≡◌, ◌++◌, ◌-◌, ◌^◌, ℕ, List}
use Rattle.std.specs.Prelude.{flat_map}
use Rattle.profile.specs.Listed.{has_line_of_any, rows_at}
use Rattle.profile.proofs.Listing.{AreBefore}
use Rattle.profile.proofs.profile.Profile.line_tallies.Given as goal

-- the rows so far are those of all numbers before this one
abbrev pub invariant-loop-line : goal.invariant-loop-line
invariant-loop-line l = (so_far : List ℕ) × AreBefore (has_line_of_any l.self) l.at so_far × (l.rows.items ≡ l.initial.rows.items ++ flat_map (rows_at l.self) so_far)

abbrev pub decreases-loop-line : goal.decreases-loop-line
decreases-loop-line l = 2 ^ 64 - l.at
