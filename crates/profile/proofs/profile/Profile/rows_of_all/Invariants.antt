use Rattle.std.proofs.Common.{◌≡◌, ◌++◌, ◌-◌, ◌^◌, ℕ, List, map}
use Rattle.profile.specs.Listed.{has_address_of_any, sum_row}
use Rattle.profile.proofs.Listing.{AreBefore}
use Rattle.profile.proofs.profile.Profile.rows_of_all.Given as goal

-- the rows so far are those of all numbers before this one
abbrev pub invariant-loop-pc : goal.invariant-loop-pc
invariant-loop-pc l = (so_far : List ℕ) × AreBefore (has_address_of_any l.self) l.at so_far × (l.rows.items ≡ l.initial.rows.items ++ map (sum_row l.self) so_far)

abbrev pub decreases-loop-pc : goal.decreases-loop-pc
decreases-loop-pc l = 2 ^ 64 - l.at
