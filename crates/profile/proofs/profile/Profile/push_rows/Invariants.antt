use Rattle.std.proofs.Common.{◌≡◌, ◌++◌, ◌-◌, ◌^◌, ℕ, List, map}
use Rattle.profile.specs.Listed.{core_row}
use Rattle.profile.specs.Profiled.{has_address}
use Rattle.profile.proofs.Listing.{AreBefore}
use Rattle.profile.proofs.profile.Profile.push_rows.Given as goal

-- the rows so far are those of all numbers before this one
abbrev pub invariant-loop-pc : goal.invariant-loop-pc
invariant-loop-pc l = (so_far : List ℕ) × AreBefore (has_address l.self l.core) l.at so_far × (l.rows.items ≡ l.initial.rows.items ++ map (core_row l.self l.core) so_far)

abbrev pub decreases-loop-pc : goal.decreases-loop-pc
decreases-loop-pc l = 2 ^ 64 - l.at
