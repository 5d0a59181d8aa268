use Rattle.std.proofs.Common.{length, ◌+◌, ◌-◌, ◌≡◌, ◌<◌, ◌≤◌, ℕ, nat_eq, slice_index, false}
use Rattle.lanes.proofs.words.find_in_lanes.Given as goal

abbrev pub invariant-loop-at : goal.invariant-loop-at
invariant-loop-at l = (l.at ≤ length l.list) × ((k : ℕ) → k < l.at → nat_eq (slice_index l.list k) l.x ≡ false)

abbrev pub decreases-loop-at : goal.decreases-loop-at
decreases-loop-at l = length l.list + 1 - l.at
