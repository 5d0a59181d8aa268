use Rattle.std.proofs.Common.{ℕ, ◌<◌, ◌≤◌, length, slice_index}
use Rattle.cache_set.proofs.ages.oldest_place.Given as goal

abbrev pub invariant-loop-place : goal.invariant-loop-place
invariant-loop-place l = (l.oldest < length l.ages) × ((k : ℕ) → k < l.place → slice_index l.ages l.oldest ≤ slice_index l.ages k)
