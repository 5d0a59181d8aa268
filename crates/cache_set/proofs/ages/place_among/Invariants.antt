use Rattle.std.proofs.Common.{ℕ, ◌<◌, ◌≢◌, slice_index}
use Rattle.cache_set.proofs.ages.place_among.Given as goal

abbrev pub invariant-loop-place : goal.invariant-loop-place
invariant-loop-place l = (k : ℕ) → k < l.place → 0 < slice_index l.ages k → l.line ≢ slice_index l.tags k
