use Rattle.std.proofs.Common.{◌≡◌, ℕ, ◌<◌, length, get_or}
use Rattle.cache_set.specs.Ages.{rank_in}
use Rattle.cache_set.proofs.ages.write_ranks.Given as goal

abbrev pub invariant-loop-place : goal.invariant-loop-place
invariant-loop-place l = (length l.ages ≡ length l.old) × ((k : ℕ) → k < l.place → get_or l.ages k 0 ≡ rank_in l.old (get_or l.old k 0))
