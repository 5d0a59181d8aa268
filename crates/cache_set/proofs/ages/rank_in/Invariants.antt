use Rattle.std.proofs.Common.{◌≡◌, ◌≤◌, take, length}
use Rattle.std.specs.Prelude.{count_by}
use Rattle.cache_set.specs.Ages.{is_up_to}
use Rattle.cache_set.proofs.ages.rank_in.Given as goal

abbrev pub invariant-loop-other : goal.invariant-loop-other
invariant-loop-other l = (l.rank ≡ count_by (is_up_to l.age) (take l.other-index l.ages)) × (l.rank ≤ l.other-index) × (l.other-index ≤ length l.ages)
