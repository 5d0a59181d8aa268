use Rattle.std.proofs.Common.{◌≡◌, ℕ, ◌*◌, ◌<◌, ◌≤◌, length}
use Rattle.cache_set.specs.Ages.{renumbered}
use Rattle.cache_set.specs.Pieces.{piece}
use Rattle.cache_set.proofs.ticks.renumber_all.Given as goal

abbrev pub invariant-loop-set : goal.invariant-loop-set
invariant-loop-set l = record {
  long : length l.ages ≡ l.sets * l.ways;
  done : (n : ℕ) → n < l.set → piece l.ways n l.ages ≡ renumbered (piece l.ways n l.fn.ages);
  rest : (n : ℕ) → l.set ≤ n → n < l.sets → piece l.ways n l.ages ≡ piece l.ways n l.fn.ages;
}
