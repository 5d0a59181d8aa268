-- the sums up to here are those that are meant, and the others are as they were
use Rattle.std.proofs.Common.{◌≡◌, ◌≤◌, ◌<◌, ◌+◌, ℕ, get_or, length}
use Rattle.profile_rows.specs.Tallies.{capped_wide}
use Rattle.profile_files.proofs.totals.add.Given as goal

abbrev pub invariant-loop-n : goal.invariant-loop-n
invariant-loop-n l = record {
  long : length l.totals ≡ 11;
  done : (k : ℕ) → k < l.n → get_or l.totals k 0 ≡ capped_wide (get_or l.initial.totals k 0 + get_or l.numbers k 0);
  left : (k : ℕ) → l.n ≤ k → get_or l.totals k 0 ≡ get_or l.initial.totals k 0;
}
