-- the sums so far
use Rattle.std.proofs.Common.{◌≡◌, map, take}
use Rattle.profile_rows.specs.Tallies.{capped_wide}
use Rattle.profile_files.specs.CallgrindFile.{sums}
use Rattle.profile_files.proofs.totals.totals.Given as goal

abbrev pub invariant-loop-row : goal.invariant-loop-row
invariant-loop-row l = l.totals ≡ map capped_wide (sums (take l.row-index l.rows))
