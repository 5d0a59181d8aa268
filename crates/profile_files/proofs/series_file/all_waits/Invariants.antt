-- the sum so far
use Rattle.std.proofs.Common.{◌≡◌, take}
use Rattle.std.specs.List.{sum}
use Rattle.profile_rows.specs.Tallies.{capped_wide}
use Rattle.profile_files.proofs.series_file.all_waits.Given as goal

abbrev pub invariant-loop-wait : goal.invariant-loop-wait
invariant-loop-wait l = l.sum ≡ capped_wide (sum (take l.wait-index l.wait-items))
