-- the greatest so far and the greatest of the rest give the greatest of all
use Rattle.std.proofs.Common.{◌≡◌, max, drop, map}
use Rattle.report.specs.ReportText.{greatest_clock}
use Rattle.report.proofs.summary.greatest_clock.Given as goal

abbrev pub invariant-loop-core : goal.invariant-loop-core
invariant-loop-core l = max l.greatest (greatest_clock (map (λ c. c.timed) (drop l.core-index l.cores))) ≡ greatest_clock (map (λ c. c.timed) l.cores)
