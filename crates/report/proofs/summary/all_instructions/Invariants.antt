-- the sum so far and the sum of the rest are the whole sum, and each core adds less than 2^64
use Rattle.std.proofs.Common.{◌≡◌, ◌+◌, ◌*◌, ◌≤◌, drop, map}
use Rattle.report.specs.ReportText.{all_instructions}
use Rattle.report.proofs.summary.all_instructions.Given as goal

abbrev pub invariant-loop-core : goal.invariant-loop-core
invariant-loop-core l = record {
  sum : l.sum + all_instructions (map (λ c. c.timed) (drop l.core-index l.cores)) ≡ all_instructions (map (λ c. c.timed) l.cores);
  bound : l.sum ≤ 0xFFFF_FFFF_FFFF_FFFF * l.core-index;
}
