-- what was written and the lines of the rest are all lines
use Rattle.std.proofs.Common.{◌≡◌, ◌++◌, string_bytes, drop, map}
use Rattle.std.specs.List.{zip}
use Rattle.report.specs.ReportText.{numbered_lines, core_lines}
use Rattle.report.proofs.core_lines.write_cores.Given as goal

abbrev pub invariant-loop-n : goal.invariant-loop-n
invariant-loop-n l =
    string_bytes l.text ++ numbered_lines (core_lines l.version) l.n (zip (map (λ c. c.timed) (drop l.n l.cores)) (drop l.n l.counters.core_counts))
    ≡ string_bytes l.initial.text ++ numbered_lines (core_lines l.version) 0 (zip (map (λ c. c.timed) l.cores) l.counters.core_counts)
