use Rattle.std.proofs.Common.{◌≡◌, ◌++◌, map}
use Rattle.std.specs.List.{filter, range_with_len}
use Rattle.profile.specs.Listed.{line_row}
use Rattle.profile.specs.Profiled.{added_in}
use Rattle.profile.specs.Rows.{has_line}
use Rattle.profile.proofs.profile.Profile.push_line.Given as goal

abbrev pub invariant-loop-core : goal.invariant-loop-core
invariant-loop-core l = l.rows.items ≡ l.initial.rows.items ++ map (line_row l.self l.line) (filter (λ core. has_line (added_in l.self) core l.line) (range_with_len 0 l.core))
