use Rattle.std.specs.List.{list_any, range_with_len}
use Rattle.profile.specs.Profiled.{added_in}
use Rattle.profile.specs.Rows.{IsNext, has_line}
use Rattle.profile.proofs.profile.Profile.next_line_of_all.Given as goal

abbrev pub invariant-loop-core : goal.invariant-loop-core
invariant-loop-core l = IsNext (λ n. list_any (λ core. has_line (added_in l.self) core n) (range_with_len 0 l.core)) l.from l.next
