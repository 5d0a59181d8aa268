use Rattle.std.specs.List.{list_any, range_with_len}
use Rattle.profile.specs.Profiled.{has_address}
use Rattle.profile.specs.Rows.{IsNext}
use Rattle.profile.proofs.profile.Profile.next_of_all.Given as goal

abbrev pub invariant-loop-core : goal.invariant-loop-core
invariant-loop-core l = IsNext (λ n. list_any (λ core. has_address l.self core n) (range_with_len 0 l.core)) l.from l.next
