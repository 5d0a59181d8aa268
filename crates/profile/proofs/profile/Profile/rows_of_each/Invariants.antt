use Rattle.profile.specs.Listed.{AreCoresRows}
use Rattle.profile.proofs.profile.Profile.rows_of_each.Given as goal

abbrev pub invariant-loop-core : goal.invariant-loop-core
invariant-loop-core l = AreCoresRows l.self l.core l.rows.items
