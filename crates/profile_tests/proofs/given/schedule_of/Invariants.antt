use Rattle.std.proofs.Common.{◌≡◌}
use Rattle.profile_tests.proofs.given.schedule_of.Given as goal

abbrev pub invariant-loop-list : goal.invariant-loop-list
invariant-loop-list g l = l.schedule.cores ≡ l.cores
