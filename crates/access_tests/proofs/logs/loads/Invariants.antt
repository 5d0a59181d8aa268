-- The loads so far are of cores 0 and 1.
use Rattle.std.proofs.Common.{◌<◌, All}
use Rattle.access_tests.proofs.logs.loads.Given as goal

abbrev pub invariant-loop-core : goal.invariant-loop-core
invariant-loop-core g l = All (λ e. e.core < 2) l.list.items
