-- The chains of the first cores have begun.
use Rattle.std.proofs.Common.{◌≡◌, length}
use Rattle.weave_chains.proofs.States.{AreFreshChains}
use Rattle.weave_chains.proofs.beginning.begin_chains.Given as goal

abbrev pub invariant-loop-core : goal.invariant-loop-core
invariant-loop-core g l = record { fresh : AreFreshChains (g.A.Accesses.lists l.accesses) l.core l.chains; count : length l.chains ≡ length l.fn.chains }
