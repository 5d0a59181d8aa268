use Rattle.std.proofs.Common.{arith, tests}
use Rattle.rv_core.specs.Accesses.{load_requests}
use Rattle.rv_core.specs.Effect.{accesses}
use Rattle.rv_core.proofs.state.Core.load.Goals as goal

pub returns-then-is_in_line-clause-value : goal.returns-then-is_in_line-clause-value
unfolding load_requests accesses
returns-then-is_in_line-clause-value c = grind (arith, tests)

pub returns-else-is_in_line-clause-value : goal.returns-else-is_in_line-clause-value
unfolding load_requests accesses
returns-else-is_in_line-clause-value c = grind (arith, tests)
