use Rattle.std.proofs.Common.{arith, tests}
use Rattle.rv_core.specs.Effect.{writes}
use Rattle.rv_core.proofs.state.Core.write_call.Goals as goal

pub returns-then-count-eq0-clause-value : goal.returns-then-count-eq0-clause-value
unfolding writes
returns-then-count-eq0-clause-value c = grind (arith, tests)

pub returns-then-has-clause-value : goal.returns-then-has-clause-value
unfolding writes
returns-then-has-clause-value c = grind (arith, tests)

pub returns-else-has-clause-value : goal.returns-else-has-clause-value
unfolding writes
returns-else-has-clause-value c = grind (arith, tests)
