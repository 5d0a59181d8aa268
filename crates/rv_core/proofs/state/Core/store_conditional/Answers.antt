use Rattle.std.proofs.Common.{arith, tests}
use Rattle.rv_core.proofs.state.Core.store_conditional.Goals as goal

pub ask_atomic-requires-clause-paired : goal.ask_atomic-requires-clause-paired
ask_atomic-requires-clause-paired c = grind (arith, tests)

pub returns-clause-value : goal.returns-clause-value
returns-clause-value c = grind (arith, tests)
