use Rattle.std.proofs.Common.{arith, tests}
use Rattle.rv_core.proofs.state.Core.ask_atomic.Goals as goal

pub begin-requires-clause-served : goal.begin-requires-clause-served
begin-requires-clause-served c = grind (arith, tests)
