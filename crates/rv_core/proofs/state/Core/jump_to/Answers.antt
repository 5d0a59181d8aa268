use Rattle.std.proofs.Common.{arith, tests}
use Rattle.rv_core.specs.Effect.{jumps}
use Rattle.rv_core.proofs.state.Core.jump_to.Goals as goal

pub returns-else-target-eq0-clause-value : goal.returns-else-target-eq0-clause-value
unfolding jumps
returns-else-target-eq0-clause-value c = grind (arith, tests)
