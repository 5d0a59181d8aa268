use Rattle.std.proofs.Common.{arith, tests}
use Rattle.rv_core.specs.Effect.{ended}
use Rattle.rv_core.specs.Step.{answered}
use Rattle.rv_core.proofs.state.Core.take.Goals as goal

pub returns-in-Fetch-clause-value : goal.returns-in-Fetch-clause-value
unfolding answered ended
returns-in-Fetch-clause-value c = grind (arith, tests)
