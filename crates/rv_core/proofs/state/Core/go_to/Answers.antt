use Rattle.std.proofs.Common.{rules, arith, tests}
use Rattle.rv_core.proofs.state.Core.go_to.Goals as goal

pub invariant_of-self : goal.invariant_of-self
invariant_of-self c = grind (rules, arith, tests)
