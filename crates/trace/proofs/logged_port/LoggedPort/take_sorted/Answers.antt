use Rattle.std.proofs.Common.{rules, arith, tests}
use Rattle.trace.proofs.Rising.{knows_none}
use Rattle.trace.proofs.logged_port.LoggedPort.take_sorted.Goals as goal

pub returns-clause-entries : goal.returns-clause-entries
returns-clause-entries c = grind (arith, tests)

pub invariant_of-self : goal.invariant_of-self
invariant_of-self c = knows_none _ (search rules)
