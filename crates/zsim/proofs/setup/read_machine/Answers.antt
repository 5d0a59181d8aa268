use Rattle.std.proofs.Common.{arith, tests}
use Rattle.zsim.proofs.setup.read_machine.Goals as goal

pub returns-in-Some-clause-text : goal.returns-in-Some-clause-text
returns-in-Some-clause-text g c = grind (arith, tests)

pub returns-in-Some-clause-faults : goal.returns-in-Some-clause-faults
returns-in-Some-clause-faults g c = grind (arith, tests)
