use Rattle.std.proofs.Common.{arith, tests}
use Rattle.zsim.proofs.setup.read_exe.Goals as goal

pub returns-in-File-clause-exe : goal.returns-in-File-clause-exe
returns-in-File-clause-exe g c = grind (arith, tests)

pub returns-in-File-clause-faults : goal.returns-in-File-clause-faults
returns-in-File-clause-faults g c = grind (arith, tests)
