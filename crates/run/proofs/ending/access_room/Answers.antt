use Rattle.std.proofs.Common.{arith, tests}
use Rattle.run.proofs.ending.access_room.Goals as goal

pub returns-clause-value : goal.returns-clause-value
returns-clause-value c = grind (arith, tests)
