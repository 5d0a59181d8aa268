use Rattle.std.proofs.Common.{arith, tests}
use Rattle.access_log.proofs.core_log.CoreLog.spare.Goals as goal

pub returns : goal.returns
returns c = grind (arith, tests)
