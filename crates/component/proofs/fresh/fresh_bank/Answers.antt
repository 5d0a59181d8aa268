use Rattle.std.proofs.Common.{arith}
use Rattle.component.proofs.fresh.fresh_bank.Goals as goal

pub returns-clause-times : goal.returns-clause-times
returns-clause-times c = record { lookup = omega arith; remote = omega arith; fill = omega arith; occupancy = omega arith }
