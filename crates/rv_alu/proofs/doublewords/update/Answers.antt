use Rattle.std.proofs.Common.{arith, tests}
use Rattle.std.proofs.lemmas.Int.{ints}
use Rattle.rv_alu.proofs.doublewords.update.Goals as goal

pub returns-in-Min : goal.returns-in-Min
returns-in-Min c = rw c.in-Min.is (grind (arith, ints, tests))
