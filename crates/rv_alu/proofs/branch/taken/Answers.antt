use Rattle.std.proofs.Common.{arith, tests}
use Rattle.std.proofs.lemmas.Int.{ints}
use Rattle.rv_alu.specs.Branch.{is_taken}
use Rattle.rv_alu.proofs.branch.taken.Goals as goal

pub returns-in-Bge : goal.returns-in-Bge
unfolding is_taken
returns-in-Bge c = rw c.in-Bge.is (grind (arith, ints, tests))
