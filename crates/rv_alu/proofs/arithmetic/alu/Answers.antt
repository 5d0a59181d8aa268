use Rattle.std.proofs.Common.{arith}
use Rattle.rv_alu.specs.Arithmetic.{result_of}
use Rattle.rv_alu.proofs.arithmetic.alu.Goals as goal

pub returns-in-Mulhsu : goal.returns-in-Mulhsu
unfolding result_of
returns-in-Mulhsu c = rw c.in-Mulhsu.is (omega arith)

pub returns-in-Srliw : goal.returns-in-Srliw
unfolding result_of
returns-in-Srliw c = let is = c.in-Srliw.is in grind arith
