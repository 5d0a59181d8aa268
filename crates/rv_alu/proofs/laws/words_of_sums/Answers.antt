use Rattle.std.proofs.Common.{◌^◌, arith, ap}
use Rattle.std.proofs.lemmas.Nat.{mul-mod}
use Rattle.rv_alu.specs.Operations.{sign_extended}
use Rattle.rv_alu.specs.Arithmetic.{result_of}
use Rattle.rv_alu.proofs.laws.words_of_sums.Goals as goal

pub returns-clause-product : goal.returns-clause-product
unfolding result_of
returns-clause-product c = λ a b. ap sign_extended (omega (arith, mul-mod a b (2 ^ 32)))
