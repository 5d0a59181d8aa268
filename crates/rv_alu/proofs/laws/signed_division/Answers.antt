use Rattle.rv_alu.proofs.Division.{divides}
use Rattle.rv_alu.specs.Arithmetic.{result_of}
use Rattle.rv_alu.proofs.laws.signed_division.Goals as goal

pub returns : goal.returns
unfolding result_of
returns c = divides
