use Rattle.std.proofs.Common.{◌-◌, ◌^◌, pos, ◌*ℤ◌, arith, FitsSigned}
use Rattle.std.specs.Int.{w64, w128, cast_signed}
use Rattle.std.proofs.lemmas.Int.{fits_signed_mul}
use Rattle.rv_alu.proofs.Residues.{halves, low_product, low_product_mixed, signed_size}
use Rattle.rv_alu.specs.Arithmetic.{result_of}
use Rattle.rv_alu.proofs.laws.product_halves.Goals as goal

pub returns-clause-signed : goal.returns-clause-signed
unfolding result_of
returns-clause-signed c = λ a b p q.
    let x = cast_signed w64 a in
    let y = cast_signed w64 b in
    let z = x *ℤ y in
    let fits : FitsSigned w128 z = fits_signed_mul w128 x y (2 ^ 63) (2 ^ 63) (signed_size a p) (signed_size b q) (omega arith) in
    rw (low_product a b p q) (halves z fits)

pub returns-clause-mixed : goal.returns-clause-mixed
unfolding result_of
returns-clause-mixed c = λ a b p q.
    let x = cast_signed w64 a in
    let z = x *ℤ pos b in
    let fits : FitsSigned w128 z = fits_signed_mul w128 x (pos b) (2 ^ 63) (2 ^ 64 - 1) (signed_size a p) (omega arith) (omega arith) in
    rw (low_product_mixed a b p q) (halves z fits)
