use Rattle.std.proofs.Common.{◌≡◌, ◌-◌, ◌^◌, ◌≤◌, ℤ, pos, ◌*ℤ◌, ap, ◌∙◌, arith, FitsSigned, to_z, of_z, to_z-of_z}
use Rattle.std.specs.Int.{w64, w128, cast_signed}
use Rattle.std.proofs.lemmas.Int.{fits_signed_mul}
use Rattle.rv_alu.specs.Operations.{upper_half}
use Rattle.rv_alu.proofs.Residues.{signed_size}
use Rattle.rv_alu.proofs.doublewords.multiply_high_mixed.Goals as goal

pub returns : goal.returns
returns c =
    let a = c.args.first in
    let b = c.args.second in
    let x = cast_signed w64 a in
    let left : to_z w128 (of_z w128 c.from.result) ≡ x =
    to_z-of_z {w = w128} (record { sfits = c.from.type_inv }) ∙ c.from.ensures ∙ to_z-of_z {w = w64} (record { sfits = c.cast_signed.type_inv }) ∙ c.cast_signed.ensures
    in
    let right : to_z w128 (of_z w128 c.from-2.result) ≡ pos b = to_z-of_z {w = w128} (record { sfits = c.from-2.type_inv }) ∙ c.from-2.ensures in
    let below : b ≤ 2 ^ 64 - 1 = omega (arith, c.ranges.second.fits) in
    let fits : FitsSigned w128 (x *ℤ pos b) = fits_signed_mul w128 x (pos b) (2 ^ 63) (2 ^ 64 - 1) (signed_size a c.ranges.first.fits) below (omega arith) in
    c.upper_half.ensures
    ∙ ap (λ (z : ℤ). upper_half (to_z w128 (of_z w128 (z *ℤ to_z w128 (of_z w128 c.from-2.result))))) left
    ∙ ap (λ (z : ℤ). upper_half (to_z w128 (of_z w128 (x *ℤ z)))) right
    ∙ ap upper_half (to_z-of_z {w = w128} fits)
