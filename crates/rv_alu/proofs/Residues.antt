-- What two's complement keeps of a whole number.
use Rattle.std.proofs.Common.{◌≡◌, ℕ, ◌*◌, ◌%◌, ◌^◌, ◌<◌, ◌≤◌, ℤ, pos, negsuc, ◌+ℤ◌, ◌*ℤ◌, refl, sym, ap, ◌∙◌, arith, FitsSigned, unsigned_abs}
use Rattle.std.specs.Int.{w32, w64, w128, cast_signed, int_wrap}
use Rattle.std.proofs.lemmas.Int.{ints, wrapping_mul-bits, int_wrap-mul_right}
use Rattle.std.proofs.Math.Facts.{to_z_inj, Fits-of_lt}
use Rattle.rv_alu.specs.Operations.{residue, upper_half}

-- a number that fits is read back
pub read_back : (z : ℤ) → FitsSigned w64 z → cast_signed w64 (residue w64 z) ≡ z
read_back (pos n) f = grind (arith, ints)
read_back (negsuc n) f = grind (arith, ints)

-- the low 32 of 64 bits
pub low_word-residue : (z : ℤ) → residue w64 z % 2 ^ 32 ≡ residue w32 z
low_word-residue (pos n) = omega arith
low_word-residue (negsuc n) = omega arith

-- the halves of 128 bits
pub halves : (z : ℤ) → FitsSigned w128 z → cast_signed w64 (upper_half z) *ℤ pos (2 ^ 64) +ℤ pos (residue w64 z) ≡ z
halves (pos n) f = grind (arith, ints)
halves (negsuc n) f = grind (arith, ints)

-- to wrap a number is to read its residue
int_wrap-residue : (z : ℤ) → int_wrap w64 z ≡ cast_signed w64 (residue w64 z)
unfolding int_wrap
int_wrap-residue (pos n) = refl
int_wrap-residue (negsuc n) = refl

residue-lt : (z : ℤ) → residue w64 z < 2 ^ 64
residue-lt (pos n) = omega arith
residue-lt (negsuc n) = omega arith

-- the low half of a product does not depend on how its factors are read
pub low_product : (a b : ℕ) → a < 2 ^ 64 → b < 2 ^ 64 → (a * b) % 2 ^ 64 ≡ residue w64 (cast_signed w64 a *ℤ cast_signed w64 b)
low_product a b p q =
    let z = cast_signed w64 a *ℤ cast_signed w64 b in
    to_z_inj {w = w64} (Fits-of_lt {w = w64} (omega arith)) (Fits-of_lt {w = w64} (residue-lt z)) (wrapping_mul-bits w64 a b p q ∙ int_wrap-residue z)

pub low_product_mixed : (a b : ℕ) → a < 2 ^ 64 → b < 2 ^ 64 → (a * b) % 2 ^ 64 ≡ residue w64 (cast_signed w64 a *ℤ pos b)
low_product_mixed a b p q =
    let x = cast_signed w64 a in
    let wrapped : int_wrap w64 (pos b) ≡ cast_signed w64 b = int_wrap-residue (pos b) ∙ ap (cast_signed w64) (omega arith) in
    to_z_inj {w = w64} (Fits-of_lt {w = w64} (omega arith)) (Fits-of_lt {w = w64} (residue-lt (x *ℤ pos b)))
    (wrapping_mul-bits w64 a b p q ∙ ap (λ (y : ℤ). int_wrap w64 (x *ℤ y)) (sym wrapped) ∙ int_wrap-mul_right w64 x (pos b) ∙ int_wrap-residue (x *ℤ pos b))

pub signed_size : (a : ℕ) → a < 2 ^ 64 → unsigned_abs (cast_signed w64 a) ≤ 2 ^ 63
signed_size a p = grind (arith, ints)
