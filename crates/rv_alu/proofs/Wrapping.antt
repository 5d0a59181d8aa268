-- What wrapped operations on signed integers give, by their contracts.
use Rattle.std.proofs.Common.{◌≡◌, ◌≢◌, ℕ, zero, suc, ◌+◌, ◌-◌, ◌*◌, ◌/◌, ◌%◌, ◌^◌, ◌<◌, ◌≤◌, ℤ, pos, negsuc, neg_ℤ, refl, sym, ap, ◌∙◌, arith, Fits, SFits, unsigned_abs, int_div, int_rem, to_z, of_z, to_z-of_z}
use Rattle.std.specs.Int.{Width, w32, w64, cast_signed, int_wrapping_div}
use Rattle.std.proofs.Math.Facts.{Fits-of_lt, of_z-to_z, sfits_to_z}
use Rattle.std.proofs.lemmas.Nat.{div_below}
use Rattle.rv_alu.specs.Operations.{residue, signed_quotient, signed_remainder}
use Rattle.rv_alu.proofs.Division.{wrapped_quotient, wrapped_remainder}
use mir.Val.{hbits}

-- a number of w bits but for the greatest is written as its residue
abbrev pub IsWritten : Width → Type 0
IsWritten w = (z : ℤ) → unsigned_abs z ≤ 2 ^ hbits w → of_z w (to_z w (of_z w z)) ≡ residue w z

pub words_are_written : IsWritten w32
words_are_written (pos n) small = let is : n ≡ n % 2 ^ 32 = omega (arith, small) in of_z-to_z {w = w32} (Fits-of_lt {w = w32} (omega (arith, small))) ∙ is
words_are_written (negsuc n) small = let is : 2 ^ 32 - suc n ≡ 2 ^ 32 - 1 - n % 2 ^ 32 = omega (arith, small) in of_z-to_z {w = w32} (Fits-of_lt {w = w32} (omega arith)) ∙ is

pub doublewords_are_written : IsWritten w64
doublewords_are_written (pos n) small = let is : n ≡ n % 2 ^ 64 = omega (arith, small) in of_z-to_z {w = w64} (Fits-of_lt {w = w64} (omega (arith, small))) ∙ is
doublewords_are_written (negsuc n) small = let is : 2 ^ 64 - suc n ≡ 2 ^ 64 - 1 - n % 2 ^ 64 = omega (arith, small) in of_z-to_z {w = w64} (Fits-of_lt {w = w64} (omega arith)) ∙ is

-- the size of a number that fits
size : (w : Width) (z : ℤ) → SFits w z → unsigned_abs z ≤ 2 ^ hbits w
size w (pos n) f = omega (arith, f.sfits)
size w (negsuc n) f = omega (arith, f.sfits)

abs_neg : (n : ℕ) → unsigned_abs (neg_ℤ (pos n)) ≡ n
abs_neg zero = refl
abs_neg (suc n) = refl

-- a quotient is not greater than what is divided
quotient_below : (n k m : ℕ) → 0 < k → n ≤ m → n / k ≤ m
quotient_below n zero m some small = absurd (omega (arith, some))
quotient_below n (suc k) m some small =
    let below : n < (m + 1) * suc k = omega (arith, small) in
    omega (arith, div_below n (suc k) (m + 1) some below)

quotient_small : (m : ℕ) (x y : ℤ) → unsigned_abs x ≤ m → 0 < unsigned_abs y → unsigned_abs (int_div x y) ≤ m
quotient_small m (pos n) (pos k) small some = quotient_below n k m some small
quotient_small m (pos n) (negsuc k) small some = omega (arith, abs_neg (n / suc k), quotient_below n (suc k) m some small)
quotient_small m (negsuc n) (pos k) small some = omega (arith, abs_neg (suc n / k), quotient_below (suc n) k m some small)
quotient_small m (negsuc n) (negsuc k) small some = quotient_below (suc n) (suc k) m some small

-- what is not 0 does not read as 0
read_some : (w : Width) (z : ℤ) → of_z w z ≢ 0 → 0 < unsigned_abs z
read_some w (pos zero) h = absurd (h refl)
read_some w (pos (suc n)) h = omega arith
read_some w (negsuc n) h = omega arith

some_read : (w : Width) (b : ℕ) → Fits w b → b ≢ 0 → 0 < unsigned_abs (cast_signed w b)
some_read w b fits nonzero = read_some w (to_z w b) (λ e. nonzero (sym (of_z-to_z {w = w} fits) ∙ e))

-- the division of two numbers that are read as signed and whose quotient is written again
pub divided : (w : Width) → IsWritten w → (a b : ℕ) → Fits w a → Fits w b → b ≢ 0 → (x y q : ℤ) (result : ℕ) → SFits w x → SFits w y → SFits w q
    → x ≡ cast_signed w a → y ≡ cast_signed w b → q ≡ int_wrapping_div w (to_z w (of_z w x)) (to_z w (of_z w y)) → result ≡ of_z w (to_z w (of_z w q))
    → result ≡ signed_quotient w a b
divided w written a b fits_a fits_b nonzero x y q result fits_x fits_y fits_q x_is y_is q_is result_is =
    let left : to_z w (of_z w x) ≡ cast_signed w a = to_z-of_z {w = w} fits_x ∙ x_is in
    let right : to_z w (of_z w y) ≡ cast_signed w b = to_z-of_z {w = w} fits_y ∙ y_is in
    let d = int_div (cast_signed w a) (cast_signed w b) in
    let is : q ≡ to_z w (of_z w d) =
    q_is ∙ ap (λ (z : ℤ). to_z w (of_z w (int_div z (to_z w (of_z w y))))) left ∙ ap (λ (z : ℤ). to_z w (of_z w (int_div (cast_signed w a) z))) right
    in
    let small : unsigned_abs d ≤ 2 ^ hbits w = quotient_small (2 ^ hbits w) (to_z w a) (to_z w b) (size w (to_z w a) (sfits_to_z {w = w} fits_a)) (some_read w b fits_b nonzero) in
    result_is ∙ ap (of_z w) (to_z-of_z {w = w} fits_q ∙ is) ∙ written d small ∙ sym (wrapped_quotient w a b nonzero)

-- the same of the remainder
pub left_over : (w : Width) → IsWritten w → (a b : ℕ) → b ≢ 0 → (x y r : ℤ) (result : ℕ) → SFits w x → SFits w y → SFits w r
    → x ≡ cast_signed w a → y ≡ cast_signed w b → r ≡ int_rem (to_z w (of_z w x)) (to_z w (of_z w y)) → result ≡ of_z w (to_z w (of_z w r))
    → result ≡ signed_remainder w a b
left_over w written a b nonzero x y r result fits_x fits_y fits_r x_is y_is r_is result_is =
    let left : to_z w (of_z w x) ≡ cast_signed w a = to_z-of_z {w = w} fits_x ∙ x_is in
    let right : to_z w (of_z w y) ≡ cast_signed w b = to_z-of_z {w = w} fits_y ∙ y_is in
    let is : r ≡ int_rem (cast_signed w a) (cast_signed w b) = r_is ∙ ap (λ (z : ℤ). int_rem z (to_z w (of_z w y))) left ∙ ap (int_rem (cast_signed w a)) right in
    result_is ∙ written r (size w r fits_r) ∙ ap (residue w) is ∙ sym (wrapped_remainder w a b nonzero)
