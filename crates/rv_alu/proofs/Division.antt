-- Division of signed numbers, as two's complement keeps it.
use Rattle.std.proofs.Common.{◌≡◌, ◌≢◌, ℕ, zero, suc, ◌+◌, ◌-◌, ◌/◌, ◌^◌, ◌<◌, ◌≤◌, ℤ, pos, negsuc, neg_ℤ, ◌≤ℤ◌, refl, sym, ap, ◌∙◌, arith, FitsSigned, unsigned_abs, int_div, int_rem, cond, eqb, ◌&&◌, inl, inr}
use Rattle.std.specs.Int.{Width, w8, w16, w32, w64, w128, cast_signed}
use mir.Val.{bits, hbits}
use Rattle.std.proofs.lemmas.Bool.Decides.{nat_tests}
use Rattle.std.proofs.Math.Facts.{sfits_widen, sfits_to_z, Fits-of_lt}
use Rattle.std.proofs.lemmas.Bool.{cases_eq}
use Rattle.std.proofs.lemmas.Int.{ints, quot-rem, rem_below, fits_signed_from_abs}
use Rattle.std.proofs.lemmas.Nat.{div_below}
use Rattle.rv_alu.specs.Operations.{residue, low_word, sign_extended, signed_quotient, signed_remainder}
use Rattle.rv_alu.specs.Laws.{IsDivision, IsOverflow}
use Rattle.rv_alu.proofs.Residues.{read_back, low_word-residue, signed_size}

fits-neg : (r : ℕ) → r ≤ 2 ^ 63 → FitsSigned w64 (neg_ℤ (pos r))
fits-neg zero h = record { sfits = omega arith }
fits-neg (suc r) h = record { sfits = omega arith }

fits-pos : (r : ℕ) → r < 2 ^ 63 → FitsSigned w64 (pos r)
fits-pos r h = record { sfits = h }

-- the quotient fits, unless it overflows
quotient_fits : (a b : ℤ) → unsigned_abs a ≤ 2 ^ 63 → a ≢ pos (2 ^ 63) → 0 < unsigned_abs b → (b ≡ negsuc 0 → a ≢ negsuc (2 ^ 63 - 1)) → FitsSigned w64 (int_div a b)
quotient_fits (pos n) (pos m) p u q v =
    let below : n ≢ 2 ^ 63 = λ e. u (ap pos e) in
    fits-pos (n / m) (div_below n m (2 ^ 63) q (omega arith))
quotient_fits (pos n) (negsuc m) p u q v = fits-neg (n / suc m) (omega (arith, div_below n (suc m) (2 ^ 63 + 1) (omega arith) (omega arith)))
quotient_fits (negsuc n) (pos m) p u q v = fits-neg (suc n / m) (omega (arith, div_below (suc n) m (2 ^ 63 + 1) q (omega arith)))
quotient_fits (negsuc n) (negsuc zero) p u q v =
    let below : n ≢ 2 ^ 63 - 1 = λ e. v refl (ap negsuc e) in
    fits-pos (suc n / 1) (omega arith)
quotient_fits (negsuc n) (negsuc (suc m)) p u q v = fits-pos (suc n / suc (suc m)) (div_below (suc n) (suc (suc m)) (2 ^ 63) (omega arith) (omega arith))

-- the remainder has the dividend's sign
remainder_up : (a b : ℤ) → pos 0 ≤ℤ a → pos 0 ≤ℤ int_rem a b
remainder_up (pos n) b h = grind (arith, ints)
remainder_up (negsuc n) b h = grind (arith, ints)

remainder_down : (a b : ℤ) → a ≤ℤ pos 0 → int_rem a b ≤ℤ pos 0
remainder_down (pos n) b h = grind (arith, ints)
remainder_down (negsuc n) b h = grind (arith, ints)

-- the branch of a definition that is left by zero and overflow
pub last_branch : (a b m n p q r : ℕ) → b ≢ 0 → ¬ ((a ≡ m) × (b ≡ n)) → cond (eqb b 0) p (cond (eqb a m && eqb b n) q r) ≡ r
last_branch a b m n p q r h k = grind (arith, nat_tests)

-- what rounds toward zero divides
exact : (x y q r : ℤ) → q ≡ int_div x y → r ≡ int_rem x y → 0 < unsigned_abs y → IsDivision x y q r
exact x y q r quotient remainder nonzero =
    rw (quotient, remainder) record {
      whole = quot-rem x y;
      size = rem_below x y nonzero;
      from_zero_up = remainder_up x y;
      from_zero_down = remainder_down x y;
    }

-- the readings that overflow
minus_one : (b : ℕ) → b < 2 ^ 64 → cast_signed w64 b ≡ negsuc 0 → b ≡ 2 ^ 64 - 1
minus_one b q e = grind (arith, ints)

least : (a : ℕ) → a < 2 ^ 64 → cast_signed w64 a ≡ negsuc (2 ^ 63 - 1) → a ≡ 2 ^ 63
least a p e = grind (arith, ints)

not_above : (a : ℕ) → a < 2 ^ 64 → cast_signed w64 a ≢ pos (2 ^ 63)
not_above a p e = grind (arith, ints)

-- two numbers of 64 bits divide as their signed readings do, unless they overflow
pub divides : (a b : ℕ) → a < 2 ^ 64 → b < 2 ^ 64 → b ≢ 0 → ¬ IsOverflow w64 a b → IsDivision (cast_signed w64 a) (cast_signed w64 b) (cast_signed w64 (signed_quotient w64 a b)) (cast_signed w64 (signed_remainder w64 a b))
divides a b p q nonzero fits =
    let x = cast_signed w64 a in
    let y = cast_signed w64 b in
    let positive : 0 < unsigned_abs y = grind (arith, ints) in
    let quotient_is : signed_quotient w64 a b ≡ residue w64 (int_div x y) = last_branch a b (2 ^ 63) (2 ^ 64 - 1) (2 ^ 64 - 1) a (residue w64 (int_div x y)) nonzero fits in
    let remainder_is : signed_remainder w64 a b ≡ residue w64 (int_rem x y) = last_branch a b (2 ^ 63) (2 ^ 64 - 1) a 0 (residue w64 (int_rem x y)) nonzero fits in
    let quotient_fits_here : FitsSigned w64 (int_div x y) =
    quotient_fits x y (signed_size a p) (not_above a p) positive (λ e f. fits (least a p f, minus_one b q e)) in
    let small : unsigned_abs (int_rem x y) < 2 ^ 63 = omega (arith, rem_below x y positive, signed_size b q) in
    let remainder_fits : FitsSigned w64 (int_rem x y) = fits_signed_from_abs w64 (int_rem x y) small in
    let quotient_read : cast_signed w64 (signed_quotient w64 a b) ≡ int_div x y = ap (cast_signed w64) quotient_is ∙ read_back (int_div x y) quotient_fits_here in
    let remainder_read : cast_signed w64 (signed_remainder w64 a b) ≡ int_rem x y = ap (cast_signed w64) remainder_is ∙ read_back (int_rem x y) remainder_fits in
    exact x y _ _ quotient_read remainder_read positive

-- ---- wrapped quotients

-- the quotient that overflows, and its remainder
most_over_minus_one : (w : Width) → (signed_quotient w (2 ^ hbits w) (2 ^ bits w - 1) ≡ residue w (int_div (cast_signed w (2 ^ hbits w)) (cast_signed w (2 ^ bits w - 1))))
    × (signed_remainder w (2 ^ hbits w) (2 ^ bits w - 1) ≡ residue w (int_rem (cast_signed w (2 ^ hbits w)) (cast_signed w (2 ^ bits w - 1))))
most_over_minus_one w8 = (refl, refl)
most_over_minus_one w16 = (refl, refl)
most_over_minus_one w32 = (refl, refl)
most_over_minus_one w64 = (refl, refl)
most_over_minus_one w128 = (refl, refl)

-- the wrapped quotient is the one that overflow states
pub wrapped_quotient : (w : Width) (x y : ℕ) → y ≢ 0 → signed_quotient w x y ≡ residue w (int_div (cast_signed w x) (cast_signed w y))
wrapped_quotient w x y h =
    let z = residue w (int_div (cast_signed w x) (cast_signed w y)) in
    let other : ¬ IsOverflow w x y → signed_quotient w x y ≡ z = last_branch x y (2 ^ hbits w) (2 ^ bits w - 1) (2 ^ bits w - 1) x z h in
    elim (cases_eq x (2 ^ hbits w)) [
      | inl e ↦ elim (cases_eq y (2 ^ bits w - 1)) [
        | inl f ↦ rw (e, f) (most_over_minus_one w).0
        | inr g ↦ other (λ o. g o.1)
      ]
      | inr g ↦ other (λ o. g o.0)
    ]

pub wrapped_remainder : (w : Width) (x y : ℕ) → y ≢ 0 → signed_remainder w x y ≡ residue w (int_rem (cast_signed w x) (cast_signed w y))
wrapped_remainder w x y h =
    let z = residue w (int_rem (cast_signed w x) (cast_signed w y)) in
    let other : ¬ IsOverflow w x y → signed_remainder w x y ≡ z = last_branch x y (2 ^ hbits w) (2 ^ bits w - 1) x 0 z h in
    elim (cases_eq x (2 ^ hbits w)) [
      | inl e ↦ elim (cases_eq y (2 ^ bits w - 1)) [
        | inl f ↦ rw (e, f) (most_over_minus_one w).1
        | inr g ↦ other (λ o. g o.1)
      ]
      | inr g ↦ other (λ o. g o.0)
    ]

-- ---- words

-- a word reads the same once it is extended
word_read : (x : ℕ) → x < 2 ^ 32 → cast_signed w64 (sign_extended x) ≡ cast_signed w32 x
word_read x p = read_back (cast_signed w32 x) (sfits_widen {w = w32} {w' = w64} tt (sfits_to_z {w = w32} (Fits-of_lt {w = w32} p)))

low_word-extended : (x : ℕ) → x < 2 ^ 32 → x ≡ low_word (sign_extended x)
low_word-extended x p = grind (arith, ints)

extended_zero : (y : ℕ) → y < 2 ^ 32 → y ≢ 0 → sign_extended y ≢ 0
extended_zero y q h = grind (arith, ints)

extended_least : (x : ℕ) → x < 2 ^ 32 → sign_extended x ≢ 2 ^ 63
extended_least x p = grind (arith, ints)

-- words divide as the numbers that extend them
pub word_quotient : (x y : ℕ) → x < 2 ^ 32 → y < 2 ^ 32 → signed_quotient w32 x y ≡ low_word (signed_quotient w64 (sign_extended x) (sign_extended y))
word_quotient x y p q =
    elim (cases_eq y 0) [
      | inl e ↦ rw e refl
      | inr h ↦
          let z = residue w64 (int_div (cast_signed w64 (sign_extended x)) (cast_signed w64 (sign_extended y))) in
          let whole : signed_quotient w64 (sign_extended x) (sign_extended y) ≡ z =
          last_branch (sign_extended x) (sign_extended y) (2 ^ 63) (2 ^ 64 - 1) (2 ^ 64 - 1) (sign_extended x) z (extended_zero y q h) (λ o. extended_least x p o.0) in
          wrapped_quotient w32 x y h ∙ sym (ap low_word whole ∙ rw (word_read x p, word_read y q) (low_word-residue (int_div (cast_signed w32 x) (cast_signed w32 y))))
    ]

pub word_remainder : (x y : ℕ) → x < 2 ^ 32 → y < 2 ^ 32 → signed_remainder w32 x y ≡ low_word (signed_remainder w64 (sign_extended x) (sign_extended y))
word_remainder x y p q =
    elim (cases_eq y 0) [
      | inl e ↦ rw e (low_word-extended x p)
      | inr h ↦
          let z = residue w64 (int_rem (cast_signed w64 (sign_extended x)) (cast_signed w64 (sign_extended y))) in
          let whole : signed_remainder w64 (sign_extended x) (sign_extended y) ≡ z =
          last_branch (sign_extended x) (sign_extended y) (2 ^ 63) (2 ^ 64 - 1) (sign_extended x) 0 z (extended_zero y q h) (λ o. extended_least x p o.0) in
          wrapped_remainder w32 x y h ∙ sym (ap low_word whole ∙ rw (word_read x p, word_read y q) (low_word-residue (int_rem (cast_signed w32 x) (cast_signed w32 y))))
    ]
