-- The bits of masks.
use Rattle.std.proofs.Common.{◌≡◌, ℕ, zero, suc, ◌-◌, ◌*◌, ◌/◌, ◌%◌, ◌^◌, ◌<◌, ◌≤◌, ◌⊎◌, inl, inr, ◌&&◌, ◌||◌, eqb, max, min, nat_le, nat_lt, bit_and, bit_or, refl, sym, ap, ap₂, ◌∙◌, arith}
use Rattle.std.specs.Int.{bit_at}
use Rattle.std.proofs.lemmas.Bool.{cases_lt, le-leb, lt-leb, lt-ltb, le-ltb}
use Rattle.std.proofs.lemmas.Nat.Bits.{bit_at-lt, bit_at_and, bit_at_mask_below, bit_at_mask_inside, bit_at_ones, bit_at_ones_above, bit_at_or, ones_shl, ones_shr}
use Rattle.line_use.specs.Bytes.{has_bit}

one_of : (x y : ℕ) → x < 2 → y < 2 → eqb (max x y) 1 ≡ (eqb x 1 || eqb y 1)
one_of zero zero l m = refl
one_of zero (suc zero) l m = refl
one_of zero (suc (suc y)) l m = absurd (omega arith)
one_of (suc zero) zero l m = refl
one_of (suc zero) (suc zero) l m = refl
one_of (suc zero) (suc (suc y)) l m = absurd (omega arith)
one_of (suc (suc x)) y l m = absurd (omega arith)

pub bits_or : (a b i : ℕ) → has_bit (bit_or a b) i ≡ (has_bit a i || has_bit b i)
bits_or a b i = ap (λ (x : ℕ). eqb x 1) (bit_at_or a b i) ∙ one_of (bit_at a i) (bit_at b i) (bit_at-lt a i) (bit_at-lt b i)

both_of : (x y : ℕ) → x < 2 → y < 2 → eqb (min x y) 1 ≡ (eqb x 1 && eqb y 1)
both_of zero zero l m = refl
both_of zero (suc zero) l m = refl
both_of zero (suc (suc y)) l m = absurd (omega arith)
both_of (suc zero) zero l m = refl
both_of (suc zero) (suc zero) l m = refl
both_of (suc zero) (suc (suc y)) l m = absurd (omega arith)
both_of (suc (suc x)) y l m = absurd (omega arith)

bits_and : (a b i : ℕ) → has_bit (bit_and a b) i ≡ (has_bit a i && has_bit b i)
bits_and a b i = ap (λ (x : ℕ). eqb x 1) (bit_at_and a b i) ∙ both_of (bit_at a i) (bit_at b i) (bit_at-lt a i) (bit_at-lt b i)

-- the bits from a place on, of 64
from_on : (from i : ℕ) → i < 64 → has_bit (2 ^ 64 - 2 ^ from) i ≡ nat_le from i
from_on from i within = by (cases_lt i from)
  where
    by : (i < from) ⊎ (from ≤ i) → has_bit (2 ^ 64 - 2 ^ from) i ≡ nat_le from i
    by (inl lt) = ap (λ (x : ℕ). eqb x 1) (bit_at_mask_below from 64 i lt) ∙ sym (lt-leb from i lt)
    by (inr le) = ap (λ (x : ℕ). eqb x 1) (bit_at_mask_inside from 64 i le within) ∙ sym (le-leb from i le)

-- and those up to one
up_to : (to i : ℕ) → has_bit (2 ^ to - 1) i ≡ nat_lt i to
up_to to i = by (cases_lt i to)
  where
    by : (i < to) ⊎ (to ≤ i) → has_bit (2 ^ to - 1) i ≡ nat_lt i to
    by (inl lt) = ap (λ (x : ℕ). eqb x 1) (bit_at_ones to i lt) ∙ sym (lt-ltb i to lt)
    by (inr le) = ap (λ (x : ℕ). eqb x 1) (bit_at_ones_above to i le) ∙ sym (le-ltb i to le)

pub bits_between : (from to i : ℕ) → from < to → to ≤ 64 → i < 64
    → has_bit (bit_and (18446744073709551615 * 2 ^ from % 18446744073709551616) (18446744073709551615 / 2 ^ (64 - to))) i ≡ (nat_le from i && nat_lt i to)
bits_between from to i lt le within =
    let high : 18446744073709551615 * 2 ^ from % 18446744073709551616 ≡ 2 ^ 64 - 2 ^ from = ones_shl 64 from (omega (arith, lt, le)) in
    let low : 18446744073709551615 / 2 ^ (64 - to) ≡ 2 ^ (64 - (64 - to)) - 1 = ones_shr 64 (64 - to) (omega arith) in
    let up : 64 - (64 - to) ≡ to = omega (arith, le) in
    ap₂ (λ (a b : ℕ). has_bit (bit_and a b) i) high (low ∙ ap (λ (k : ℕ). 2 ^ k - 1) up)
    ∙ bits_and (2 ^ 64 - 2 ^ from) (2 ^ to - 1) i
    ∙ ap₂ (λ (x y : _). x && y) (from_on from i within) (up_to to i)
