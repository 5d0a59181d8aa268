-- A negative number plus a power of two, as the code computes it.
use Rattle.std.proofs.Common.{◌≡◌, ◌≤◌, ◌<◌, ◌*◌, ◌%◌, ◌^◌, ◌-◌, ◌∙◌, arith, pos, negsuc, neg_ℤ, ◌+ℤ◌, ◌<ℤ◌, ◌≤ℤ◌, ℤ, ℕ, suc, SFits, to_z, of_z, w64, pow_mono}
use Rattle.std.proofs.lemmas.Int.{ints}
use Rattle.std.proofs.lemmas.Nat.{one_shl, pow_pos}
use Rattle.rv_encode.specs.Encoding.{unsigned}

above_zero : (n p : ℕ) → neg_ℤ (pos p) ≤ℤ negsuc n → negsuc n +ℤ pos p ≡ pos (p - suc n)
above_zero n p h = omega (arith, ints)

sum_of : (z : ℤ) (width : ℕ) → z <ℤ pos 0 → neg_ℤ (pos (2 ^ width)) ≤ℤ z → z +ℤ pos (2 ^ width) ≡ pos (unsigned width z)
sum_of (pos n) width low high = absurd (omega (arith, ints))
sum_of (negsuc n) width low high = above_zero n (2 ^ width) high

computed : (z : ℤ) (p q : ℕ) → SFits w64 z → z <ℤ pos 0 → q ≡ p → p ≤ 2 ^ 32 → to_z w64 (of_z w64 (to_z w64 (of_z w64 z) +ℤ to_z w64 q)) ≡ z +ℤ pos p
computed z p q fits low e h = omega (arith, ints)

pub shifted_up : (z : ℤ) (width : ℕ) → SFits w64 z → width ≤ 32 → z <ℤ pos 0 → neg_ℤ (pos (2 ^ width)) ≤ℤ z → to_z w64 (of_z w64 (to_z w64 (of_z w64 z) +ℤ to_z w64 (1 * 2 ^ width % 2 ^ 64))) ≡ pos (unsigned width z)
shifted_up z width fits narrow low high =
    computed z (2 ^ width) (1 * 2 ^ width % 2 ^ 64) fits low (one_shl width 64 (omega arith)) (pow_mono narrow) ∙ sum_of z width low high

pub unsigned_fits : (z : ℤ) (width : ℕ) → width ≤ 32 → z <ℤ pos 0 → unsigned width z < 2 ^ 32
unsigned_fits (pos n) width narrow low = absurd (omega (arith, ints))
unsigned_fits (negsuc n) width narrow low = let h : 2 ^ width ≤ 2 ^ 32 = pow_mono narrow in let some : 0 < 2 ^ width = pow_pos width in omega arith
