-- The lowest bit of a number.
use Rattle.std.proofs.Common.{◌≡◌, ℕ, zero, suc, ◌+◌, ◌-◌, ◌*◌, ◌/◌, ◌%◌, ◌<◌, ◌^◌, w64, bit_and, min, pow-suc, arith, ap, ◌∙◌, refl}
use Rattle.std.specs.Int.{trailing_zeros}
use Rattle.std.specs.Int.Bits.{and_self, and_step}
use Rattle.std.specs.Int.Count.{count_trailing_zeros, under}
use Rattle.std.proofs.lemmas.Nat.Bits.{bit_at-trailing_zeros}

-- it stands below the width
pub below_width : (n : ℕ) → 0 < n → n < 2 ^ 64 → trailing_zeros w64 n < 64
below_width n some fits = (bit_at-trailing_zeros w64 n some fits).0

-- An odd number shares all but its lowest bit with the one before, and an even one what its half shares.
alone_by : (n t d : ℕ) → n % 2 ≡ d → 0 < n → bit_and n (n - 1) ≡ 0
    → (0 < n / 2 → bit_and (n / 2) (n / 2 - 1) ≡ 0 → n / 2 ≡ 2 ^ t) → n ≡ 2 ^ under d t
alone_by n t zero even some apart half =
    let before : (n - 1) / 2 ≡ n / 2 - 1 = omega arith in
    let step = and_step n (n - 1) ∙ ap (λ m. bit_and (n / 2) m * 2 + min (n % 2) ((n - 1) % 2)) before in
    omega (arith, half (omega arith) (omega (arith, step, apart)), pow-suc 2 t)
alone_by n t (suc d) odd some apart half =
    let before : (n - 1) / 2 ≡ n / 2 = omega arith in
    let step = and_step n (n - 1) ∙ ap (λ m. bit_and (n / 2) m * 2 + min (n % 2) ((n - 1) % 2)) before in
    omega (arith, step, apart, and_self (n / 2))

alone_in : (k n : ℕ) → 0 < n → n < 2 ^ k → bit_and n (n - 1) ≡ 0 → n ≡ 2 ^ count_trailing_zeros k n
unfolding count_trailing_zeros
alone_in zero n some fits apart = absurd (omega arith)
alone_in (suc k) n some fits apart =
    alone_by n (count_trailing_zeros k (n / 2)) (n % 2) refl some apart
    (λ rest apart. alone_in k (n / 2) rest (omega (arith, pow-suc 2 k)) apart)

-- a number that shares no bit with the one before is its lowest bit alone
pub alone : (n : ℕ) → 0 < n → n < 2 ^ 64 → bit_and n (n - 1) ≡ 0 → n ≡ 2 ^ trailing_zeros w64 n
alone = alone_in 64
