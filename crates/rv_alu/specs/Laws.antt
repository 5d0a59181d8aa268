-- Words of the laws that hold between results.
use Rattle.std.specs.Prelude.{◌≡◌, ℕ, ◌-◌, ◌^◌, ◌<◌, ℤ, pos, ◌+ℤ◌, ◌*ℤ◌, ◌≤ℤ◌, unsigned_abs}
use Rattle.std.specs.Int.{Width}
use mir.Val.{bits, hbits}
use Rattle.rv_alu.specs.Operations.{low_word, sign_extended}

-- the low 32 bits of a number of 64, sign-extended
abbrev pub signed_word : ℕ → ℕ
signed_word x = sign_extended (low_word x)

-- the dividend is the quotient times the divisor plus the remainder, which is nearer to 0 than the
-- divisor and has the dividend's sign
pub record IsDivision (dividend divisor quotient remainder : ℤ) : Type 0 where
  pub whole : quotient *ℤ divisor +ℤ remainder ≡ dividend
  pub size : unsigned_abs remainder < unsigned_abs divisor
  pub from_zero_up : pos 0 ≤ℤ dividend → pos 0 ≤ℤ remainder
  pub from_zero_down : dividend ≤ℤ pos 0 → remainder ≤ℤ pos 0

-- the most negative number by -1
abbrev pub IsOverflow : Width → ℕ → ℕ → Type 0
IsOverflow w a b = (a ≡ 2 ^ hbits w) × (b ≡ 2 ^ bits w - 1)

-- the upper and the lower 64 bits of a whole product
abbrev pub AreHalves : ℤ → ℕ → ℤ → Type 0
AreHalves high low whole = high *ℤ pos (2 ^ 64) +ℤ pos low ≡ whole
