-- Arithmetic on numbers of w bits, 32 or 64: unsigned numbers below 2 ^ bits w, which two's
-- complement also reads as signed (`cast_signed`).
use Rattle.std.specs.Prelude.{ℕ, ◌+◌, ◌-◌, ◌*◌, ◌/◌, ◌%◌, ◌^◌, Bool, ◌&&◌, ◌==◌, if◌then◌else◌, ℤ, pos, negsuc, ◌-ℤ◌, int_div, int_rem}
use Rattle.std.specs.Int.{Width, w32, w64, w128, cast_signed, int_shr}
use mir.Val.{bits, hbits}

-- z modulo 2 ^ bits w: the number of w bits that stands for z in two's complement
abbrev pub residue : Width → ℤ → ℕ
residue w (pos n) = n % 2 ^ bits w
residue w (negsuc n) = 2 ^ bits w - 1 - n % 2 ^ bits w

abbrev pub sum : Width → ℕ → ℕ → ℕ
sum w a b = (a + b) % 2 ^ bits w

abbrev pub difference : Width → ℕ → ℕ → ℕ
difference w a b = residue w (pos a -ℤ pos b)

-- ---- shifts of a, by b modulo the width

abbrev pub shift_left : Width → ℕ → ℕ → ℕ
shift_left w a b = (a * 2 ^ (b % bits w)) % 2 ^ bits w

abbrev pub shift_right : Width → ℕ → ℕ → ℕ
shift_right w a b = a / 2 ^ (b % bits w)

-- the bits that come in are copies of the sign
abbrev pub shift_right_signed : Width → ℕ → ℕ → ℕ
shift_right_signed w a b = residue w (int_shr (cast_signed w a) (b % bits w))

-- ---- products

-- the low half
abbrev pub product : Width → ℕ → ℕ → ℕ
product w a b = (a * b) % 2 ^ bits w

-- the upper 64 bits of a product of 128 bits
abbrev pub upper_half : ℤ → ℕ
upper_half z = residue w128 z / 2 ^ 64

-- ---- quotients and remainders
-- By zero, all bits of the quotient are set, and the remainder is the dividend.

abbrev pub quotient : Width → ℕ → ℕ → ℕ
quotient w a b = if b == 0 then 2 ^ bits w - 1 else a / b

abbrev pub remainder : Width → ℕ → ℕ → ℕ
remainder w a b = if b == 0 then a else a % b

-- the most negative number by -1: the only signed quotient that w bits do not hold
abbrev pub overflows : Width → ℕ → ℕ → Bool
overflows w a b = (a == 2 ^ hbits w) && (b == 2 ^ bits w - 1)

-- rounded toward zero; where it overflows, the quotient is the dividend and the remainder 0
abbrev pub signed_quotient : Width → ℕ → ℕ → ℕ
signed_quotient w a b =
    if b == 0 then 2 ^ bits w - 1 else
    (if overflows w a b then a else residue w (int_div (cast_signed w a) (cast_signed w b)))

abbrev pub signed_remainder : Width → ℕ → ℕ → ℕ
signed_remainder w a b =
    if b == 0 then a else
    (if overflows w a b then 0 else residue w (int_rem (cast_signed w a) (cast_signed w b)))

-- ---- words in registers of 64 bits

-- the low 32 bits
abbrev pub low_word : ℕ → ℕ
low_word x = x % 2 ^ 32

-- a number of 32 bits, sign-extended to 64
abbrev pub sign_extended : ℕ → ℕ
sign_extended x = residue w64 (cast_signed w32 x)
