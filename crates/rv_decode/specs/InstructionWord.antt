-- The fields of an instruction word and the immediates that it encodes (RISC-V Unprivileged ISA
-- manual, "Base Instruction Formats" and "Immediate Encoding Variants").
use Rattle.std.specs.Prelude.{ℕ, ◌+◌, ◌-◌, ◌*◌, ◌/◌, ◌%◌, ◌^◌, ℤ, pos, ◌-ℤ◌, nat_lt, if◌then◌else◌}

-- the bits of a word from high down to low, as a number
abbrev pub bits_of : (high low word : ℕ) → ℕ
bits_of high low word = word / 2 ^ low % 2 ^ (high + 1 - low)

-- the mask of the bits from high down to low
abbrev pub ones : (high low : ℕ) → ℕ
ones high low = 2 ^ (high + 1) - 2 ^ low

abbrev pub rd_of : ℕ → ℕ
rd_of word = bits_of 11 7 word

abbrev pub rs1_of : ℕ → ℕ
rs1_of word = bits_of 19 15 word

abbrev pub rs2_of : ℕ → ℕ
rs2_of word = bits_of 24 20 word

-- the number that `width` bits stand for in two's complement
abbrev pub signed : (width n : ℕ) → ℤ
signed width n = if nat_lt n (2 ^ (width - 1)) then pos n else pos n -ℤ pos (2 ^ width)

-- bits 11 to 0 are 31 to 20 of the word
abbrev pub i_immediate : ℕ → ℤ
i_immediate word = signed 12 (bits_of 31 20 word)

-- bits 11 to 5 are 31 to 25; 4 to 0 are 11 to 7
abbrev pub s_immediate : ℕ → ℤ
s_immediate word = signed 12 (bits_of 31 25 word * 2 ^ 5 + bits_of 11 7 word)

-- bit 12 is 31; 11 is 7; 10 to 5 are 30 to 25; 4 to 1 are 11 to 8; 0 is 0
abbrev pub b_immediate : ℕ → ℤ
b_immediate word =
    signed 13 (bits_of 31 31 word * 2 ^ 12 + bits_of 7 7 word * 2 ^ 11
    + bits_of 30 25 word * 2 ^ 5 + bits_of 11 8 word * 2 ^ 1)

-- bits 31 to 12 are 31 to 12; 11 to 0 are 0
abbrev pub u_immediate : ℕ → ℤ
u_immediate word = signed 32 (bits_of 31 12 word * 2 ^ 12)

-- bit 20 is 31; 19 to 12 are 19 to 12; 11 is 20; 10 to 1 are 30 to 21; 0 is 0
abbrev pub j_immediate : ℕ → ℤ
j_immediate word =
    signed 21 (bits_of 31 31 word * 2 ^ 20 + bits_of 19 12 word * 2 ^ 12
    + bits_of 20 20 word * 2 ^ 11 + bits_of 30 21 word * 2 ^ 1)
