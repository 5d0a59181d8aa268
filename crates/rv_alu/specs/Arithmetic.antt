-- What the register-immediate and register-register instructions compute (RISC-V Unprivileged ISA
-- manual, "Integer Computational Instructions" of RV32I and RV64I, and the "M" extension). The
-- operands and the result are numbers of 64 bits. An immediate is b, sign-extended.
use Rattle.std.specs.Prelude.{ℕ, nat_lt, if◌then◌else◌, ℤ, pos, ◌*ℤ◌, int_lt, bit_and, bit_or, bit_xor}
use Rattle.std.specs.Int.{w32, w64, cast_signed}
use Rattle.rv_decode.specs.declared.name.Name.{Name}
use Rattle.rv_decode.specs.declared.name.Name.TheVariants.{Addi, Slti, Sltiu, Xori, Ori, Andi, Slli, Srli, Srai, Addiw, Slliw, Srliw, Sraiw, Add, Sub, Sll, Slt, Sltu, Xor, Srl, Sra, Or, And, Addw, Subw, Sllw, Srlw, Sraw, Mul, Mulh, Mulhsu, Mulhu, Div, Divu, Rem, Remu, Mulw, Divw, Divuw, Remw, Remuw}
use Rattle.rv_alu.specs.Operations.{sum, difference, shift_left, shift_right, shift_right_signed, product, upper_half, quotient, remainder, signed_quotient, signed_remainder, low_word, sign_extended}

-- the number that 64 bits read as signed
abbrev pub signed_64 : ℕ → ℤ
signed_64 x = cast_signed w64 x

-- 1 where a is less, and else 0
abbrev pub less_signed : ℕ → ℕ → ℕ
less_signed a b = if int_lt (signed_64 a) (signed_64 b) then 1 else 0

abbrev pub less_unsigned : ℕ → ℕ → ℕ
less_unsigned a b = if nat_lt a b then 1 else 0

-- an operation on the low 32 bits, whose result is sign-extended
abbrev pub on_words : (ℕ → ℕ → ℕ) → ℕ → ℕ → ℕ
on_words f a b = sign_extended (f (low_word a) (low_word b))

unfoldable pub result_of : Name → ℕ → ℕ → ℕ
-- RV32I and RV64I, on 64 bits
result_of Addi a b = sum w64 a b
result_of Add a b = sum w64 a b
result_of Sub a b = difference w64 a b
result_of Slti a b = less_signed a b
result_of Slt a b = less_signed a b
result_of Sltiu a b = less_unsigned a b
result_of Sltu a b = less_unsigned a b
result_of Xori a b = bit_xor a b
result_of Xor a b = bit_xor a b
result_of Ori a b = bit_or a b
result_of Or a b = bit_or a b
result_of Andi a b = bit_and a b
result_of And a b = bit_and a b
result_of Slli a b = shift_left w64 a b
result_of Sll a b = shift_left w64 a b
result_of Srli a b = shift_right w64 a b
result_of Srl a b = shift_right w64 a b
result_of Srai a b = shift_right_signed w64 a b
result_of Sra a b = shift_right_signed w64 a b
-- RV64I, on words
result_of Addiw a b = on_words (sum w32) a b
result_of Addw a b = on_words (sum w32) a b
result_of Subw a b = on_words (difference w32) a b
result_of Slliw a b = on_words (shift_left w32) a b
result_of Sllw a b = on_words (shift_left w32) a b
result_of Srliw a b = on_words (shift_right w32) a b
result_of Srlw a b = on_words (shift_right w32) a b
result_of Sraiw a b = on_words (shift_right_signed w32) a b
result_of Sraw a b = on_words (shift_right_signed w32) a b
-- "M", on 64 bits
result_of Mul a b = product w64 a b
result_of Mulh a b = upper_half (signed_64 a *ℤ signed_64 b)
result_of Mulhsu a b = upper_half (signed_64 a *ℤ pos b)
result_of Mulhu a b = upper_half (pos a *ℤ pos b)
result_of Div a b = signed_quotient w64 a b
result_of Divu a b = quotient w64 a b
result_of Rem a b = signed_remainder w64 a b
result_of Remu a b = remainder w64 a b
-- "M", on words
result_of Mulw a b = on_words (product w32) a b
result_of Divw a b = on_words (signed_quotient w32) a b
result_of Divuw a b = on_words (quotient w32) a b
result_of Remw a b = on_words (signed_remainder w32) a b
result_of Remuw a b = on_words (remainder w32) a b
-- no other instruction computes by two operands alone
result_of _ a b = 0
