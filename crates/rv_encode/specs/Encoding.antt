-- The bits of a word that hold an instruction's registers and immediate (RISC-V Unprivileged ISA
-- manual, "Base Instruction Formats" and "Immediate Encoding Variants").
use Rattle.std.specs.Prelude.{ℕ, suc, ◌+◌, ◌-◌, ◌*◌, ◌^◌, ℤ, pos, negsuc}
use Rattle.rv_decode.specs.InstructionWord.{bits_of}
use Rattle.rv_decode.specs.declared.format.Format.{Format}
use Rattle.rv_decode.specs.declared.format.Format.TheVariants.{U, J, I, B, S, R, Shift, WordShift, Atomic, LoadReserved, Whole}
use Rattle.rv_decode.specs.declared.inst.Inst.{Inst}

-- the number that stands for z in two's complement of `width` bits
abbrev pub unsigned : (width : ℕ) → ℤ → ℕ
unsigned width (pos n) = n
unsigned width (negsuc n) = 2 ^ width - suc n

-- rd is bits 11 to 7, rs1 is 19 to 15, rs2 is 24 to 20
abbrev pub registers_of : Inst → ℕ
registers_of i = i.rd * 2 ^ 7 + i.rs1 * 2 ^ 15 + i.rs2 * 2 ^ 20

-- bits 31 to 25 are 11 to 5 of the immediate; 11 to 7 are 4 to 0
abbrev pub s_placed : ℕ → ℕ
s_placed n = bits_of 11 5 n * 2 ^ 25 + bits_of 4 0 n * 2 ^ 7

-- bit 31 is 12; 30 to 25 are 10 to 5; 11 to 8 are 4 to 1; 7 is 11
abbrev pub b_placed : ℕ → ℕ
b_placed n = bits_of 12 12 n * 2 ^ 31 + bits_of 10 5 n * 2 ^ 25 + bits_of 4 1 n * 2 ^ 8 + bits_of 11 11 n * 2 ^ 7

-- bit 31 is 20; 30 to 21 are 10 to 1; 20 is 11; 19 to 12 are 19 to 12
abbrev pub j_placed : ℕ → ℕ
j_placed n = bits_of 20 20 n * 2 ^ 31 + bits_of 10 1 n * 2 ^ 21 + bits_of 11 11 n * 2 ^ 20 + bits_of 19 12 n * 2 ^ 12

-- the bits of the immediate, at their places
abbrev pub immediate_of : Format → ℤ → ℕ
immediate_of U z = unsigned 32 z
immediate_of J z = j_placed (unsigned 21 z)
immediate_of I z = unsigned 12 z * 2 ^ 20
immediate_of B z = b_placed (unsigned 13 z)
immediate_of S z = s_placed (unsigned 12 z)
immediate_of R z = 0
immediate_of Shift z = unsigned 6 z * 2 ^ 20
immediate_of WordShift z = unsigned 5 z * 2 ^ 20
immediate_of Atomic z = unsigned 2 z * 2 ^ 25
immediate_of LoadReserved z = unsigned 2 z * 2 ^ 25
immediate_of Whole z = 0
