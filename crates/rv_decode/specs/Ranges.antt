-- The ranges of an instruction's fields, by its format.
use Rattle.std.specs.Prelude.{◌≡◌, ◌≤ℤ◌, ℕ, ◌%◌, ◌<◌, ℤ, pos, neg_ℤ, nat_abs}
use Rattle.rv_decode.specs.NamedRows.{format_of}
use Rattle.rv_decode.specs.declared.format.Format.{Format}
use Rattle.rv_decode.specs.declared.format.Format.TheVariants.{U, J, I, B, S, R, Shift, WordShift, Atomic, LoadReserved, Whole}
use Rattle.rv_decode.specs.declared.inst.Inst.{Inst}

-- a multiple of step from least to greatest
abbrev pub IsMultipleWithin : ℤ → ℤ → ℕ → ℤ → Type 0
IsMultipleWithin least greatest step z = (least ≤ℤ z) × (z ≤ℤ greatest) × (nat_abs z % step ≡ 0)

-- a register that the format does not have is 0, and any other is from 0 to 31
abbrev pub AreRegisters : Format → Inst → Type 0
AreRegisters U i = (i.rd < 32) × (i.rs1 ≡ 0) × (i.rs2 ≡ 0)
AreRegisters J i = (i.rd < 32) × (i.rs1 ≡ 0) × (i.rs2 ≡ 0)
AreRegisters I i = (i.rd < 32) × (i.rs1 < 32) × (i.rs2 ≡ 0)
AreRegisters B i = (i.rd ≡ 0) × (i.rs1 < 32) × (i.rs2 < 32)
AreRegisters S i = (i.rd ≡ 0) × (i.rs1 < 32) × (i.rs2 < 32)
AreRegisters R i = (i.rd < 32) × (i.rs1 < 32) × (i.rs2 < 32)
AreRegisters Shift i = (i.rd < 32) × (i.rs1 < 32) × (i.rs2 ≡ 0)
AreRegisters WordShift i = (i.rd < 32) × (i.rs1 < 32) × (i.rs2 ≡ 0)
AreRegisters Atomic i = (i.rd < 32) × (i.rs1 < 32) × (i.rs2 < 32)
AreRegisters LoadReserved i = (i.rd < 32) × (i.rs1 < 32) × (i.rs2 ≡ 0)
AreRegisters Whole i = (i.rd ≡ 0) × (i.rs1 ≡ 0) × (i.rs2 ≡ 0)

-- an immediate that the format's bits can hold, or 0 where it has none
abbrev pub IsImmediate : Format → ℤ → Type 0
IsImmediate U z = IsMultipleWithin (neg_ℤ (pos 0x8000_0000)) (pos 0x7fff_f000) 4096 z
IsImmediate J z = IsMultipleWithin (neg_ℤ (pos 0x10_0000)) (pos 0xf_fffe) 2 z
IsImmediate I z = IsMultipleWithin (neg_ℤ (pos 2048)) (pos 2047) 1 z
IsImmediate B z = IsMultipleWithin (neg_ℤ (pos 4096)) (pos 4094) 2 z
IsImmediate S z = IsMultipleWithin (neg_ℤ (pos 2048)) (pos 2047) 1 z
IsImmediate R z = z ≡ pos 0
IsImmediate Shift z = IsMultipleWithin (pos 0) (pos 63) 1 z
IsImmediate WordShift z = IsMultipleWithin (pos 0) (pos 31) 1 z
IsImmediate Atomic z = IsMultipleWithin (pos 0) (pos 3) 1 z
IsImmediate LoadReserved z = IsMultipleWithin (pos 0) (pos 3) 1 z
IsImmediate Whole z = z ≡ pos 0

-- the fields are in the ranges of a format
abbrev pub FitsFormat : Format → Inst → Type 0
FitsFormat format i = AreRegisters format i × IsImmediate format i.imm

-- the fields of an instruction are in the ranges of its name's format
abbrev pub FitsItsFormat : Inst → Type 0
FitsItsFormat i = FitsFormat (format_of i.name) i
