-- The instruction table of RV64I with the extensions M and A (RISC-V Unprivileged ISA manual,
-- version 20191213, "RV32/64G Instruction Set Listings"), and the instruction that a word is.
use Rattle.std.specs.Prelude.{ℕ, ◌+◌, ◌*◌, ◌^◌, pos, Bool, ◌==◌, bit_and, List, [], ◌∷◌, map, flat_map, find, Option, option_map}
use Rattle.rv_decode.specs.InstructionWord.{bits_of, ones, rd_of, rs1_of, rs2_of, i_immediate, s_immediate, b_immediate, u_immediate, j_immediate}
use Rattle.rv_decode.specs.Opcodes as opcode
use Rattle.rv_decode.specs.declared.format.Format.{Format}
use Rattle.rv_decode.specs.declared.format.Format.TheVariants.{U, J, I, B, S, R, Shift, WordShift, Atomic, LoadReserved, Whole}
use Rattle.rv_decode.specs.declared.inst.Inst.{Inst}
use Rattle.rv_decode.specs.declared.name.Name.{Name}
use Rattle.rv_decode.specs.declared.name.Name.TheVariants.{Lui, Auipc, Jal, Jalr, Beq, Bne, Blt, Bge, Bltu, Bgeu, Lb, Lh, Lw, Ld, Lbu, Lhu, Lwu, Sb, Sh, Sw, Sd, Addi, Slti, Sltiu, Xori, Ori, Andi, Slli, Srli, Srai, Addiw, Slliw, Srliw, Sraiw, Fence, Ecall, Ebreak, Add, Sub, Sll, Slt, Sltu, Xor, Srl, Sra, Or, And, Addw, Subw, Sllw, Srlw, Sraw, Mul, Mulh, Mulhsu, Mulhu, Div, Divu, Rem, Remu, Mulw, Divw, Divuw, Remw, Remuw, LrW, ScW, AmoswapW, AmoaddW, AmoxorW, AmoandW, AmoorW, AmominW, AmomaxW, AmominuW, AmomaxuW, LrD, ScD, AmoswapD, AmoaddD, AmoxorD, AmoandD, AmoorD, AmominD, AmomaxD, AmominuD, AmomaxuD}

-- A row states some bits of a word, those of its mask: there the word has the bits of the value.
pub record Row : Type 0 where
  pub mask : ℕ
  pub value : ℕ
  pub format : Format
  pub name : Name

abbrev pub matches : Row → ℕ → Bool
matches row word = bit_and word row.mask == row.value

-- Rows of one format that state the same bits with the same values, and besides these the bits from
-- high down to low, in which each row has a number of its own.
pub record Family : Type 0 where
  pub mask : ℕ
  pub value : ℕ
  pub high : ℕ
  pub low : ℕ
  pub format : Format
  pub names : List (ℕ × Name)

-- the row of a family with this number and name
abbrev pub row_at : Family → ℕ × Name → Row
row_at family entry = record {
  mask = family.mask + ones family.high family.low;
  value = family.value + entry.0 * 2 ^ family.low;
  format = family.format;
  name = entry.1;
}

-- The kinds of family, by what their rows state. Where a row has a number of its own, that is in the
-- last field that is named.

-- the opcode
abbrev pub by_opcode : Format → List (ℕ × Name) → Family
by_opcode format names =
    record { mask = 0; value = 0; high = 6; low = 0; format = format; names = names }

-- the opcode and funct3
abbrev pub by_funct3 : ℕ → Format → List (ℕ × Name) → Family
by_funct3 opcode format names =
    record { mask = 0x7f; value = opcode; high = 14; low = 12; format = format; names = names }

-- the opcode, funct7 and funct3
abbrev pub by_funct7_funct3 : ℕ → ℕ → List (ℕ × Name) → Family
by_funct7_funct3 opcode funct7 names =
    record { mask = 0xfe00_007f; value = opcode + funct7 * 2 ^ 25; high = 14; low = 12; format = R; names = names }

-- the opcode, funct3 and bits 31 to 26
abbrev pub by_shift : ℕ → ℕ → List (ℕ × Name) → Family
by_shift opcode funct3 names =
    record { mask = 0x707f; value = opcode + funct3 * 2 ^ 12; high = 31; low = 26; format = Shift; names = names }

-- the opcode, funct3 and funct7
abbrev pub by_word_shift : ℕ → ℕ → List (ℕ × Name) → Family
by_word_shift opcode funct3 names =
    record { mask = 0x707f; value = opcode + funct3 * 2 ^ 12; high = 31; low = 25; format = WordShift; names = names }

-- the opcode, funct3 and bits 31 to 27 (funct5)
abbrev pub by_funct5 : ℕ → ℕ → List (ℕ × Name) → Family
by_funct5 opcode funct3 names =
    record { mask = 0x707f; value = opcode + funct3 * 2 ^ 12; high = 31; low = 27; format = Atomic; names = names }

-- the opcode, funct3, that rs2 is 0, and funct5
abbrev pub by_funct5_without_rs2 : ℕ → ℕ → List (ℕ × Name) → Family
by_funct5_without_rs2 opcode funct3 names =
    record {
      mask = 0x01f0_707f;
      value = opcode + funct3 * 2 ^ 12;
      high = 31;
      low = 27;
      format = LoadReserved;
      names = names;
    }

-- the opcode, that bits 19 to 7 are 0, and bits 31 to 20 (funct12)
abbrev pub by_funct12 : ℕ → List (ℕ × Name) → Family
by_funct12 opcode names =
    record { mask = 0xf_ffff; value = opcode; high = 31; low = 20; format = Whole; names = names }

-- "Integer Register-Immediate Instructions": LUI and AUIPC
abbrev pub upper_rows : Family
upper_rows = by_opcode U ((opcode.lui, Lui) ∷ (opcode.auipc, Auipc) ∷ [])

-- "Unconditional Jumps"
abbrev pub jump_rows : Family
jump_rows = by_opcode J ((opcode.jal, Jal) ∷ [])

abbrev pub register_jump_rows : Family
register_jump_rows = by_funct3 opcode.jalr I ((0, Jalr) ∷ [])

-- "Conditional Branches"
abbrev pub branch_rows : Family
branch_rows = by_funct3 opcode.branch B ((0, Beq) ∷ (1, Bne) ∷ (4, Blt) ∷ (5, Bge) ∷ (6, Bltu) ∷ (7, Bgeu) ∷ [])

-- "Load and Store Instructions", of RV32I and of RV64I
abbrev pub load_rows : Family
load_rows = by_funct3 opcode.load I ((0, Lb) ∷ (1, Lh) ∷ (2, Lw) ∷ (3, Ld) ∷ (4, Lbu) ∷ (5, Lhu) ∷ (6, Lwu) ∷ [])

abbrev pub store_rows : Family
store_rows = by_funct3 opcode.store S ((0, Sb) ∷ (1, Sh) ∷ (2, Sw) ∷ (3, Sd) ∷ [])

-- "Integer Register-Immediate Instructions", of RV32I and of RV64I
abbrev pub immediate_rows : Family
immediate_rows = by_funct3 opcode.op_imm I ((0, Addi) ∷ (2, Slti) ∷ (3, Sltiu) ∷ (4, Xori) ∷ (6, Ori) ∷ (7, Andi) ∷ [])

abbrev pub left_shift_rows : Family
left_shift_rows = by_shift opcode.op_imm 1 ((0, Slli) ∷ [])

abbrev pub right_shift_rows : Family
right_shift_rows = by_shift opcode.op_imm 5 ((0, Srli) ∷ (0x10, Srai) ∷ [])

abbrev pub word_immediate_rows : Family
word_immediate_rows = by_funct3 opcode.op_imm_32 I ((0, Addiw) ∷ [])

abbrev pub left_word_shift_rows : Family
left_word_shift_rows = by_word_shift opcode.op_imm_32 1 ((0, Slliw) ∷ [])

abbrev pub right_word_shift_rows : Family
right_word_shift_rows = by_word_shift opcode.op_imm_32 5 ((0, Srliw) ∷ (0x20, Sraiw) ∷ [])

-- "Memory Ordering Instructions": FENCE, whose fields pred, succ and fm are its I immediate
abbrev pub fence_rows : Family
fence_rows = by_funct3 opcode.misc_mem I ((0, Fence) ∷ [])

-- "Environment Call and Breakpoints"
abbrev pub call_rows : Family
call_rows = by_funct12 opcode.system ((0, Ecall) ∷ (1, Ebreak) ∷ [])

-- "Integer Register-Register Operations", of RV32I and of RV64I, and the extension M: "Multiplication Operations" and
-- "Division Operations"
abbrev pub operation_rows : Family
operation_rows =
    by_funct7_funct3 opcode.op 0x00 ((0, Add) ∷ (1, Sll) ∷ (2, Slt) ∷ (3, Sltu) ∷ (4, Xor) ∷ (5, Srl)
    ∷ (6, Or) ∷ (7, And) ∷ [])

abbrev pub alternate_operation_rows : Family
alternate_operation_rows = by_funct7_funct3 opcode.op 0x20 ((0, Sub) ∷ (5, Sra) ∷ [])

abbrev pub extension_m_rows : Family
extension_m_rows =
    by_funct7_funct3 opcode.op 0x01 ((0, Mul) ∷ (1, Mulh) ∷ (2, Mulhsu) ∷ (3, Mulhu) ∷ (4, Div) ∷ (5, Divu)
    ∷ (6, Rem) ∷ (7, Remu) ∷ [])

abbrev pub word_operation_rows : Family
word_operation_rows = by_funct7_funct3 opcode.op_32 0x00 ((0, Addw) ∷ (1, Sllw) ∷ (5, Srlw) ∷ [])

abbrev pub alternate_word_operation_rows : Family
alternate_word_operation_rows = by_funct7_funct3 opcode.op_32 0x20 ((0, Subw) ∷ (5, Sraw) ∷ [])

abbrev pub extension_m_word_rows : Family
extension_m_word_rows =
    by_funct7_funct3 opcode.op_32 0x01 ((0, Mulw) ∷ (4, Divw) ∷ (5, Divuw) ∷ (6, Remw) ∷ (7, Remuw) ∷ [])

-- The extension A: "Load-Reserved/Store-Conditional Instructions" and "Atomic Memory Operations"
abbrev pub word_reservation_rows : Family
word_reservation_rows = by_funct5_without_rs2 opcode.amo 2 ((0x02, LrW) ∷ [])

abbrev pub word_atomic_rows : Family
word_atomic_rows =
    by_funct5 opcode.amo 2 ((0x03, ScW) ∷ (0x01, AmoswapW) ∷ (0x00, AmoaddW) ∷ (0x04, AmoxorW) ∷ (0x0c, AmoandW)
    ∷ (0x08, AmoorW) ∷ (0x10, AmominW) ∷ (0x14, AmomaxW) ∷ (0x18, AmominuW)
    ∷ (0x1c, AmomaxuW) ∷ [])

abbrev pub doubleword_reservation_rows : Family
doubleword_reservation_rows = by_funct5_without_rs2 opcode.amo 3 ((0x02, LrD) ∷ [])

abbrev pub doubleword_atomic_rows : Family
doubleword_atomic_rows =
    by_funct5 opcode.amo 3 ((0x03, ScD) ∷ (0x01, AmoswapD) ∷ (0x00, AmoaddD) ∷ (0x04, AmoxorD) ∷ (0x0c, AmoandD)
    ∷ (0x08, AmoorD) ∷ (0x10, AmominD) ∷ (0x14, AmomaxD) ∷ (0x18, AmominuD)
    ∷ (0x1c, AmomaxuD) ∷ [])

abbrev pub families : List Family
families = upper_rows ∷ jump_rows ∷ register_jump_rows ∷ branch_rows ∷ load_rows ∷ store_rows
    ∷ immediate_rows ∷ left_shift_rows ∷ right_shift_rows
    ∷ word_immediate_rows ∷ left_word_shift_rows ∷ right_word_shift_rows
    ∷ fence_rows ∷ call_rows
    ∷ operation_rows ∷ alternate_operation_rows ∷ extension_m_rows
    ∷ word_operation_rows ∷ alternate_word_operation_rows ∷ extension_m_word_rows
    ∷ word_reservation_rows ∷ word_atomic_rows ∷ doubleword_reservation_rows ∷ doubleword_atomic_rows ∷ []

-- the rows
unfoldable pub table : List Row
table = flat_map (λ family. map (row_at family) family.names) families

-- The instruction that a word is by a row of this format and name. A field that the format does not
-- have is 0.
abbrev pub instruction : Format → Name → ℕ → Inst
instruction U name word = record { name = name; rd = rd_of word; rs1 = 0; rs2 = 0; imm = u_immediate word }
instruction J name word = record { name = name; rd = rd_of word; rs1 = 0; rs2 = 0; imm = j_immediate word }
instruction I name word = record { name = name; rd = rd_of word; rs1 = rs1_of word; rs2 = 0; imm = i_immediate word }
instruction B name word = record { name = name; rd = 0; rs1 = rs1_of word; rs2 = rs2_of word; imm = b_immediate word }
instruction S name word = record { name = name; rd = 0; rs1 = rs1_of word; rs2 = rs2_of word; imm = s_immediate word }
instruction R name word = record { name = name; rd = rd_of word; rs1 = rs1_of word; rs2 = rs2_of word; imm = pos 0 }
instruction Shift name word =
    record { name = name; rd = rd_of word; rs1 = rs1_of word; rs2 = 0; imm = pos (bits_of 25 20 word) }
instruction WordShift name word =
    record { name = name; rd = rd_of word; rs1 = rs1_of word; rs2 = 0; imm = pos (bits_of 24 20 word) }
instruction Atomic name word =
    record { name = name; rd = rd_of word; rs1 = rs1_of word; rs2 = rs2_of word; imm = pos (bits_of 26 25 word) }
instruction LoadReserved name word =
    record { name = name; rd = rd_of word; rs1 = rs1_of word; rs2 = 0; imm = pos (bits_of 26 25 word) }
instruction Whole name word = record { name = name; rd = 0; rs1 = 0; rs2 = 0; imm = pos 0 }

-- the instruction that a word is by a row
abbrev pub by_row : Row → ℕ → Inst
by_row row word = instruction row.format row.name word

-- the instruction that a word is, if a row matches it
unfoldable pub decoded : ℕ → Option Inst
decoded word = option_map (λ row. by_row row word) (find (λ row. matches row word) table)
