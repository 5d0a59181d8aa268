-- Instructions, with their operands in the order of assembly language, and their words (RISC-V Unprivileged ISA manual,
-- "RISC-V Assembly Programmer's Handbook").
use Rattle.std.specs.Prelude.{ℕ, ◌+◌, ◌*◌, ◌^◌, ℤ, pos, List}
use Rattle.std.specs.List.{flat_map}
use Rattle.byteorder.specs.Endian.{little_bytes}
use Rattle.rv_decode.specs.NamedRows.{format_of, value_of}
use Rattle.rv_decode.specs.declared.inst.Inst.{Inst}
use Rattle.rv_decode.specs.declared.name.Name.{Name}
use Rattle.rv_encode.specs.Encoding.{immediate_of, registers_of}

-- of a register and the upper 20 bits of an immediate
abbrev pub upper : Name → (rd imm : ℕ) → Inst
upper name rd imm = record { name = name; rd = rd; rs1 = 0; rs2 = 0; imm = pos (imm * 2 ^ 12) }

-- of two registers and an immediate; a load has its offset there
abbrev pub with_immediate : Name → (rd rs1 : ℕ) → ℤ → Inst
with_immediate name rd rs1 imm = record { name = name; rd = rd; rs1 = rs1; rs2 = 0; imm = imm }

-- of three registers; an atomic has neither aq nor rl
abbrev pub registers : Name → (rd rs1 rs2 : ℕ) → Inst
registers name rd rs1 rs2 = record { name = name; rd = rd; rs1 = rs1; rs2 = rs2; imm = pos 0 }

-- a store of rs2 at an offset from rs1
abbrev pub store_at : Name → (rs2 rs1 : ℕ) → (offset : ℤ) → Inst
store_at name rs2 rs1 offset = record { name = name; rd = 0; rs1 = rs1; rs2 = rs2; imm = offset }

-- a branch by so many bytes
abbrev pub branch_by : Name → (rs1 rs2 : ℕ) → (offset : ℤ) → Inst
branch_by name rs1 rs2 offset = record { name = name; rd = 0; rs1 = rs1; rs2 = rs2; imm = offset }

-- a jump by so many bytes
abbrev pub jump_by : Name → (rd : ℕ) → (offset : ℤ) → Inst
jump_by name rd offset = record { name = name; rd = rd; rs1 = 0; rs2 = 0; imm = offset }

-- an instruction without operands
abbrev pub without_operands : Name → Inst
without_operands name = record { name = name; rd = 0; rs1 = 0; rs2 = 0; imm = pos 0 }

-- the word of an instruction: the bits that its row of the instruction table states, its registers and its immediate
unfoldable pub encoded : Inst → ℕ
encoded i = value_of i.name + registers_of i + immediate_of (format_of i.name) i.imm

-- the words of instructions as bytes, little-endian
abbrev pub assembled : List Inst → List ℕ
assembled instructions = flat_map (λ i. little_bytes 4 (encoded i)) instructions
