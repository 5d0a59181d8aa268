-- The opcodes of RV64I with the extensions M and A (RISC-V Unprivileged ISA manual, version 20191213,
-- "RISC-V base opcode map"), by the names of the manual.
use Rattle.std.specs.Prelude.{ℕ}

abbrev pub load : ℕ
load = 0x03

abbrev pub misc_mem : ℕ
misc_mem = 0x0f

abbrev pub op_imm : ℕ
op_imm = 0x13

abbrev pub auipc : ℕ
auipc = 0x17

abbrev pub op_imm_32 : ℕ
op_imm_32 = 0x1b

abbrev pub store : ℕ
store = 0x23

abbrev pub amo : ℕ
amo = 0x2f

abbrev pub op : ℕ
op = 0x33

abbrev pub lui : ℕ
lui = 0x37

abbrev pub op_32 : ℕ
op_32 = 0x3b

abbrev pub branch : ℕ
branch = 0x63

abbrev pub jalr : ℕ
jalr = 0x67

abbrev pub jal : ℕ
jal = 0x6f

abbrev pub system : ℕ
system = 0x73
