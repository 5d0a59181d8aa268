-- The constants of executables, by their names in the ELF-64 object file format and in the RISC-V ELF psABI
-- specification.
use Rattle.std.specs.Prelude.{ℕ}

-- the first four bytes, as a number: 0x7F and "ELF"
abbrev pub elf_magic : ℕ
elf_magic = 0x464C_457F

-- 64 bits, little-endian, version 1
abbrev pub elfclass64 : ℕ
elfclass64 = 2

abbrev pub elfdata2lsb : ℕ
elfdata2lsb = 1

abbrev pub ev_current : ℕ
ev_current = 1

-- an executable for RISC-V
abbrev pub et_exec : ℕ
et_exec = 2

abbrev pub em_riscv : ℕ
em_riscv = 243

-- that it needs compressed instructions, and the two bits of a floating-point ABI
abbrev pub ef_riscv_rvc : ℕ
ef_riscv_rvc = 1

abbrev pub ef_riscv_float_abi : ℕ
ef_riscv_float_abi = 6

-- the types of program headers that count
abbrev pub pt_load : ℕ
pt_load = 1

abbrev pub pt_dynamic : ℕ
pt_dynamic = 2

abbrev pub pt_interp : ℕ
pt_interp = 3

-- the permissions of a segment
abbrev pub pf_x : ℕ
pf_x = 1

abbrev pub pf_w : ℕ
pf_w = 2

abbrev pub pf_r : ℕ
pf_r = 4

-- the lengths of the ELF header and of a program header, in bytes
abbrev pub header_len : ℕ
header_len = 64

abbrev pub program_header_len : ℕ
program_header_len = 56

-- how many program headers an executable may have here
abbrev pub most_headers : ℕ
most_headers = 128
