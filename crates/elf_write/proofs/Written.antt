-- The headers that are read where they were written.
use Rattle.std.proofs.Common.{◌≡◌, ℕ, ◌+◌, ◌^◌, ◌<◌, ◌≤◌, Bool, true, false, List, ◌++◌, length, slice_index, get_or, drop, add-zero, lit<, sym, ap, ◌∙◌, arith}
use Rattle.std.proofs.lemmas.List.{get_or-drop}
use Rattle.elf_load.specs.Constants.{elf_magic, elfclass64, elfdata2lsb, et_exec, em_riscv, pt_load, header_len, program_header_len}
use Rattle.elf_load.specs.declared.header.Header.{Header}
use Rattle.elf_load.specs.declared.header.ProgramHeader.{ProgramHeader}
use Rattle.elf_load.specs.declared.segment.Segment.{Segment}
use Rattle.elf_load.specs.Header.{read_field, header_of, program_header_at}
use Rattle.elf_write.specs.declared.field.Field.{Field}
use Rattle.elf_write.specs.File.{field, fields_bytes, header_fields, program_header_fields, permissions}
use Rattle.elf_write.proofs.Fields.{field-written, read_field-past}

-- a number of one byte
one_byte : (file : List ℕ) (at : ℕ) → slice_index file at ≡ read_field file at 1
one_byte file at =
    let byte : get_or (drop at file) 0 0 ≡ get_or file at 0 = get_or-drop at file 0 0 ∙ ap (λ n. get_or file n 0) (add-zero at) in
    omega (arith, byte)

-- the ELF header of an image with this entry and so many segments
abbrev pub written_header : (entry phnum : ℕ) → Header
written_header entry phnum = record {
  magic = elf_magic;
  class = elfclass64;
  encoding = elfdata2lsb;
  type_ = et_exec;
  machine = em_riscv;
  entry = entry;
  phoff = header_len;
  flags = 0;
  phentsize = program_header_len;
  phnum = phnum;
}

pub header_of-written : (entry count : ℕ) (rest : List ℕ) → entry < 2 ^ 64 → count ≤ 128 → header_of (fields_bytes (header_fields entry count) ++ rest) ≡ written_header entry count
unfolding header_of
header_of-written entry count rest entry_fits few =
    let d : Field = field 1 0 in
    let fs : List Field = header_fields entry count in
    let file : List ℕ = fields_bytes (header_fields entry count) ++ rest in
    let small : count < 256 ^ 2 = omega arith in
    let magic : read_field file 0 4 ≡ elf_magic = field-written fs 0 d rest (lit< tt) (lit< tt) in
    let class : slice_index file 4 ≡ elfclass64 = one_byte file 4 ∙ field-written fs 1 d rest (lit< tt) (lit< tt) in
    let encoding : slice_index file 5 ≡ elfdata2lsb = one_byte file 5 ∙ field-written fs 2 d rest (lit< tt) (lit< tt) in
    let type_ : read_field file 16 2 ≡ et_exec = field-written fs 6 d rest (lit< tt) (lit< tt) in
    let machine : read_field file 18 2 ≡ em_riscv = field-written fs 7 d rest (lit< tt) (lit< tt) in
    let start : read_field file 24 8 ≡ entry = field-written fs 9 d rest (lit< tt) entry_fits in
    let phoff : read_field file 32 8 ≡ header_len = field-written fs 10 d rest (lit< tt) (lit< tt) in
    let flags : read_field file 48 4 ≡ 0 = field-written fs 12 d rest (lit< tt) (lit< tt) in
    let phentsize : read_field file 54 2 ≡ program_header_len = field-written fs 14 d rest (lit< tt) (lit< tt) in
    let phnum : read_field file 56 2 ≡ count = field-written fs 15 d rest (lit< tt) small in
    cc

-- the program header of a segment whose bytes stand at this place of the file
abbrev pub written_program_header : Segment → (offset : ℕ) → ProgramHeader
written_program_header segment offset = record {
  type_ = pt_load;
  flags = permissions segment.exec;
  offset = offset;
  vaddr = segment.vaddr;
  filesz = length segment.bytes;
  memsz = segment.memsz;
}

flags_fit : (exec : Bool) → permissions exec < 256 ^ 4
flags_fit true = lit< tt
flags_fit false = lit< tt

-- the numbers of a program header fit their fields
pub record Fits (segment : Segment) (offset : ℕ) : Type 0 where
  pub offset_fits : offset < 2 ^ 64
  pub vaddr_fits : segment.vaddr < 2 ^ 64
  pub filesz_fits : length segment.bytes < 2 ^ 64
  pub memsz_fits : segment.memsz < 2 ^ 64

pub program_header_at-written : (segment : Segment) (offset : ℕ) (rest : List ℕ) → Fits segment offset → program_header_at (fields_bytes (program_header_fields segment offset) ++ rest) 0 ≡ written_program_header segment offset
unfolding program_header_at
program_header_at-written segment offset rest fits =
    let d : Field = field 1 0 in
    let fs : List Field = program_header_fields segment offset in
    let file : List ℕ = fields_bytes (program_header_fields segment offset) ++ rest in
    let type_ : read_field file 0 4 ≡ pt_load = field-written fs 0 d rest (lit< tt) (lit< tt) in
    let flags : read_field file 4 4 ≡ permissions segment.exec = field-written fs 1 d rest (lit< tt) (flags_fit segment.exec) in
    let place : read_field file 8 8 ≡ offset = field-written fs 2 d rest (lit< tt) fits.offset_fits in
    let vaddr : read_field file 16 8 ≡ segment.vaddr = field-written fs 3 d rest (lit< tt) fits.vaddr_fits in
    let filesz : read_field file 32 8 ≡ length segment.bytes = field-written fs 5 d rest (lit< tt) fits.filesz_fits in
    let memsz : read_field file 40 8 ≡ segment.memsz = field-written fs 6 d rest (lit< tt) fits.memsz_fits in
    cc

-- a program header past what stands in front
pub program_header_at-past : (front rest : List ℕ) (at : ℕ) → length front ≡ at → program_header_at (front ++ rest) at ≡ program_header_at rest 0
unfolding program_header_at
program_header_at-past front rest at e =
    let type_ : read_field (front ++ rest) at 4 ≡ read_field rest 0 4 = ap (λ n. read_field (front ++ rest) n 4) (sym (add-zero at)) ∙ read_field-past front rest at 0 4 e in
    let flags : read_field (front ++ rest) (at + 4) 4 ≡ read_field rest 4 4 = read_field-past front rest at 4 4 e in
    let place : read_field (front ++ rest) (at + 8) 8 ≡ read_field rest 8 8 = read_field-past front rest at 8 8 e in
    let vaddr : read_field (front ++ rest) (at + 16) 8 ≡ read_field rest 16 8 = read_field-past front rest at 16 8 e in
    let filesz : read_field (front ++ rest) (at + 32) 8 ≡ read_field rest 32 8 = read_field-past front rest at 32 8 e in
    let memsz : read_field (front ++ rest) (at + 40) 8 ≡ read_field rest 40 8 = read_field-past front rest at 40 8 e in
    cc
