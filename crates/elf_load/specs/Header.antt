-- The fields of the headers (ELF-64 object file format, "ELF header" and "Program header table"). Numbers are
-- little-endian.
use Rattle.std.specs.Prelude.{ℕ, zero, suc, ◌+◌, List, [], ◌∷◌, drop, slice_index}
use Rattle.byteorder.specs.Endian.{little_number}
use Rattle.elf_load.specs.Constants.{program_header_len}
use Rattle.elf_load.specs.declared.header.Header.{Header}
use Rattle.elf_load.specs.declared.header.ProgramHeader.{ProgramHeader}

-- the number in the field of so many bytes at this place of a file
abbrev pub read_field : List ℕ → (at width : ℕ) → ℕ
read_field file at width = little_number width (drop at file)

unfoldable pub header_of : List ℕ → Header
header_of file = record {
  magic = read_field file 0 4;
  class = slice_index file 4;
  encoding = slice_index file 5;
  type_ = read_field file 16 2;
  machine = read_field file 18 2;
  entry = read_field file 24 8;
  phoff = read_field file 32 8;
  flags = read_field file 48 4;
  phentsize = read_field file 54 2;
  phnum = read_field file 56 2;
}

-- the program header at this place of a file
unfoldable pub program_header_at : List ℕ → ℕ → ProgramHeader
program_header_at file at = record {
  type_ = read_field file at 4;
  flags = read_field file (at + 4) 4;
  offset = read_field file (at + 8) 8;
  vaddr = read_field file (at + 16) 8;
  filesz = read_field file (at + 32) 8;
  memsz = read_field file (at + 40) 8;
}

-- so many program headers, one after the other from this place of a file on
abbrev pub headers_from : List ℕ → (at count : ℕ) → List ProgramHeader
headers_from file at zero = []
headers_from file at (suc count) = program_header_at file at ∷ headers_from file (at + program_header_len) count

-- the table of program headers
unfoldable pub program_headers : List ℕ → Header → List ProgramHeader
program_headers file h = headers_from file h.phoff h.phnum
