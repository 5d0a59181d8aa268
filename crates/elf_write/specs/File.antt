-- The file of an image (ELF-64 object file format, "ELF header" and "Program header table"): a table of fields, and
-- then the bytes of the segments. Numbers are little-endian.
use Rattle.std.specs.Prelude.{ℕ, ◌+◌, ◌*◌, Bool, if◌then◌else◌, List, [], ◌∷◌, ◌++◌, length}
use Rattle.std.specs.List.{flat_map}
use Rattle.byteorder.specs.Endian.{little_bytes}
use Rattle.elf_load.specs.Constants.{elf_magic, elfclass64, elfdata2lsb, ev_current, et_exec, em_riscv, pt_load, pf_x, pf_w, pf_r, header_len, program_header_len}
use Rattle.elf_load.specs.declared.segment.Segment.{Segment}
use Rattle.elf_load.specs.MemoryImage.{MemoryImage}
use Rattle.elf_write.specs.declared.field.Field.{Field}

-- a number in so many bytes
abbrev pub field : (width value : ℕ) → Field
field width value = record { width = width; value = value }

abbrev pub fields_bytes : List Field → List ℕ
fields_bytes fields = flat_map (λ f. little_bytes f.width f.value) fields

-- The fields of the ELF header, by the names of the standard: an executable of 64 bits, little-endian, for RISC-V,
-- whose program headers follow at once, with no sections.
abbrev pub header_fields : (entry phnum : ℕ) → List Field
header_fields entry phnum =
    -- e_ident: the magic, class, data encoding and version, the OS ABI, the ABI version and padding
    field 4 elf_magic ∷ field 1 elfclass64 ∷ field 1 elfdata2lsb ∷ field 1 ev_current ∷ field 1 0 ∷ field 8 0
    -- e_type, e_machine, e_version
    ∷ field 2 et_exec ∷ field 2 em_riscv ∷ field 4 ev_current
    -- e_entry, e_phoff, e_shoff, e_flags
    ∷ field 8 entry ∷ field 8 header_len ∷ field 8 0 ∷ field 4 0
    -- e_ehsize, e_phentsize, e_phnum, e_shentsize, e_shnum, e_shstrndx
    ∷ field 2 header_len ∷ field 2 program_header_len ∷ field 2 phnum ∷ field 2 0 ∷ field 2 0 ∷ field 2 0
    ∷ []

-- what may be done with a segment: reading and writing, and executing where it is executable
abbrev pub permissions : (exec : Bool) → ℕ
permissions exec = pf_r + pf_w + (if exec then pf_x else 0)

-- the fields of the program header of a segment whose bytes stand at this offset of the file
abbrev pub program_header_fields : Segment → (offset : ℕ) → List Field
program_header_fields segment offset =
    -- p_type, p_flags, p_offset
    field 4 pt_load ∷ field 4 (permissions segment.exec) ∷ field 8 offset
    -- p_vaddr, p_paddr, p_filesz, p_memsz, p_align
    ∷ field 8 segment.vaddr ∷ field 8 segment.vaddr ∷ field 8 (length segment.bytes) ∷ field 8 segment.memsz ∷ field 8 1
    ∷ []

-- the program headers of segments whose bytes stand one after the other from this place of the file on
abbrev pub table_bytes : List Segment → (offset : ℕ) → List ℕ
table_bytes [] offset = []
table_bytes (segment ∷ segments) offset =
    fields_bytes (program_header_fields segment offset) ++ table_bytes segments (offset + length segment.bytes)

-- the bytes of segments, one after the other
abbrev pub contents : List Segment → List ℕ
contents segments = flat_map (λ segment. segment.bytes) segments

-- the file of an image: the ELF header, the program headers, and the bytes of the segments without gaps
unfoldable pub executable_of : MemoryImage → List ℕ
executable_of image =
    let count = length image.segments in
    fields_bytes (header_fields image.entry count)
    ++ (table_bytes image.segments (header_len + program_header_len * count) ++ contents image.segments)
