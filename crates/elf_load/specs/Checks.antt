-- The checks of an executable, in their order. Each is made over all program headers before the next. Sums are whole
-- numbers.
use Rattle.std.specs.Prelude.{◌==◌, ◌+◌, ◌*◌, ◌%◌, ℕ, nat_lt, nat_le, bit_and, bit_or, Bool, not, ◌&&◌, ◌||◌, if◌then◌else◌, List, [], ◌∷◌, Option, Some, None}
use Rattle.std.specs.List.{list_any, position}
use Rattle.std.specs.Option.{option_map, option_or}
use Rattle.elf_load.specs.Constants.{elf_magic, elfclass64, elfdata2lsb, et_exec, em_riscv, ef_riscv_rvc, ef_riscv_float_abi, pt_load, pt_dynamic, pt_interp, pf_x, program_header_len, most_headers}
use Rattle.elf_load.specs.declared.bad_elf.BadElf.{BadElf}
use Rattle.elf_load.specs.declared.bad_elf.BadElf.TheVariants as bad
use Rattle.elf_load.specs.declared.header.Header.{Header}
use Rattle.elf_load.specs.declared.header.ProgramHeader.{ProgramHeader}
use Rattle.elf_load.specs.MemoryImage.{is_within, ranges_overlap}

-- the refusal, unless the test passes
abbrev pub refusal_unless : Bool → BadElf → Option BadElf
refusal_unless test refusal = if test then None else Some refusal

-- the first refusal of a list of checks
abbrev pub first_refusal : List (Option BadElf) → Option BadElf
first_refusal [] = None
first_refusal (check ∷ checks) = option_or check (first_refusal checks)

-- at most 128 program headers of 56 bytes, which lie in a file of this length
unfoldable pub has_table : Header → ℕ → Bool
has_table h len =
    nat_le h.phnum most_headers
    && ((h.phnum == 0) || ((h.phentsize == program_header_len) && nat_le (h.phoff + program_header_len * h.phnum) len))

-- the first check of the ELF header that fails, in a file of this length: an executable of 64 bits, little-endian, for
-- RISC-V, that needs neither compressed instructions nor a floating-point ABI
unfoldable pub header_refusal : Header → ℕ → Option BadElf
header_refusal h len = first_refusal (
    refusal_unless (h.magic == elf_magic) bad.Magic
    ∷ refusal_unless ((h.class == elfclass64) && (h.encoding == elfdata2lsb)) bad.ClassOrData
    ∷ refusal_unless (h.type_ == et_exec) bad.Type_
    ∷ refusal_unless (h.machine == em_riscv) bad.Machine
    ∷ refusal_unless (bit_and h.flags (bit_or ef_riscv_rvc ef_riscv_float_abi) == 0) bad.Flags
    ∷ refusal_unless (has_table h len) bad.Headers
    ∷ [])

-- for an executable that is linked as it is loaded
unfoldable pub is_dynamic : ProgramHeader → Bool
is_dynamic p = (p.type_ == pt_dynamic) || (p.type_ == pt_interp)

-- for a segment to load that is not empty
unfoldable pub is_loaded : ProgramHeader → Bool
is_loaded p = (p.type_ == pt_load) && not ((p.filesz == 0) && (p.memsz == 0))

-- it gives the permission to execute
unfoldable pub is_executable : ProgramHeader → Bool
is_executable p = not (bit_and p.flags pf_x == 0)

unfoldable pub is_past_file : (len : ℕ) → ProgramHeader → Bool
is_past_file len p = is_loaded p && nat_lt len (p.offset + p.filesz)

-- more bytes of the file than of memory, or not in memory
unfoldable pub is_past_memory : (base size : ℕ) → ProgramHeader → Bool
is_past_memory base size p = is_loaded p && not (nat_le p.filesz p.memsz && is_within p.vaddr p.memsz base size)

-- two segments have an address in common
unfoldable pub overlaps : ProgramHeader → ProgramHeader → Bool
overlaps p q = is_loaded p && is_loaded q && ranges_overlap p.vaddr p.memsz q.vaddr q.memsz

-- the four bytes from the entry on lie in an executable segment
unfoldable pub is_entered : (entry : ℕ) → ProgramHeader → Bool
is_entered entry p = is_loaded p && is_executable p && is_within entry 4 p.vaddr p.memsz

-- the first place, and the first later place, whose elements pass the test together, in a list that begins at place i
abbrev pub first_pair : {X : Type 0} → (X → X → Bool) → (i : ℕ) → List X → Option (ℕ × ℕ)
first_pair test i [] = None
first_pair test i (x ∷ xs) =
    option_or (option_map (λ k. (i, i + 1 + k)) (position (test x) xs)) (first_pair test (i + 1) xs)

-- the first segment that passes the file's end
unfoldable pub file_refusal : List ProgramHeader → ℕ → Option BadElf
file_refusal ps len = option_map (λ i. bad.SegmentPastFile i) (position (is_past_file len) ps)

-- the first segment that has no place in memory
unfoldable pub memory_refusal : List ProgramHeader → (base size : ℕ) → Option BadElf
memory_refusal ps base size = option_map (λ i. bad.SegmentPastMemory i) (position (is_past_memory base size) ps)

-- the least pair of segments that have an address in common
unfoldable pub overlap_refusal : List ProgramHeader → Option BadElf
overlap_refusal ps = option_map (λ pair. bad.Overlap pair.0 pair.1) (first_pair overlaps 0 ps)

-- the first check of the program headers that fails, in a file of this length
unfoldable pub segment_refusal : List ProgramHeader → (entry len base size : ℕ) → Option BadElf
segment_refusal ps entry len base size = first_refusal (
    refusal_unless (not (list_any is_dynamic ps)) bad.Dynamic
    ∷ file_refusal ps len
    ∷ memory_refusal ps base size
    ∷ overlap_refusal ps
    ∷ refusal_unless ((entry % 4 == 0) && list_any (is_entered entry) ps) bad.Entry
    ∷ [])
