-- The image of an executable, or the first check that it fails.
use Rattle.std.specs.Prelude.{ℕ, nat_le, List, map, filter, length, take, drop, Option, Some, None, Result, Ok, Err}
use Rattle.std.specs.Option.{option_or}
use Rattle.elf_load.specs.Constants.{header_len}
use Rattle.elf_load.specs.declared.bad_elf.BadElf.{BadElf}
use Rattle.elf_load.specs.declared.bad_elf.BadElf.TheVariants as bad
use Rattle.elf_load.specs.declared.header.Header.{Header}
use Rattle.elf_load.specs.declared.header.ProgramHeader.{ProgramHeader}
use Rattle.elf_load.specs.declared.segment.Segment.{Segment}
use Rattle.elf_load.specs.Checks.{refusal_unless, header_refusal, segment_refusal, is_loaded, is_executable}
use Rattle.elf_load.specs.Header.{header_of, program_headers}
use Rattle.elf_load.specs.MemoryImage.{MemoryImage}

-- the segment of a program header
unfoldable pub segment_of : List ℕ → ProgramHeader → Segment
segment_of file p = record {
  vaddr = p.vaddr;
  bytes = take p.filesz (drop p.offset file);
  memsz = p.memsz;
  exec = is_executable p;
}

-- the segments to load, in the order of their headers
abbrev pub segments_of : List ℕ → List ProgramHeader → List Segment
segments_of file ps = map (segment_of file) (filter is_loaded ps)

-- the image of a file that passes all checks
abbrev pub image_in : List ℕ → Header → List ProgramHeader → (base size : ℕ) → MemoryImage
image_in file h ps base size = record { base = base; size = size; entry = h.entry; segments = segments_of file ps }

-- the first check of a file that fails: of its length, of the ELF header, of the program headers
unfoldable pub elf_refusal : List ℕ → (base size : ℕ) → Option BadElf
elf_refusal file base size =
    let h = header_of file in
    option_or (refusal_unless (nat_le header_len (length file)) bad.Short)
    (option_or (header_refusal h (length file))
    (segment_refusal (program_headers file h) h.entry (length file) base size))

-- an image, where there is no refusal
abbrev pub image_unless : Option BadElf → MemoryImage → Result MemoryImage BadElf
image_unless None image = Ok image
image_unless (Some refusal) image = Err refusal

-- the image of a file, or the first check that fails
unfoldable pub image_of : List ℕ → (base size : ℕ) → Result MemoryImage BadElf
image_of file base size =
    let h = header_of file in
    image_unless (elf_refusal file base size) (image_in file h (program_headers file h) base size)
