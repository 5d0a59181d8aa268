-- What is left of other bytes where those of a segment are copied over them. It serves private contracts alone.
use Rattle.std.specs.Prelude.{ℕ, ◌-◌, length, slice_index, if◌then◌else◌}
use Rattle.elf_load.specs.declared.segment.Segment.{Segment}
use Rattle.elf_load.specs.MemoryImage.{is_within}

-- the byte at an address that the file has of a segment, or another byte where the file has none there
abbrev pub byte_over : Segment → (addr other : ℕ) → ℕ
byte_over segment addr other =
    if is_within addr 1 segment.vaddr (length segment.bytes)
    then slice_index segment.bytes (addr - segment.vaddr)
    else other
