-- What memory holds when an executable was loaded.
use Rattle.std.specs.Prelude.{ℕ, ◌+◌, ◌-◌, min, max, nat_lt, nat_le, Bool, ◌&&◌, if◌then◌else◌, List, [], ◌∷◌, map, slice_index, Option, Some, None}
use Rattle.std.specs.List.{range_with_len}
use Rattle.byteorder.specs.Endian.{little_from}
use Rattle.elf_load.specs.declared.segment.Segment.{Segment}

-- the range of memory, the address of the first instruction, and the segments
pub record MemoryImage : Type 0 where
  pub base : ℕ
  pub size : ℕ
  pub entry : ℕ
  pub segments : List Segment

-- `count` numbers from `start` on lie among the `size` numbers from `base` on
abbrev pub is_within : (start count base size : ℕ) → Bool
is_within start count base size = nat_le base start && nat_le (start + count) (base + size)

-- so many from the first start on and so many from the second start on have an address in common: the later start lies
-- before the earlier end
abbrev pub ranges_overlap : (first count second others : ℕ) → Bool
ranges_overlap first count second others = nat_lt (max first second) (min (first + count) (second + others))

-- so many bytes from this address on lie in the segment
abbrev pub covers : Segment → ℕ → ℕ → Bool
covers segment addr bytes = is_within addr bytes segment.vaddr segment.memsz

-- the four bytes from this address on in a segment, as a number. Past the bytes of the file they are 0.
abbrev pub word_in : Segment → ℕ → ℕ
word_in segment pc = little_from (pc - segment.vaddr) 4 segment.bytes

-- the word that is fetched at pc: None where its four bytes are not in one executable segment
abbrev pub fetched_word : List Segment → ℕ → Option ℕ
fetched_word [] pc = None
fetched_word (segment ∷ segments) pc =
    if segment.exec && covers segment pc 4 then Some (word_in segment pc) else fetched_word segments pc

-- the byte at an address: 0 outside the segments and past the bytes that the file has of a segment
abbrev pub byte_at : List Segment → ℕ → ℕ
byte_at [] addr = 0
byte_at (segment ∷ segments) addr =
    if covers segment addr 1 then slice_index segment.bytes (addr - segment.vaddr) else byte_at segments addr

-- so many bytes of memory from an address on
abbrev pub bytes_from : List Segment → (addr count : ℕ) → List ℕ
bytes_from segments addr count = map (byte_at segments) (range_with_len addr count)
