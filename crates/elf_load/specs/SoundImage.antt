-- What every image keeps.
use Rattle.std.specs.Prelude.{◌≡◌, ℕ, ◌+◌, ◌%◌, ◌^◌, ◌≤◌, nat_lt, nat_le, Bool, true, not, ◌&&◌, List, [], ◌∷◌, length, IsTrue, IsSome}
use Rattle.std.specs.List.{list_all, list_any}
use Rattle.elf_load.specs.Constants.{most_headers}
use Rattle.elf_load.specs.declared.segment.Segment.{Segment}
use Rattle.elf_load.specs.MemoryImage.{MemoryImage, is_within, ranges_overlap, fetched_word}

-- a segment is not empty, has at most as many bytes as it takes of memory, and lies in memory
unfoldable pub is_placed : (base size : ℕ) → Segment → Bool
is_placed base size segment =
    nat_lt 0 segment.memsz && nat_le (length segment.bytes) segment.memsz
    && is_within segment.vaddr segment.memsz base size

-- two segments have an address in common
unfoldable pub do_overlap : Segment → Segment → Bool
do_overlap first second = ranges_overlap first.vaddr first.memsz second.vaddr second.memsz

-- no two segments have an address in common
abbrev pub are_apart : List Segment → Bool
are_apart [] = true
are_apart (segment ∷ segments) = not (list_any (do_overlap segment) segments) && are_apart segments

-- What every image keeps: memory ends at 2^48 at most, there are at most 128 segments, each is placed in memory apart
-- from the others, and the first instruction lies in an executable one.
pub record IsSoundImage (image : MemoryImage) : Type 0 where
  pub reach : image.base + image.size ≤ 2 ^ 48
  pub few : length image.segments ≤ most_headers
  pub placed : IsTrue (list_all (is_placed image.base image.size) image.segments)
  pub apart : IsTrue (are_apart image.segments)
  pub aligned : image.entry % 4 ≡ 0
  pub entered : IsSome (fetched_word image.segments image.entry)
