-- The bytes of a home's lines before the first access. Lines are dealt to the banks in turn, and the home of a bank
-- keeps the bytes of those of its own that memory has.
use Rattle.std.specs.Prelude.{ℕ, ◌+◌, ◌-◌, ◌*◌, ◌/◌, ◌%◌, List}
use Rattle.std.specs.List.{flat_map, range_with_len}
use Rattle.zs_num.specs.Request.{line_at, line_bytes}
use Rattle.elf_load.specs.MemoryImage.{MemoryImage, bytes_from}

-- how many of a home's lines lie below memory: as many in each home
abbrev pub lines_below : (shards base : ℕ) → ℕ
lines_below shards base = line_at base / shards

-- how many lines each home keeps, so that it keeps those of its own that memory has
abbrev pub lines_kept : (shards base size : ℕ) → ℕ
lines_kept shards base size = line_at (base + size - 1) / shards - lines_below shards base + 1

-- the bytes of a home's lines, in order of their numbers
unfoldable pub first_bytes : (shards number : ℕ) → MemoryImage → List ℕ
first_bytes shards number image =
    flat_map (λ line. bytes_from image.segments (line_bytes * (line * shards + number)) line_bytes)
    (range_with_len (lines_below shards image.base) (lines_kept shards image.base image.size))

-- the address of a byte that stands here among the bytes of a home's lines, of which the first has this number among
-- all of the home. It serves private contracts alone.
abbrev pub address_at : (shards number first at : ℕ) → ℕ
address_at shards number first at = line_bytes * ((first + at / line_bytes) * shards + number) + at % line_bytes
