-- A home before the first access.
use Rattle.std.specs.Prelude.{ℕ, [], replicate, None}
use Rattle.elf_load.specs.MemoryImage.{MemoryImage}
use Rattle.home.specs.FirstBytes.{first_bytes}
use Rattle.home.specs.HomeState.{HomeState}

-- no line is in the L2, memory has what the executable left, and no core has marked anything
unfoldable pub new_home : (number shards sets ways cores : ℕ) → MemoryImage → HomeState
new_home number shards sets ways cores image = record {
  number = number;
  shards = shards;
  base = image.base;
  size = image.size;
  ways = ways;
  sets = replicate sets [];
  bytes = first_bytes shards number image;
  marks = replicate cores None;
}
