-- a byte that no segment to come has is right
use Rattle.std.proofs.Common.{◌≡◌, ℕ, ◌*◌, ◌<◌, length, drop, get_or}
use Rattle.elf_load.specs.MemoryImage.{byte_at}
use Rattle.home.specs.FirstBytes.{address_at}
use Rattle.home.proofs.filling.first_bytes.Given as goal

abbrev pub invariant-loop-segment : goal.invariant-loop-segment
invariant-loop-segment l = record {
  size : length l.lines ≡ 64 * l.count;
  filled : (at : ℕ) → at < 64 * l.count → byte_at (drop l.segment-index l.image.segments) (address_at l.shards l.number l.first at) ≡ 0
      → get_or l.lines at 0 ≡ byte_at l.image.segments (address_at l.shards l.number l.first at);
}
