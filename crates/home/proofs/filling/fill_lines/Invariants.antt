-- the lines so far are filled, and no byte that was right has changed
use Rattle.std.proofs.Common.{◌≡◌, ℕ, ◌*◌, ◌<◌, ◌≤◌, length, get_or}
use Rattle.elf_load.specs.MemoryImage.{byte_at}
use Rattle.home.specs.FirstBytes.{address_at}
use Rattle.home.proofs.filling.fill_lines.Given as goal

abbrev pub invariant-loop-i : goal.invariant-loop-i
invariant-loop-i l = record {
  size : length l.lines ≡ length l.fn.lines;
  filled : (at : ℕ) → 64 * l.from ≤ at → at < 64 * l.i → get_or l.lines at 0 ≡ byte_at l.image.segments (address_at l.shards l.number l.first at);
  others : (at : ℕ) → get_or l.fn.lines at 0 ≡ byte_at l.image.segments (address_at l.shards l.number l.first at) → get_or l.lines at 0 ≡ get_or l.fn.lines at 0;
}
