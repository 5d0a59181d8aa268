-- the segments passed so far do not have the byte
use Rattle.std.proofs.Common.{◌≡◌, drop}
use Rattle.elf_load.specs.MemoryImage.{byte_at}
use Rattle.elf_load.proofs.image.Image.byte.Given as goal

abbrev pub invariant-loop-segment : goal.invariant-loop-segment
invariant-loop-segment l = byte_at (drop l.segment-index l.self.segments) l.addr ≡ byte_at l.self.segments l.addr
