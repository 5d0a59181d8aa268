-- the bytes so far are those of the segments that were passed
use Rattle.std.proofs.Common.{◌≡◌, take, length}
use Rattle.elf_load.specs.MemoryImage.{bytes_from}
use Rattle.elf_load.proofs.image.Image.copy_to.Given as goal

abbrev pub invariant-loop-segment : goal.invariant-loop-segment
invariant-loop-segment l = l.out ≡ bytes_from (take l.segment-index l.self.segments) l.addr (length l.fn.out)
