-- the segments passed so far do not have the word
use Rattle.std.proofs.Common.{◌≡◌, drop}
use Rattle.elf_load.specs.MemoryImage.{fetched_word}
use Rattle.elf_load.proofs.image.Image.word.Given as goal

abbrev pub invariant-loop-segment : goal.invariant-loop-segment
invariant-loop-segment l = fetched_word (drop l.segment-index l.self.segments) l.pc ≡ fetched_word l.self.segments l.pc
