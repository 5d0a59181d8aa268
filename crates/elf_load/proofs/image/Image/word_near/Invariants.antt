-- the segments passed so far do not have the word
use Rattle.std.proofs.Common.{◌≡◌, drop}
use Rattle.elf_load.specs.MemoryImage.{fetched_word}
use Rattle.elf_load.proofs.image.Image.word_near.Given as goal

abbrev pub invariant-loop-place : goal.invariant-loop-place
invariant-loop-place l = fetched_word (drop l.place l.self.segments) l.pc ≡ fetched_word l.self.segments l.pc
