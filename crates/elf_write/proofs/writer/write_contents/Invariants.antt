-- what is written, and what is left
use Rattle.std.proofs.Common.{◌≡◌, ◌++◌, drop}
use Rattle.elf_write.specs.File.{contents}
use Rattle.elf_write.proofs.writer.write_contents.Given as goal

abbrev pub invariant-loop-segment : goal.invariant-loop-segment
invariant-loop-segment l = l.out.items ++ contents (drop l.segment-index l.segments) ≡ l.initial.out.items ++ contents l.segments
