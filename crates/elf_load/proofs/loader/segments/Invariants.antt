-- what is read, and what is left
use Rattle.std.proofs.Common.{◌≡◌, ◌++◌, drop}
use Rattle.elf_load.specs.Image.{segments_of}
use Rattle.elf_load.proofs.loader.segments.Given as goal

abbrev pub invariant-loop-header : goal.invariant-loop-header
invariant-loop-header l = l.segments.items ++ segments_of l.file (drop l.header-index l.headers) ≡ segments_of l.file l.headers
