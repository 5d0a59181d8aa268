-- what is read, and what is left
use Rattle.std.proofs.Common.{◌≡◌, ◌+◌, ◌-◌, ◌*◌, ◌++◌}
use Rattle.elf_load.specs.Header.{headers_from}
use Rattle.elf_load.proofs.header.program_headers.Given as goal

abbrev pub invariant-loop-i : goal.invariant-loop-i
invariant-loop-i l = l.headers.items ++ headers_from l.file (l.header.phoff + 56 * l.i) (l.header.phnum - l.i) ≡ headers_from l.file l.header.phoff l.header.phnum
