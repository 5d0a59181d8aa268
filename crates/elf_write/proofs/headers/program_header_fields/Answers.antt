use Rattle.std.proofs.Common.{arith}
use Rattle.elf_write.proofs.headers.program_header_fields.Goals as goal

pub returns : goal.returns
returns c = grind arith
