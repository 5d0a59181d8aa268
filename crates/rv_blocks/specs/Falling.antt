-- Instructions behind which no other than the next one follows.
use Rattle.std.specs.Prelude.{◌≡◌, ℕ, ◌+◌, List}
use Rattle.elf_load.specs.MemoryImage.{MemoryImage}
use Rattle.rv_core.specs.Executions.{Leads}

-- Where the instruction at an address leads a core anywhere, whatever the registers are, it leads to the next one.
abbrev pub FallsThrough : MemoryImage → (pc : ℕ) → Type 0
FallsThrough image pc = (registers after : List ℕ) (pc_after : ℕ) → Leads image registers pc after pc_after → pc_after ≡ pc + 4
