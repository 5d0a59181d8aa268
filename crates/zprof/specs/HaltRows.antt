-- Where each core was at the end of a run.
use Rattle.std.specs.Prelude.{◌≡◌, ℕ, List, length, Option, None, Some, slice_get}
use Rattle.last_jumps.specs.Jumps.{last_jumps}
use Rattle.profile_rows.specs.declared.halt_row.HaltRow.{HaltRow}
use Rattle.reference.specs.TimedCore.{TimedCore}
use Rattle.rv_core.specs.declared.why.Why.{Why}
use Rattle.rv_core.specs.declared.why.Why.TheVariants as why
use Rattle.trace.specs.Trace.{Step}

-- The address of the next instruction, or of the one that halted the core by a fault: that was not executed. The call by
-- which a core exits was, and none comes behind it.
abbrev pub next_at : Option Why → (pc : ℕ) → Option ℕ
next_at None pc = Some pc
next_at (Some (why.Exit number)) pc = None
next_at (Some (why.Illegal word)) pc = Some pc
next_at (Some (why.Misaligned target)) pc = Some pc
next_at (Some (why.AtomicAlign addr)) pc = Some pc
next_at (Some (why.Fetch addr)) pc = Some pc
next_at (Some (why.Access addr)) pc = Some pc
next_at (Some why.Break) pc = Some pc

-- the row of a core of this number, which is so at the end of these steps
pub record IsHaltRow (steps : List Step) (number : ℕ) (c : TimedCore) (row : HaltRow) : Type 0 where
  pub core : row.core ≡ number
  pub halted : row.halted ≡ c.core.halted
  pub pc : row.pc ≡ c.core.pc
  pub registers : row.registers.items ≡ c.core.registers
  pub jumps : row.jumps.items ≡ last_jumps number steps (next_at c.core.halted c.core.pc)

-- a row for each core, in order of their numbers
pub record AreHaltRows (steps : List Step) (cores : List TimedCore) (rows : List HaltRow) : Type 0 where
  pub count : length rows ≡ length cores
  pub each : (n : ℕ) (c : TimedCore) (row : HaltRow) → slice_get cores n ≡ Some c → slice_get rows n ≡ Some row → IsHaltRow steps n c row
