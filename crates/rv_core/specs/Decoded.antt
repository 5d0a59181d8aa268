-- What a decoded instruction keeps.
use Rattle.std.specs.Prelude.{◌<◌}
use Rattle.rv_core.specs.declared.program.Fetched.{Fetched}
use Rattle.rv_core.specs.declared.program.Fetched.TheVariants.{Outside, NoInstruction, Instruction}

-- the fields that name registers do
abbrev pub HasRegisters : Fetched → Type 0
HasRegisters Outside = Unit {0}
HasRegisters (NoInstruction word) = Unit {0}
HasRegisters (Instruction inst) = (inst.rd < 32) × (inst.rs1 < 32) × (inst.rs2 < 32)
