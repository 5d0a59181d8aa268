use Rattle.std.proofs.Common.{◌≡◌, ◌==◌, [], ◌∷◌, refl}
use Rattle.std.specs.List.{list_any}
use Rattle.rv_decode.specs.InstructionTable.{table}
use Rattle.rv_decode.specs.Fields.{opcode_of}
use Rattle.rv_decode.specs.NamedRows.{row_named, value_of}
use Rattle.rv_decode.specs.Opcodes as opcode
use Rattle.rv_decode.specs.declared.name.Name.{Name}
use Rattle.rv_decode.specs.declared.name.Name.TheVariants.{Lui}
use Rattle.rv_alu.specs.Computing.{is_arithmetic, is_branch}
use Rattle.rv_alu.proofs.laws.opcodes.Goals as goal

arithmetic : (name : Name) → is_arithmetic name ≡ list_any (λ code. opcode_of (value_of name) == code) (opcode.op_imm ∷ opcode.op_imm_32 ∷ opcode.op ∷ opcode.op_32 ∷ [])
unfolding value_of row_named table
arithmetic Lui = refl
arithmetic _ = refl

branches : (name : Name) → is_branch name ≡ (opcode_of (value_of name) == opcode.branch)
unfolding value_of row_named table
branches Lui = refl
branches _ = refl

pub returns-clause-arithmetic : goal.returns-clause-arithmetic
returns-clause-arithmetic c = arithmetic

pub returns-clause-branches : goal.returns-clause-branches
returns-clause-branches c = branches
