-- Which instructions compute a number, and which are branches.
use Rattle.std.specs.Prelude.{Bool, true, false}
use Rattle.rv_decode.specs.declared.name.Name.{Name}
use Rattle.rv_decode.specs.declared.name.Name.TheVariants.{Addi, Slti, Sltiu, Xori, Ori, Andi, Slli, Srli, Srai, Addiw, Slliw, Srliw, Sraiw, Add, Sub, Sll, Slt, Sltu, Xor, Srl, Sra, Or, And, Addw, Subw, Sllw, Srlw, Sraw, Mul, Mulh, Mulhsu, Mulhu, Div, Divu, Rem, Remu, Mulw, Divw, Divuw, Remw, Remuw, Beq, Bne, Blt, Bge, Bltu, Bgeu}

-- the instructions of the opcode BRANCH
abbrev pub is_branch : Name → Bool
is_branch Beq = true
is_branch Bne = true
is_branch Blt = true
is_branch Bge = true
is_branch Bltu = true
is_branch Bgeu = true
is_branch _ = false

-- the instructions of the opcodes OP-IMM, OP-IMM-32, OP and OP-32
abbrev pub is_arithmetic : Name → Bool
is_arithmetic Addi = true
is_arithmetic Slti = true
is_arithmetic Sltiu = true
is_arithmetic Xori = true
is_arithmetic Ori = true
is_arithmetic Andi = true
is_arithmetic Slli = true
is_arithmetic Srli = true
is_arithmetic Srai = true
is_arithmetic Addiw = true
is_arithmetic Slliw = true
is_arithmetic Srliw = true
is_arithmetic Sraiw = true
is_arithmetic Add = true
is_arithmetic Sub = true
is_arithmetic Sll = true
is_arithmetic Slt = true
is_arithmetic Sltu = true
is_arithmetic Xor = true
is_arithmetic Srl = true
is_arithmetic Sra = true
is_arithmetic Or = true
is_arithmetic And = true
is_arithmetic Addw = true
is_arithmetic Subw = true
is_arithmetic Sllw = true
is_arithmetic Srlw = true
is_arithmetic Sraw = true
is_arithmetic Mul = true
is_arithmetic Mulh = true
is_arithmetic Mulhsu = true
is_arithmetic Mulhu = true
is_arithmetic Div = true
is_arithmetic Divu = true
is_arithmetic Rem = true
is_arithmetic Remu = true
is_arithmetic Mulw = true
is_arithmetic Divw = true
is_arithmetic Divuw = true
is_arithmetic Remw = true
is_arithmetic Remuw = true
is_arithmetic _ = false
