use Rattle.std.proofs.Common.{◌∙◌, ap, sym}
use Rattle.rv_core.specs.Effect.{register}
use Rattle.reference.specs.TimedCore.{takes}
use Rattle.bound_core.proofs.Branches.{not-taken}
use Rattle.bound_core.proofs.paced.takes.Goals as goal

pub returns-else-is_branch : goal.returns-else-is_branch
returns-else-is_branch c =
    let core = c.args.core.now in
    let inst = c.in-Instruction.inst in
    let other = not-taken inst.name (register core inst.rs1) (register core inst.rs2) (sym c.is_branch.ensures ∙ c.if-is_branch.false) in
    c.if-is_branch.false ∙ sym (ap (takes core) c.in-Instruction.is ∙ other)
