use Rattle.reference.proofs.Instructions.{local_instructions_end}
use Rattle.reference.proofs.laws.local_instructions_end.Goals as goal

pub returns : goal.returns
returns c image end core = local_instructions_end image end core
