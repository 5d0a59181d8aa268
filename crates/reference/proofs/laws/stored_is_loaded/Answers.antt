use Rattle.reference.proofs.InstructionLaws.{stored-loaded}
use Rattle.reference.proofs.laws.stored_is_loaded.Goals as goal

pub returns : goal.returns
returns c = stored-loaded c.accesses_are_little_endian.ensures.stores c.accesses_are_little_endian.ensures.loads
