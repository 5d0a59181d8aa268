use Rattle.reference.proofs.InstructionLaws.{other_bytes-stay}
use Rattle.reference.proofs.laws.other_bytes_stay.Goals as goal

pub returns : goal.returns
returns c = other_bytes-stay c.accesses_are_little_endian.ensures.stores c.other_bytes_stay.ensures
