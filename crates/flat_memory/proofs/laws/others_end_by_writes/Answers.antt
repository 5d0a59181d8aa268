use Rattle.flat_memory.proofs.Reservations.{others_end_by_writes}
use Rattle.flat_memory.proofs.laws.others_end_by_writes.Goals as goal

pub returns : goal.returns
returns c = others_end_by_writes
