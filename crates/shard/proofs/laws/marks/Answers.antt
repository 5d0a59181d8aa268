use Rattle.shard.proofs.Reservations.{marks_are_reservations}
use Rattle.shard.proofs.laws.marks.Goals as goal

pub returns : goal.returns
returns c = marks_are_reservations
