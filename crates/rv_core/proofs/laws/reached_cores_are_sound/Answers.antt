use Rattle.rv_core.proofs.Reached.{reached-sound}
use Rattle.rv_core.proofs.laws.reached_cores_are_sound.Goals as goal

pub returns : goal.returns
returns c core reached = reached-sound c.fields_are_in_range.ensures.registers reached
