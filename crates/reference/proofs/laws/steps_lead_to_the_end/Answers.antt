use Rattle.reference.proofs.Instructions.{ran_stays, same_end}
use Rattle.reference.proofs.laws.steps_lead_to_the_end.Goals as goal

pub returns : goal.returns
returns c = record { stays = ran_stays; goes_on = same_end }
