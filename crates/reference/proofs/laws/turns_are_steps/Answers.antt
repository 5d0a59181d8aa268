use Rattle.reference.proofs.TurnSteps.{turn_steps}
use Rattle.reference.proofs.laws.turns_are_steps.Goals as goal

pub returns : goal.returns
returns c time image end s t number is = turn_steps time image end number s t is
