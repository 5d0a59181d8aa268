use Rattle.reference.proofs.Phase.{local_alone}
use Rattle.reference.proofs.laws.local_instructions_are_alone.Goals as goal

pub returns : goal.returns
returns g c serve time image end s number core place numbers here = local_alone serve time image end s number core place numbers here
