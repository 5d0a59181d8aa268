use Rattle.reference.proofs.Phase.{all_over}
use Rattle.reference.proofs.laws.ends_where_all_are_over.Goals as goal

pub returns : goal.returns
returns g c serve time image end s place over = all_over serve time image end s place over
