use Rattle.component.proofs.FreshAreThere.{fresh_there}
use Rattle.component.proofs.laws.fresh_components_are_there.Goals as goal

pub returns : goal.returns
returns c = λ m ok. fresh_there m ok
