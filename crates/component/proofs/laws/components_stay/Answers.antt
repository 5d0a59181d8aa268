use Rattle.component.proofs.Stepped.{components_stay}
use Rattle.component.proofs.laws.components_stay.Goals as goal

pub returns : goal.returns
returns c = λ m comps number c kind start are at'. components_stay m comps number c kind start are at'
