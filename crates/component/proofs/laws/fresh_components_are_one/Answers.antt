use Rattle.component.proofs.FreshAreOne.{one_list}
use Rattle.component.proofs.laws.fresh_components_are_one.Goals as goal

pub returns : goal.returns
returns c = λ m comps others fresh fresh'. one_list m comps others fresh fresh'
