use Rattle.event_graph.proofs.PlainFits.{plain_floors}
use Rattle.event_graph.proofs.laws.plain_floors_are_of_components.Goals as goal

pub returns : goal.returns
returns c = λ m comps no_rows are. plain_floors m comps no_rows are
