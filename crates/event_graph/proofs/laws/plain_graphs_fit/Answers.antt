use Rattle.event_graph.proofs.PlainFits.{plain_fits}
use Rattle.event_graph.proofs.laws.plain_graphs_fit.Goals as goal

pub returns : goal.returns
returns c = λ m comps entries ok no_rows are. plain_fits m comps no_rows are ok entries
