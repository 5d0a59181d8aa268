use Rattle.event_graph.proofs.AllEvents.{count_events}
use Rattle.event_graph.proofs.laws.events_are_counted.Goals as goal

pub returns : goal.returns
returns g c = λ x entries. count_events (g.X.Expand.pieces x) entries
