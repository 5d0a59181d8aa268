use Rattle.event_graph.proofs.FromEntries.{cores_kept}
use Rattle.event_graph.proofs.laws.events_keep_their_cores.Goals as goal

pub returns : goal.returns
returns g c = λ x entries cores within. cores_kept (g.X.Expand.pieces x) cores entries within
