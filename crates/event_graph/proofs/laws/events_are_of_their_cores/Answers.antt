-- By the places of a core's events among all.
use Rattle.event_graph.proofs.SameByCore.{are_renumbered, to}
use Rattle.event_graph.proofs.laws.events_are_of_their_cores.Goals as goal

pub returns : goal.returns
returns g c = λ x entries others same. (
  to (g.X.Expand.pieces x) (g.met.X.Expand.parents_come_before x) entries others same,
  are_renumbered (g.X.Expand.pieces x) (g.met.X.Expand.parents_come_before x) entries others same,
)
