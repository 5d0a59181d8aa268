use Rattle.event_graph.proofs.FloorsFit.{floors_fit}
use Rattle.event_graph.proofs.laws.graphs_with_their_floors_fit.Goals as goal

pub returns : goal.returns
returns g c = λ x comps entries truth.
    floors_fit (g.X.Expand.pieces x) (g.X.Expand.floors x) (λ e. g.met.X.Expand.floors_are_times x e) g.C.Component.serves g.C.Component.floor comps truth entries
