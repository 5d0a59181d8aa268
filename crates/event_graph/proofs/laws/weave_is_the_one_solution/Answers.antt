-- By the laws of the components.
use Rattle.event_graph.proofs.Theorem.{lawful_from, one_solution}
use Rattle.event_graph.proofs.laws.weave_is_the_one_solution.Goals as goal

pub returns : goal.returns
returns g c =
    one_solution g.C.Component.serves g.C.Component.floor g.C.Component.stepped
    (lawful_from g.C.Component.serves g.C.Component.floor g.C.Component.stepped g.met.C.Component.floor_at_least_one g.met.C.Component.floor_holds g.met.C.Component.serves_stays)
