-- By the laws of the components.
use Rattle.event_graph.proofs.Growth.{small}
use Rattle.event_graph.proofs.Theorem.{lawful_from, served_from}
use Rattle.event_graph.proofs.laws.steps_stay_small.Goals as goal

pub returns : goal.returns
returns g c paced busy most delay base events comps numbered fits pace near begin room =
    small g.C.Component.serves g.C.Component.stepped g.C.Component.greatest paced busy most delay base events comps
    (lawful_from g.C.Component.serves g.C.Component.floor g.C.Component.stepped g.met.C.Component.floor_at_least_one g.met.C.Component.floor_holds g.met.C.Component.serves_stays)
    g.met.C.Component.finish_within_greatest numbered (served_from g.C.Component.serves g.C.Component.floor g.C.Component.stepped events comps fits) pace near begin room
