-- By the laws of the components.
use Rattle.event_graph.proofs.Solves.{held}
use Rattle.event_graph.proofs.Theorem.{lawful_from, served_from}
use Rattle.event_graph.proofs.laws.finishes_are_served_in_turn.Goals as goal

pub returns : goal.returns
returns g c = λ events comps number component numbered fits there.
    let lawful = lawful_from g.C.Component.serves g.C.Component.floor g.C.Component.stepped g.met.C.Component.floor_at_least_one g.met.C.Component.floor_holds g.met.C.Component.serves_stays in
    let served = served_from g.C.Component.serves g.C.Component.floor g.C.Component.stepped events comps fits in
    (held g.C.Component.serves g.C.Component.stepped events comps lawful numbered served).turns number component there
