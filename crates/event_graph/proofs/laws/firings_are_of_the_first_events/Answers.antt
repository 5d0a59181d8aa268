-- By the laws of the components.
use Rattle.event_graph.proofs.Once.{first_of_weave}
use Rattle.event_graph.proofs.Theorem.{lawful_from, served_from}
use Rattle.event_graph.proofs.laws.firings_are_of_the_first_events.Goals as goal

pub returns : goal.returns
returns g c = λ events comps firings numbered fits.
    let lawful = lawful_from g.C.Component.serves g.C.Component.floor g.C.Component.stepped g.met.C.Component.floor_at_least_one g.met.C.Component.floor_holds g.met.C.Component.serves_stays in
    let served = served_from g.C.Component.serves g.C.Component.floor g.C.Component.stepped events comps fits in
    first_of_weave g.C.Component.serves g.C.Component.stepped events comps lawful numbered served firings
