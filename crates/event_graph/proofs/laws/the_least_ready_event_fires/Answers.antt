-- By the laws of the components.
use Rattle.std.proofs.Common.{subst}
use Rattle.event_graph.specs.Firing.{IsNext}
use Rattle.event_graph.specs.OneListWeave.{after_firings}
use Rattle.event_graph.proofs.Least.{next_from_least}
use Rattle.event_graph.proofs.Once.{fires_at, first_of_weave}
use Rattle.event_graph.proofs.Theorem.{lawful_from, served_from}
use Rattle.event_graph.proofs.laws.the_least_ready_event_fires.Goals as goal

pub returns : goal.returns
returns g c = λ events comps index x numbered fits at.
    let lawful = lawful_from g.C.Component.serves g.C.Component.floor g.C.Component.stepped g.met.C.Component.floor_at_least_one g.met.C.Component.floor_holds g.met.C.Component.serves_stays in
    let served = served_from g.C.Component.serves g.C.Component.floor g.C.Component.stepped events comps fits in
    subst (λ fired. IsNext fired events x) (first_of_weave g.C.Component.serves g.C.Component.stepped events comps lawful numbered served index)
    (next_from_least (after_firings g.C.Component.stepped events comps index).fired events numbered x (fires_at g.C.Component.serves g.C.Component.stepped events comps lawful numbered served index x at))
