-- By the laws of the components.
use Rattle.event_graph.proofs.Once.{firing_at}
use Rattle.event_graph.proofs.Theorem.{lawful_from, served_from}
use Rattle.event_graph.proofs.laws.each_firing_is_of_the_next_event.Goals as goal

pub returns : goal.returns
returns g c = λ events comps firings numbered fits l.
    let lawful = lawful_from g.C.Component.serves g.C.Component.floor g.C.Component.stepped g.met.C.Component.floor_at_least_one g.met.C.Component.floor_holds g.met.C.Component.serves_stays in
    let served = served_from g.C.Component.serves g.C.Component.floor g.C.Component.stepped events comps fits in
    firing_at g.C.Component.serves g.C.Component.stepped events comps lawful numbered served firings l
