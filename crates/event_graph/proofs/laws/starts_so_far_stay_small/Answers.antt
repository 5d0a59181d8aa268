-- By the laws of the components.
use Rattle.std.proofs.Common.{get_or}
use Rattle.event_graph.proofs.Lists.{in_get}
use Rattle.event_graph.proofs.SmallSteps.{start_small}
use Rattle.event_graph.proofs.Theorem.{lawful_from, served_from}
use Rattle.event_graph.proofs.laws.starts_so_far_stay_small.Goals as goal

pub returns : goal.returns
returns g c = λ events comps firings numbered fits small i d l.
    let lawful = lawful_from g.C.Component.serves g.C.Component.floor g.C.Component.stepped g.met.C.Component.floor_at_least_one g.met.C.Component.floor_holds g.met.C.Component.serves_stays in
    let served = served_from g.C.Component.serves g.C.Component.floor g.C.Component.stepped events comps fits in
    start_small g.C.Component.serves g.C.Component.stepped g.C.Component.greatest events comps lawful g.met.C.Component.finish_within_greatest numbered served small firings (get_or events i d) (in_get events i d l)
