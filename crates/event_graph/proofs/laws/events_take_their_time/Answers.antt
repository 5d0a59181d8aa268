-- By the laws of the components.
use Rattle.event_graph.proofs.Theorem.{lawful_from}
use Rattle.event_graph.proofs.Timely.{all_timely}
use Rattle.event_graph.proofs.laws.events_take_their_time.Goals as goal

pub returns : goal.returns
returns g c events comps numbered fits small =
    all_timely g.C.Component.serves g.C.Component.floor g.C.Component.stepped g.C.Component.greatest events comps
    (lawful_from g.C.Component.serves g.C.Component.floor g.C.Component.stepped g.met.C.Component.floor_at_least_one g.met.C.Component.floor_holds g.met.C.Component.serves_stays)
    g.met.C.Component.floor_holds g.met.C.Component.floor_stays g.met.C.Component.finish_within_greatest numbered fits small
