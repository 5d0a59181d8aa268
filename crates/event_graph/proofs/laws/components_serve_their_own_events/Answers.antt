-- By the laws of the components.
use Rattle.event_graph.proofs.Fitting.{own_events}
use Rattle.event_graph.proofs.Theorem.{lawful_from}
use Rattle.event_graph.proofs.laws.components_serve_their_own_events.Goals as goal

pub returns : goal.returns
returns g c = λ events comps firings number numbered fits.
    let lawful = lawful_from g.C.Component.serves g.C.Component.floor g.C.Component.stepped g.met.C.Component.floor_at_least_one g.met.C.Component.floor_holds g.met.C.Component.serves_stays in
    own_events g.C.Component.serves g.C.Component.floor g.C.Component.stepped lawful g.met.C.Component.floor_stays events comps numbered fits firings number
