-- By the laws of the components.
use Rattle.event_graph.proofs.Fitting.{fits_still}
use Rattle.event_graph.proofs.Theorem.{lawful_from}
use Rattle.event_graph.proofs.laws.graphs_keep_fitting.Goals as goal

pub returns : goal.returns
returns g c = λ events comps firings numbered fits.
    let lawful = lawful_from g.C.Component.serves g.C.Component.floor g.C.Component.stepped g.met.C.Component.floor_at_least_one g.met.C.Component.floor_holds g.met.C.Component.serves_stays in
    fits_still g.C.Component.serves g.C.Component.floor g.C.Component.stepped lawful g.met.C.Component.floor_stays events comps numbered fits firings
