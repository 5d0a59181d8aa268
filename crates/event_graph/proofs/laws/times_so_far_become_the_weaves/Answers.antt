-- By the laws of the components.
use Rattle.event_graph.proofs.Solves.{known_at_the_end}
use Rattle.event_graph.proofs.Theorem.{lawful_from, served_from}
use Rattle.event_graph.proofs.laws.times_so_far_become_the_weaves.Goals as goal

pub returns : goal.returns
returns g c = λ events comps numbered fits.
    let lawful = lawful_from g.C.Component.serves g.C.Component.floor g.C.Component.stepped g.met.C.Component.floor_at_least_one g.met.C.Component.floor_holds g.met.C.Component.serves_stays in
    let served = served_from g.C.Component.serves g.C.Component.floor g.C.Component.stepped events comps fits in
    known_at_the_end g.C.Component.serves g.C.Component.stepped events comps lawful numbered served
