-- They start in order of their numbers.
use Rattle.event_graph.proofs.InARow.{fire_in_order, first_of_its_core}
use Rattle.event_graph.proofs.Lists.{in_contains}
use Rattle.event_graph.proofs.Theorem.{lawful_from}
use Rattle.event_graph.proofs.laws.events_of_a_core_fire_in_order.Goals as goal

pub returns-clause-order : goal.returns-clause-order
returns-clause-order g c = λ x entries comps firings d e row fits md me core less fired.
    let lawful = lawful_from g.C.Component.serves g.C.Component.floor g.C.Component.stepped g.met.C.Component.floor_at_least_one g.met.C.Component.floor_holds g.met.C.Component.serves_stays in
    fire_in_order g.C.Component.serves g.C.Component.floor g.C.Component.stepped lawful g.met.C.Component.floor_stays
    (g.X.Expand.pieces x) (g.met.X.Expand.parents_come_before x) (g.met.X.Expand.only_first_starts_alone x) row entries comps fits firings d e
    (in_contains d _ md) (in_contains e _ me) core less fired

pub returns-clause-next : goal.returns-clause-next
returns-clause-next g c = λ x entries comps firings next c d row fits fires md core less.
    let lawful = lawful_from g.C.Component.serves g.C.Component.floor g.C.Component.stepped g.met.C.Component.floor_at_least_one g.met.C.Component.floor_holds g.met.C.Component.serves_stays in
    first_of_its_core g.C.Component.serves g.C.Component.floor g.C.Component.stepped lawful g.met.C.Component.floor_stays
    (g.X.Expand.pieces x) (g.met.X.Expand.parents_come_before x) (g.met.X.Expand.only_first_starts_alone x) row entries comps fits firings next c fires d
    (in_contains d _ md) core less
