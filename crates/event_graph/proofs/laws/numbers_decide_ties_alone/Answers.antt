-- The times under other numbers solve the rules, and there is one solution.
use Rattle.event_graph.proofs.Renumbered.{comps_are, sums_are, times_are}
use Rattle.event_graph.proofs.Theorem.{lawful_from}
use Rattle.event_graph.proofs.laws.numbers_decide_ties_alone.Goals as goal

pub returns-clause-times : goal.returns-clause-times
returns-clause-times g c = λ to events others comps numbered other_numbers fits re ties.
    let lawful = lawful_from g.C.Component.serves g.C.Component.floor g.C.Component.stepped g.met.C.Component.floor_at_least_one g.met.C.Component.floor_holds g.met.C.Component.serves_stays in
    times_are g.C.Component.serves g.C.Component.floor g.C.Component.stepped lawful g.met.C.Component.floor_stays to events others comps numbered other_numbers fits re ties

pub returns-clause-comps : goal.returns-clause-comps
returns-clause-comps g c = λ to events others comps numbered other_numbers fits re ties.
    let lawful = lawful_from g.C.Component.serves g.C.Component.floor g.C.Component.stepped g.met.C.Component.floor_at_least_one g.met.C.Component.floor_holds g.met.C.Component.serves_stays in
    comps_are g.C.Component.serves g.C.Component.floor g.C.Component.stepped lawful g.met.C.Component.floor_stays to events others comps numbered other_numbers fits re ties

pub returns-clause-sums : goal.returns-clause-sums
returns-clause-sums g c = λ to events others comps numbered other_numbers fits re ties.
    let lawful = lawful_from g.C.Component.serves g.C.Component.floor g.C.Component.stepped g.met.C.Component.floor_at_least_one g.met.C.Component.floor_holds g.met.C.Component.serves_stays in
    sums_are g.C.Component.serves g.C.Component.floor g.C.Component.stepped lawful g.met.C.Component.floor_stays to events others comps numbered other_numbers fits re ties
