-- By the laws of the components.
use Rattle.std.proofs.Common.{get_or}
use Rattle.event_graph.specs.OneListWeave.{FiredEvent, after_firings}
use Rattle.event_graph.proofs.Fitting.{finishes_later}
use Rattle.event_graph.proofs.Lists.{In, contains_in, in_get}
use Rattle.event_graph.proofs.Progress.{holds}
use Rattle.event_graph.proofs.Theorem.{lawful_from, served_from}
use Rattle.event_graph.proofs.laws.events_fire_by_the_rules.Goals as goal

pub returns : goal.returns
returns g c = λ events comps firings numbered fits i d l.
    let lawful = lawful_from g.C.Component.serves g.C.Component.floor g.C.Component.stepped g.met.C.Component.floor_at_least_one g.met.C.Component.floor_holds g.met.C.Component.serves_stays in
    let served = served_from g.C.Component.serves g.C.Component.floor g.C.Component.stepped events comps fits in
    let fired = (after_firings g.C.Component.stepped events comps firings).fired in
    let x : FiredEvent = get_or fired i d in
    let m : In x fired = in_get fired i d l in
    let h = holds g.C.Component.serves g.C.Component.stepped events comps lawful numbered served firings in
    record {
      event = contains_in x.event events (h.members x m);
      first = (h.parents x m).0;
      second = (h.parents x m).1;
      start = h.starts x m;
      later = finishes_later g.C.Component.serves g.C.Component.floor g.C.Component.stepped lawful g.met.C.Component.floor_stays events comps numbered fits firings x m;
    }
