-- The laws of the weave give the facts of each graph, and these what the domains keep.
use Rattle.std.proofs.Common.{◌≡◌, ◌<◌, ℕ, suc, List, length, map, take, Some, slice_get, refl, sym, ◌∙◌}
use Rattle.std.proofs.lemmas.List.{length-map}
use Rattle.std.proofs.lemmas.List.Sorted.{length_permutation}
use Rattle.event_graph.specs.declared.event.Event.{Event}
use Rattle.std.specs.Option.{option_map}
use Rattle.event_graph.specs.Firing.{FiresNext, IsNext}
use Rattle.event_graph.specs.Fits.{GraphFits}
use Rattle.event_graph.specs.OneListWeave.{FiredEvent, after_firings, weave, woven}
use Rattle.event_graph.specs.ServedEvents.{after_serving, of_component}
use Rattle.domain_map.specs.Domains.{Partition}
use Rattle.weave_core.specs.Keeping.{CanWeave}
use Rattle.weave_core.proofs.FromLaws.{here, order_of, served_of}
use Rattle.weave_core.proofs.Keeping.{Facts}
use Rattle.weave_core.proofs.Ending.{keeping}
use Rattle.weave_core.proofs.laws.domains_keep_to_the_weave.Goals as goal

pub returns : goal.returns
returns g c =
    let S = g.C.Component.serves in
    let F = g.C.Component.floor in
    let T = g.C.Component.stepped in
    let G = g.C.Component.greatest in
    let facts : (events : List Event) (p : Partition) (comps : List g.row.C.Denot) → CanWeave S F T G events p comps → Facts S F T G events p comps =
    λ events p comps w.
    let n = w.partitioned.numbered in
    let fits = w.partitioned.fits in
    let once = c.each_event_fires_once.ensures events comps n fits in
    let in_order = c.events_fire_in_order.ensures events comps n fits in
    let next : (index : ℕ) (x : FiredEvent) → slice_get (weave T events comps).fired index ≡ Some x → IsNext (take index (weave T events comps).fired) events x = (λ index x h. c.the_least_ready_event_fires.ensures events comps index x n fits h) in
    let firing : (firings : ℕ) → firings < length events → (x : FiredEvent) × (c : g.row.C.Denot) × FiresNext S T events (after_firings T events comps firings) (after_firings T events comps (suc firings)) x c = (λ firings l. c.each_firing_is_of_the_next_event.ensures events comps firings n fits l) in
    let front : (firings : ℕ) → (after_firings T events comps firings).fired ≡ take firings (weave T events comps).fired = (λ firings. c.firings_are_of_the_first_events.ensures events comps firings n fits) in
    let comps_at : (firings number : ℕ) → slice_get (after_firings T events comps firings).comps number ≡ option_map (λ (z : g.row.C.Denot). after_serving T z (of_component number (after_firings T events comps firings).fired)) (slice_get comps number) = (λ firings number. c.components_serve_their_own_events.ensures events comps firings number n fits) in
    let keep : (firings : ℕ) → GraphFits S F events (after_firings T events comps firings).comps = (λ firings. c.graphs_keep_fitting.ensures events comps firings n fits) in
    let solution = (c.weave_is_the_one_solution.ensures events comps (woven T events comps) n fits).1 refl in
    record {
      can = w;
      order = order_of S F T g.met.C.Component.floor_at_least_one g.met.C.Component.floor_holds events comps n once in_order next firing front comps_at keep;
      served = served_of S F T g.met.C.Component.floor_at_least_one g.met.C.Component.floor_holds events comps n once in_order next firing front comps_at keep;
      in_order = in_order;
      here = here S F T g.met.C.Component.floor_at_least_one g.met.C.Component.floor_holds events comps n once in_order next firing front comps_at keep p w.partitioned;
      solution = solution;
      timely = c.events_take_their_time.ensures events comps n fits w.small;
      front = front;
      comps_at = comps_at;
      count = sym (length-map (weave T events comps).fired (λ (x : FiredEvent). x.event)) ∙ length_permutation events (map (λ (x : FiredEvent). x.event) (weave T events comps).fired) once;
      bounds = λ domain own known floor. c.sound_floors_bound.ensures events p comps (woven T events comps) solution domain own w.partitioned known floor;
      fires = c.fires_follow.ensures;
      raised = λ domain own x bound s may. c.raised_bounds_hold.ensures events p comps (woven T events comps) solution domain own x bound w.partitioned s may;
      floors = λ owns start h told least domain. c.barrier_floors_hold.ensures events p comps (woven T events comps) solution owns start w.partitioned h told least domain;
      goes_on = λ owns index x h told first. c.barriers_advance.ensures events p comps (woven T events comps) solution owns index x w.partitioned h told first;
    }
    in
    keeping S F T G facts
