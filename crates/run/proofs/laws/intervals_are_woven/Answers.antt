use Rattle.std.proofs.Common.{ℕ, ◌*◌, ◌^◌, ◌<◌, ◌≤◌, List, All, length, map, refl, subst}
use Rattle.component.specs.ComponentStep.{comp_step}
use Rattle.component.specs.Serving.{comp_latency, comp_serves}
use Rattle.event_graph.specs.declared.event.Event.{Event}
use Rattle.event_graph.specs.declared.fired.Fired.{Fired}
use Rattle.event_graph.specs.EventGraph.{all_events}
use Rattle.event_graph.specs.Fits.{GraphFits}
use Rattle.event_graph.specs.Numbered.{IsNumbered}
use Rattle.event_graph.specs.OneListWeave.{fired_of, woven}
use Rattle.event_graph.specs.Timely.{AreTimely}
use Rattle.noc_mesh.specs.NetTiming.{net_pieces}
use Rattle.run.proofs.IntervalWeave.{count, fits, same_events, steps_are_small}
use Rattle.run.proofs.SoundWeave.{WeaveWell, sound_weave}
use Rattle.run.proofs.laws.intervals_are_woven.Goals as goal

pub returns : goal.returns
returns c = λ machine net comps entries ok is are free cores starts short.
    let graph : List Event = all_events (net_pieces net.path) entries in
    let fired : List Fired = map fired_of (woven comp_step graph comps) in
    let numbered : IsNumbered graph = c.events_are_placed.ensures.numbered net entries in
    let fit : GraphFits comp_serves comp_latency graph comps = fits machine ok net is comps are entries graph refl c.net_graphs_fit.ensures in
    let few : length graph ≤ 60 * length entries = count machine ok net is comps are entries graph refl c.net_accesses_have_few_events.ensures (c.events_are_counted.ensures net entries) in
    let small = steps_are_small machine ok net is comps are entries graph refl c.machine_steps_stay_small.ensures free numbered fit
    (c.events_begin_with_their_accesses.ensures net entries (2 ^ 34) starts) few short in
    let timely : AreTimely graph fired = c.events_take_their_time.ensures graph comps numbered fit small in
    let delays = c.delays_are_small.ensures graph fired machine.cores numbered timely in
    let same = same_events machine ok net is comps are entries graph refl in
    let well : WeaveWell machine comps entries graph = record {
      events = record { are = same; numbered = numbered; fits = fit; small = small; cores = c.events_keep_their_cores.ensures net entries machine.cores cores; few = few };
      timely = timely;
      delays = delays.0;
      delays_small = delays.1;
      there = subst (λ (n : ℕ). All (λ e. e.component < n) graph) are.count (c.fitting_events_are_there.ensures graph comps fit);
      stay = c.machine_components_stay.ensures machine comps graph are;
    }
    in
    sound_weave machine comps entries (subst (WeaveWell machine comps entries) same well)
