use Rattle.std.proofs.Common.{◌*◌, ◌^◌, ◌<◌, ◌≤◌, List, length, All, sym, subst}
use Rattle.component.specs.Serving.{comp_latency, comp_serves}
use Rattle.event_graph.specs.declared.event.Event.{Event}
use Rattle.event_graph.specs.Fits.{GraphFits}
use Rattle.event_graph.specs.Numbered.{IsNumbered}
use Rattle.run.proofs.IntervalWeave.{count, few_events, fits, same_events, steps_are_small}
use Rattle.run.proofs.weaving.events_of.Goals as goal

pub build-requires-clause-few : goal.build-requires-clause-few
build-requires-clause-few c = few_events c.net_accesses_have_few_events.ensures c.args.net.now c.args.entries.now c.requires.few

pub returns : goal.returns
returns c =
    let machine = c.args.machine.now in
    let net = c.args.net.now in
    let comps = c.args.comps.now in
    let entries = c.args.entries.now in
    let graph = c.in_ok-graph.graph in
    let made = c.in_ok-graph.ensures in
    let numbered : IsNumbered graph = c.events-numbered.ensures.numbered in
    let fit : GraphFits comp_serves comp_latency graph comps = fits machine c.requires.machine net c.requires.net comps c.requires.components entries graph made c.net_graphs_fit.ensures in
    let few : length graph ≤ 60 * length entries =
    count machine c.requires.machine net c.requires.net comps c.requires.components entries graph made c.net_accesses_have_few_events.ensures (c.events_are_counted.ensures net entries)
    in
    record {
      are = same_events machine c.requires.machine net c.requires.net comps c.requires.components entries graph made;
      numbered = numbered;
      fits = fit;
      small = steps_are_small machine c.requires.machine net c.requires.net comps c.requires.components entries graph made c.machine_steps_stay_small.ensures c.requires.free numbered fit
          (c.events_begin_with_their_accesses.ensures net entries (2 ^ 34) c.requires.starts) few c.requires.few;
      cores = subst (λ (g : List Event). All (λ e. e.core < machine.cores) g) (sym made) (c.events_keep_their_cores.ensures net entries machine.cores c.requires.cores);
      few = few;
    }
