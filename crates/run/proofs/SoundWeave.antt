-- What holds of the weave of an interval's accesses.
use Rattle.std.proofs.Common.{◌≡◌, ◌^◌, ◌<◌, ◌≤◌, List, All, length, map}
use Rattle.zs_num.specs.declared.entry.Entry.{Entry}
use Rattle.machine_desc.specs.declared.machine.Machine.{Machine}
use Rattle.machine_desc.specs.Components.{component_count}
use Rattle.component.specs.declared.comp.Comp.{Comp}
use Rattle.component.specs.ComponentStep.{comp_step}
use Rattle.component.specs.Components.{AreComponents}
use Rattle.event_graph.specs.declared.event.Event.{Event}
use Rattle.event_graph.specs.AccessPaths.{path_of}
use Rattle.event_graph.specs.EventGraph.{all_events}
use Rattle.event_graph.specs.OneListWeave.{comps_after, fired_of, woven}
use Rattle.event_graph.specs.Timely.{AreTimely}
use Rattle.feedback.specs.FeedbackDelay.{feedback_delays}
use Rattle.noc_mesh.specs.NetTiming.{net_pieces}
use Rattle.run.specs.IntervalWeave.{AreEventsOf, IsSoundWeave}
use Rattle.reference.specs.ReferenceRun.{woven_interval}

-- the same of the weave of these events
pub record WeaveWell (machine : Machine) (comps : List Comp) (entries : List Entry) (graph : List Event) : Type 0 where
  pub events : AreEventsOf machine comps entries graph
  pub timely : AreTimely graph (map fired_of (woven comp_step graph comps))
  pub delays : length (feedback_delays graph (map fired_of (woven comp_step graph comps)) machine.cores) ≡ machine.cores
  pub delays_small : All (λ d. d ≤ 2 ^ 62) (feedback_delays graph (map fired_of (woven comp_step graph comps)) machine.cores)
  pub there : All (λ e. e.component < component_count machine) graph
  pub stay : AreComponents machine (comps_after comp_step graph comps)

pub sound_weave : (machine : Machine) (comps : List Comp) (entries : List Entry) → WeaveWell machine comps entries (all_events (net_pieces (path_of machine)) entries)
    → IsSoundWeave machine comps entries (woven_interval machine comps entries)
unfolding woven_interval
sound_weave machine comps entries well = record {
  events = well.events;
  timely = well.timely;
  delays = well.delays;
  delays_small = well.delays_small;
  there = well.there;
  stay = well.stay;
}
