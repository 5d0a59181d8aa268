-- What the weave of an interval gives.
use Rattle.std.specs.Prelude.{◌≡◌, ◌*◌, ◌<◌, ◌≤◌, ◌^◌, List, length, map}
use Rattle.std.specs.List.{All}
use Rattle.zs_num.specs.declared.entry.Entry.{Entry}
use Rattle.machine_desc.specs.declared.machine.Machine.{Machine}
use Rattle.machine_desc.specs.Components.{component_count}
use Rattle.machine_desc.specs.Machine.{IsMachine}
use Rattle.component.specs.declared.comp.Comp.{Comp}
use Rattle.component.specs.ComponentStep.{comp_step, free_of}
use Rattle.component.specs.Greatest.{comp_greatest}
use Rattle.component.specs.Serving.{comp_latency, comp_serves}
use Rattle.component.specs.Components.{AreComponents}
use Rattle.event_graph.specs.declared.event.Event.{Event}
use Rattle.event_graph.specs.declared.fired.Fired.{Fired}
use Rattle.noc_mesh.specs.declared.net.Net.{Net}
use Rattle.event_graph.specs.AccessPaths.{path_of}
use Rattle.event_graph.specs.EventGraph.{all_events}
use Rattle.event_graph.specs.Fits.{GraphFits}
use Rattle.event_graph.specs.Numbered.{IsNumbered}
use Rattle.event_graph.specs.OneListWeave.{comps_after, fired_of, woven}
use Rattle.event_graph.specs.SmallSteps.{AreSmallSteps}
use Rattle.noc_mesh.specs.NetTiming.{net_pieces}
use Rattle.event_graph.specs.Timely.{AreTimely}
use Rattle.stats.specs.Counts.{Interval}
use Rattle.bound_records.specs.CoreRuns.{IsNetOf}
use Rattle.run.specs.declared.weaving.WovenInterval.{WovenInterval}
use Rattle.reference.specs.ReferenceRun.{woven_interval}

-- the events of these accesses, and what the weave asks of them
pub record AreEventsOf (machine : Machine) (comps : List Comp) (entries : List Entry) (graph : List Event) : Type 0 where
  pub are : graph ≡ all_events (net_pieces (path_of machine)) entries
  pub numbered : IsNumbered graph
  pub fits : GraphFits comp_serves comp_latency graph comps
  pub small : AreSmallSteps comp_step comp_greatest graph comps
  pub cores : All (λ e. e.core < machine.cores) graph
  pub few : length graph ≤ 60 * length entries

-- these events have fired from these components on, which moves them on
pub record HaveFired (machine : Machine) (comps : List Comp) (entries : List Entry) (graph : List Event) (fired : List Fired) (after : List Comp) : Type 0 where
  pub components : AreComponents machine comps
  pub events : AreEventsOf machine comps entries graph
  pub fired_are : fired ≡ map fired_of (woven comp_step graph comps)
  pub after_are : after ≡ comps_after comp_step graph comps

-- the interval as it is counted
abbrev pub interval_of : List Entry → WovenInterval → Interval
interval_of entries w = record { entries = entries; events = w.graph; fired = w.fired; delays = w.delays }

-- the weave of these accesses on these components, with what holds of every weave
pub record IsWeaveOf (machine : Machine) (comps : List Comp) (entries : List Entry) (w : WovenInterval) : Type 0 where
  pub is : interval_of entries w ≡ woven_interval machine comps entries
  pub timely : AreTimely w.graph w.fired
  pub delays : length w.delays ≡ machine.cores
  pub delays_small : All (λ d. d ≤ 2 ^ 62) w.delays
  pub there : All (λ e. e.component < component_count machine) w.graph
  pub few : length w.graph ≤ 60 * length entries

-- what holds of the weave of these accesses on these components
pub record IsSoundWeave (machine : Machine) (comps : List Comp) (entries : List Entry) (i : Interval) : Type 0 where
  pub events : AreEventsOf machine comps entries i.events
  pub timely : AreTimely i.events i.fired
  pub delays : length i.delays ≡ machine.cores
  pub delays_small : All (λ d. d ≤ 2 ^ 62) i.delays
  pub there : All (λ e. e.component < component_count machine) i.events
  pub stay : AreComponents machine (comps_after comp_step i.events comps)

-- Accesses of a machine's cores, which start by cycle 2^34 and of which there are few, can be woven on its components
-- where these are free by cycle 2^56.
abbrev pub IntervalsAreWoven : Type 0
IntervalsAreWoven = (machine : Machine) (net : Net) (comps : List Comp) (entries : List Entry) → IsMachine machine → IsNetOf machine net
    → AreComponents machine comps → All (λ c. free_of c ≤ 2 ^ 56) comps
    → All (λ e. e.core < machine.cores) entries → All (λ e. e.start ≤ 2 ^ 34) entries → length entries ≤ 2 ^ 22
    → IsSoundWeave machine comps entries (woven_interval machine comps entries)
