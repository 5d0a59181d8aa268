-- What is true of every machine's graphs, and of the weave on its components.
use Rattle.std.specs.Prelude.{◌≡◌, ◌+◌, ◌*◌, ◌≤◌, ◌^◌, ℕ, List, None, length, sum_by}
use Rattle.std.specs.List.{All}
use Rattle.machine_desc.specs.declared.machine.Machine.{Machine}
use Rattle.machine_desc.specs.Machine.{IsMachine}
use Rattle.zs_num.specs.declared.entry.Entry.{Entry}
use Rattle.component.specs.declared.comp.Comp.{Comp}
use Rattle.component.specs.ComponentStep.{comp_step, free_of}
use Rattle.component.specs.Greatest.{comp_greatest}
use Rattle.component.specs.Serving.{comp_serves, comp_latency}
use Rattle.component.specs.Components.{AreComponents}
use Rattle.event_graph.specs.declared.access_path.AccessPath.{AccessPath}
use Rattle.event_graph.specs.declared.event.Event.{Event}
use Rattle.event_graph.specs.AccessPaths.{path_of}
use Rattle.event_graph.specs.Fits.{GraphFits}
use Rattle.event_graph.specs.Near.{AreNear}
use Rattle.event_graph.specs.Numbered.{IsNumbered}
use Rattle.event_graph.specs.OneListWeave.{comps_after}
use Rattle.event_graph.specs.SmallSteps.{AreSmallSteps}
use Rattle.event_graph.specs.PlainTiming.{pieces_of}
use Rattle.event_graph.specs.Floors.{plain_floor}
use Rattle.event_graph.specs.FloorsServed.{AreFloorsOf}
use Rattle.event_graph.specs.EventGraph.{all_events}

-- the components of a machine without open rows have the floors that it has without a network
abbrev pub PlainFloorsAreOfComponents : Type 0
PlainFloorsAreOfComponents = (m : Machine) (comps : List Comp) → m.dram ≡ None → AreComponents m comps
    → AreFloorsOf (plain_floor m.l2 m.controllers) comp_serves comp_latency comps

-- the components of a machine without open rows serve all events of its accesses, and each with the event's time at
-- zero load as its floor
abbrev pub PlainGraphsFit : Type 0
PlainGraphsFit = (m : Machine) (comps : List Comp) (entries : List Entry) → IsMachine m → m.dram ≡ None → AreComponents m comps
    → GraphFits comp_serves comp_latency (all_events (pieces_of (path_of m)) entries) comps

-- an access has four events at most
abbrev pub PlainAccessesHaveFewEvents : Type 0
PlainAccessesHaveFewEvents = (path : AccessPath) (entries : List Entry)
    → sum_by (λ e. length (pieces_of path e)) entries ≤ 4 * length entries

-- the components of a machine are its components after a weave, too
abbrev pub MachineComponentsStay : Type 0
MachineComponentsStay = (m : Machine) (comps : List Comp) (events : List Event) → AreComponents m comps → AreComponents m (comps_after comp_step events comps)

-- On a machine's components that are free by `base`, no sum of a weave passes 2^62 where 2^17 cycles and the delay for
-- each event still have room above `base`.
abbrev pub MachineStepsStaySmall : Type 0
MachineStepsStaySmall = (m : Machine) (comps : List Comp) (events : List Event) (base delay : ℕ) → IsMachine m → AreComponents m comps → All (λ c. free_of c ≤ base) comps
    → IsNumbered events → GraphFits comp_serves comp_latency events comps → AreNear base delay events → base + length events * (delay + 2 ^ 17) ≤ 2 ^ 62
    → AreSmallSteps comp_step comp_greatest events comps
