-- What is true of the events of accesses in every machine.
use Rattle.std.specs.Prelude.{◌≡◌, ◌*◌, ◌<◌, ◌≤◌, List, None, length, sum_by}
use Rattle.machine_desc.specs.declared.machine.Machine.{Machine}
use Rattle.machine_desc.specs.Machine.{IsMachine}
use Rattle.zs_num.specs.declared.entry.Entry.{Entry}
use Rattle.zs_num.specs.declared.entry.Outcome.TheVariants.{Hit}
use Rattle.zs_num.specs.Request.{is_fetch, line_of}
use Rattle.component.specs.declared.comp.Comp.{Comp}
use Rattle.component.specs.Serving.{comp_serves, comp_latency}
use Rattle.component.specs.Components.{AreComponents}
use Rattle.event_graph.specs.declared.access_path.AccessPath.{AccessPath}
use Rattle.event_graph.specs.AccessPaths.{path_of}
use Rattle.event_graph.specs.EventGraph.{all_events}
use Rattle.event_graph.specs.Fits.{GraphFits}
use Rattle.event_graph.specs.FloorsServed.{AreFloorsOf}
use Rattle.event_graph.specs.InARow.{AreInARow}
use Rattle.event_graph.specs.PathInRange.{IsAccessPath}
use Rattle.event_graph.specs.PlainTiming.{access_time, pieces_of}
use Rattle.noc_mesh.specs.NetFloors.{net_floor}
use Rattle.noc_mesh.specs.NetTiming.{net_pieces, net_time}

-- the components of a machine have the floors that its accesses take them to have
abbrev pub NetFloorsAreOfComponents : Type 0
NetFloorsAreOfComponents = (m : Machine) (comps : List Comp) → AreComponents m comps → AreFloorsOf (net_floor (path_of m)) comp_serves comp_latency comps

-- so they serve all events of its accesses, and each with the event's time at zero load as its floor
abbrev pub NetGraphsFit : Type 0
NetGraphsFit = (m : Machine) (comps : List Comp) (entries : List Entry) → IsMachine m → AreComponents m comps
    → GraphFits comp_serves comp_latency (all_events (net_pieces (path_of m)) entries) comps

-- an access has 60 events at most: four ways of 14 hops each, and four more
abbrev pub NetAccessesHaveFewEvents : Type 0
NetAccessesHaveFewEvents = (path : AccessPath) (entries : List Entry) → IsAccessPath path → sum_by (λ e. length (net_pieces path e)) entries ≤ 60 * length entries

-- They stand in the order in which they can start. (On a mesh the first hop behind a read waits for the read, and not for the
-- write that stands between them and begins with it.)
abbrev pub NetEventsAreInARow : Type 0
NetEventsAreInARow = (path : AccessPath) (e : Entry) → AreInARow (net_pieces path e)

-- there is one at least, unless the core's own cache answers
abbrev pub NetAccessesBeyondHitsHaveEvents : Type 0
NetAccessesBeyondHitsHaveEvents = (path : AccessPath) (e : Entry) → (e.outcome ≡ Hit → ⊥) → 0 < length (net_pieces path e)

-- without a mesh and without open rows the events and the times are those of banks and controllers that are joined without a network
abbrev pub NetsWithoutAMeshArePlain : Type 0
NetsWithoutAMeshArePlain = (path : AccessPath) (e : Entry) → path.mesh ≡ None → path.dram ≡ None
    → (net_pieces path e ≡ pieces_of path e) × (net_time path e ≡ access_time path e)

-- Its core, its line, its outcome and whether it is a fetch decide the events of an access and its time: not its start,
-- and not its reply.
abbrev pub EventsAreOfLinesAndOutcomes : Type 0
EventsAreOfLinesAndOutcomes = (path : AccessPath) (e other : Entry) → e.core ≡ other.core → line_of e.request ≡ line_of other.request
    → is_fetch e.request ≡ is_fetch other.request → e.outcome ≡ other.outcome
    → (net_pieces path e ≡ net_pieces path other) × (net_time path e ≡ net_time path other)
