use Rattle.std.proofs.Common.{List}
use Rattle.machine_desc.specs.declared.machine.Machine.{Machine}
use Rattle.component.specs.declared.kind.Kind.TheVariants.{Lookup, Remote, Fill, Read, Write, Hop, RowRead}
use Rattle.component.specs.declared.comp.Comp.{Comp}
use Rattle.component.specs.Components.{AreComponents}
use Rattle.component.specs.Serving.{comp_serves, comp_latency}
use Rattle.event_graph.specs.AccessPaths.{path_of}
use Rattle.event_graph.specs.FloorsServed.{AreFloorsOf}
use Rattle.noc_mesh.specs.NetFloors.{net_floor}
use Rattle.noc_mesh.proofs.NetFits.{bank_is_served, hops_served, read_is_served, row_is_served, write_is_served}
use Rattle.noc_mesh.proofs.laws.net_floors_are_of_components.Goals as goal

all_served : (m : Machine) (comps : List Comp) → AreComponents m comps → AreFloorsOf (net_floor (path_of m)) comp_serves comp_latency comps
all_served m comps are number Lookup time floor = (bank_is_served m comps are number time).0 floor
all_served m comps are number Remote time floor = (bank_is_served m comps are number time).1 floor
all_served m comps are number Fill time floor = (bank_is_served m comps are number time).2 floor
all_served m comps are number Read time floor = read_is_served m comps are number time floor
all_served m comps are number Write time floor = write_is_served m comps are number time floor
all_served m comps are number Hop time floor = hops_served m comps are number time floor
all_served m comps are number (RowRead bank row) time floor = row_is_served m comps are number bank row time floor

pub returns : goal.returns
returns c = λ m comps are. all_served m comps are
