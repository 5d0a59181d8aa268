-- The events of an access and its time where nothing else runs, in a machine with a mesh or without, and with
-- open rows or without.
use Rattle.std.specs.Prelude.{◌+◌, ◌-◌, ◌/◌, ◌%◌, ℕ, suc, Bool, true, false, if◌then◌else◌, List, [], length, map, Option, None, Some}
use Rattle.component.specs.declared.kind.Kind.TheVariants.{Lookup, Remote, Fill, Read, Write, Hop, RowRead}
use Rattle.machine_desc.specs.declared.machine.Dram.{Dram}
use Rattle.machine_desc.specs.declared.machine.Mesh.{Mesh}
use Rattle.machine_desc.specs.Components.{nodes_of}
use Rattle.zs_num.specs.declared.entry.Entry.{Entry}
use Rattle.zs_num.specs.declared.entry.Outcome.{Outcome}
use Rattle.zs_num.specs.declared.entry.Outcome.TheVariants.{Hit, Upgrade, L2 as FoundInL2, Miss}
use Rattle.zs_num.specs.Request.{line_of}
use Rattle.event_graph.specs.declared.access_path.AccessPath.{AccessPath}
use Rattle.event_graph.specs.declared.piece.Piece.{Piece}
use Rattle.event_graph.specs.AccessPaths.{head_time}
use Rattle.event_graph.specs.Timing.{bank_component, controller_component, look_up_time}
use Rattle.noc_mesh.specs.declared.stage.Stage.{Stage}
use Rattle.noc_mesh.specs.declared.stop.Stop.{Stop}
use Rattle.noc_mesh.specs.declared.stop.Stop.TheVariants.{Core, Bank, Controller}
use Rattle.noc_mesh.specs.Passages.{Passage, begun, goes, meets, passes, writes_beside}
use Rattle.noc_mesh.specs.Routes.{route}

module _ (path : AccessPath) (e : Entry) where
  -- At which node of a mesh a stop is: cores and banks are spread over the nodes from the first on, and controllers from
  -- the last on.
  abbrev pub node_of : Mesh → Stop → ℕ
  node_of mesh Core = e.core % nodes_of mesh
  node_of mesh Bank = bank_component path.l2 e % nodes_of mesh
  node_of mesh Controller = nodes_of mesh - 1 - bank_component path.l2 e % path.controllers.count % nodes_of mesh

  -- the links are the components behind the controllers
  abbrev pub hop_on : Mesh → (link : ℕ) → Stage
  hop_on mesh link = record { component = path.l2.banks + path.controllers.count + link; kind = Hop; time = mesh.hop }

  -- the hops from a stop to another; without a mesh there are none
  abbrev pub hops_in : Option Mesh → (from to : Stop) → List Stage
  hops_in None from to = []
  hops_in (Some mesh) from to = map (hop_on mesh) (route mesh (node_of mesh from) (node_of mesh to))

  abbrev pub hops : (from to : Stop) → List Stage
  hops from to = hops_in path.mesh from to

  abbrev pub looks_up : (others : Bool) → Stage
  looks_up others = record {
    component = bank_component path.l2 e;
    kind = (if others then Remote else Lookup);
    time = look_up_time path.l2 others;
  }

  -- the read of the line: with open rows, of its row in its bank of the memory, which takes as long as where the row is open
  abbrev pub reads_from : Option Dram → Stage
  reads_from None = record { component = controller_component path.l2 path.controllers e; kind = Read; time = path.controllers.read }
  reads_from (Some dram) = let group = line_of e.request / dram.row_lines in record {
    component = controller_component path.l2 path.controllers e;
    kind = RowRead (group % dram.banks) (group / dram.banks);
    time = dram.hit;
  }

  abbrev pub reads : Stage
  reads = reads_from path.dram

  abbrev pub writes : Stage
  writes = record { component = controller_component path.l2 path.controllers e; kind = Write; time = path.controllers.write }

  abbrev pub fills : Stage
  fills = record { component = bank_component path.l2 e; kind = Fill; time = path.l2.fill }

  -- an access from the core to the bank, and behind the look-up there
  abbrev pub reached : Passage
  reached = passes (begun (head_time path e.request)) (hops Core Bank)

  abbrev pub looked_up : (others : Bool) → Passage
  looked_up others = goes reached (looks_up others)

  -- one that the shared cache answers, back at the core
  abbrev pub answered : (others : Bool) → Passage
  answered others = passes (looked_up others) (hops Bank Core)

  -- a miss at the controller, and behind the read there, and the write beside it where a line is written back
  abbrev pub missed : Passage
  missed = passes (looked_up false) (hops Bank Controller)

  abbrev pub read_in : (dirty : Bool) → Passage
  read_in false = goes missed reads
  read_in true = writes_beside missed (goes missed reads) writes

  -- back at the bank, which takes in the line when it has been read, and the other one written
  abbrev pub brought : (dirty : Bool) → Passage
  brought dirty = passes (read_in dirty) (hops Controller Bank)

  abbrev pub filled : (dirty : Bool) → Passage
  filled false = goes (brought false) fills
  filled true = meets (brought true) (suc (length missed.pieces)) (missed.end + path.controllers.write) fills

  abbrev pub passage : Outcome → Passage
  passage Hit = begun (head_time path e.request)
  passage (Upgrade others) = answered others
  passage (FoundInL2 others) = answered others
  passage (Miss dirty) = passes (filled dirty) (hops Bank Core)

-- the events of an access, and its time
abbrev pub net_pieces : AccessPath → Entry → List Piece
net_pieces path e = (passage path e e.outcome).pieces

abbrev pub net_time : AccessPath → Entry → ℕ
net_time path e = (passage path e e.outcome).end
