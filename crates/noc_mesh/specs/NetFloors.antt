-- What the expansion of an access takes components to be, where links join them.
use Rattle.std.specs.Prelude.{◌+◌, ◌*◌, ℕ, Bool, true, false, ◌&&◌, nat_lt, nat_le, if◌then◌else◌, Option, None, Some}
use Rattle.component.specs.declared.kind.Kind.{Kind}
use Rattle.component.specs.declared.kind.Kind.TheVariants.{Lookup, Remote, Fill, Read, Write, Hop, RowRead}
use Rattle.machine_desc.specs.declared.machine.Dram.{Dram}
use Rattle.machine_desc.specs.declared.machine.Mesh.{Mesh}
use Rattle.machine_desc.specs.Components.{nodes_of}
use Rattle.event_graph.specs.declared.access_path.AccessPath.{AccessPath}
use Rattle.event_graph.specs.Floors.{is_bank, is_controller}
use Rattle.event_graph.specs.Timing.{look_up_time}

-- the number of the first link
abbrev pub links_from : AccessPath → ℕ
links_from path = path.l2.banks + path.controllers.count

abbrev pub hop_floor : (first : ℕ) → Option Mesh → (component : ℕ) → Option ℕ
hop_floor first None component = None
hop_floor first (Some mesh) component = (if nat_le first component && nat_lt component (first + 4 * nodes_of mesh) then Some mesh.hop else None)

-- a controller reads lines, or lines of rows
abbrev pub read_floor : (is_there : Bool) → (read : ℕ) → Option Dram → Option ℕ
read_floor is_there read None = (if is_there then Some read else None)
read_floor is_there read (Some dram) = None

abbrev pub row_floor : (is_there : Bool) → Option Dram → (bank : ℕ) → Option ℕ
row_floor is_there None bank = None
row_floor is_there (Some dram) bank = (if is_there && nat_lt bank dram.banks then Some dram.hit else None)

-- the floor with which a component serves a kind, if it is there and serves it
abbrev pub net_floor : AccessPath → (component : ℕ) → Kind → Option ℕ
net_floor path component Lookup = (if is_bank path.l2 component then Some (look_up_time path.l2 false) else None)
net_floor path component Remote = (if is_bank path.l2 component then Some (look_up_time path.l2 true) else None)
net_floor path component Fill = (if is_bank path.l2 component then Some path.l2.fill else None)
net_floor path component Read = read_floor (is_controller path.l2 path.controllers component) path.controllers.read path.dram
net_floor path component Write = (if is_controller path.l2 path.controllers component then Some path.controllers.write else None)
net_floor path component Hop = hop_floor (links_from path) path.mesh component
net_floor path component (RowRead bank row) = row_floor (is_controller path.l2 path.controllers component) path.dram bank
