-- The components of a machine, by their numbers: its banks, then its memory controllers, and then the links of its mesh.
use Rattle.std.specs.Prelude.{◌+◌, ◌*◌, ℕ}
use Rattle.std.specs.Option.{option_map_or}
use Rattle.machine_desc.specs.declared.machine.Mesh.{Mesh}
use Rattle.machine_desc.specs.declared.machine.Machine.{Machine}

-- how many nodes a mesh has
abbrev pub nodes_of : Mesh → ℕ
nodes_of mesh = mesh.width * mesh.height

-- how many links there are: four of each node
abbrev pub links_of : Machine → ℕ
links_of m = option_map_or (λ mesh. 4 * nodes_of mesh) m.mesh 0

-- how many components there are
abbrev pub component_count : Machine → ℕ
component_count m = m.l2.banks + m.controllers.count + links_of m
