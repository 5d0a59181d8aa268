-- The links of a mesh, and the route from a node to another: along x first, and then along y.
use Rattle.std.specs.Prelude.{◌+◌, ◌-◌, ◌*◌, ◌/◌, ◌%◌, ℕ, zero, suc, List, [], ◌∷◌, ◌++◌}
use Rattle.machine_desc.specs.declared.machine.Mesh.{Mesh}
use Rattle.noc_mesh.specs.declared.direction.Direction.{Direction}
use Rattle.noc_mesh.specs.declared.direction.Direction.TheVariants.{East, West, North, South}

-- where a node is
abbrev pub x_of : Mesh → (node : ℕ) → ℕ
x_of mesh node = node % mesh.width

abbrev pub y_of : Mesh → (node : ℕ) → ℕ
y_of mesh node = node / mesh.width

abbrev pub node_at : Mesh → (x y : ℕ) → ℕ
node_at mesh x y = y * mesh.width + x

-- directions have numbers: East is to x + 1, West to x - 1, North to y - 1 and South to y + 1
abbrev pub number_of : Direction → ℕ
number_of East = 0
number_of West = 1
number_of North = 2
number_of South = 3

-- the link that leads from there in a direction
abbrev pub link_from : Mesh → (x y : ℕ) → Direction → ℕ
link_from mesh x y direction = 4 * node_at mesh x y + number_of direction

-- so many links in one direction
abbrev pub eastwards : Mesh → (x y count : ℕ) → List ℕ
eastwards mesh x y zero = []
eastwards mesh x y (suc count) = link_from mesh x y East ∷ eastwards mesh (x + 1) y count

abbrev pub westwards : Mesh → (x y count : ℕ) → List ℕ
westwards mesh x y zero = []
westwards mesh x y (suc count) = link_from mesh x y West ∷ westwards mesh (x - 1) y count

abbrev pub northwards : Mesh → (x y count : ℕ) → List ℕ
northwards mesh x y zero = []
northwards mesh x y (suc count) = link_from mesh x y North ∷ northwards mesh x (y - 1) count

abbrev pub southwards : Mesh → (x y count : ℕ) → List ℕ
southwards mesh x y zero = []
southwards mesh x y (suc count) = link_from mesh x y South ∷ southwards mesh x (y + 1) count

-- along x, and along y, from here to there: one of the two lists is empty
abbrev pub along_x : Mesh → (y from to : ℕ) → List ℕ
along_x mesh y from to = eastwards mesh from y (to - from) ++ westwards mesh from y (from - to)

abbrev pub along_y : Mesh → (x from to : ℕ) → List ℕ
along_y mesh x from to = northwards mesh x from (from - to) ++ southwards mesh x from (to - from)

abbrev pub route : Mesh → (source target : ℕ) → List ℕ
route mesh source target =
    along_x mesh (y_of mesh source) (x_of mesh source) (x_of mesh target) ++ along_y mesh (x_of mesh target) (y_of mesh source) (y_of mesh target)
