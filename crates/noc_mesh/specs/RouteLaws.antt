-- What is true of every route.
use Rattle.std.specs.Prelude.{◌≡◌, ◌+◌, ◌-◌, ◌*◌, ◌/◌, ◌%◌, ◌<◌, ◌==◌, ℕ, nat_lt, Bool, true, if◌then◌else◌, List, [], ◌∷◌, length, All}
use Rattle.machine_desc.specs.declared.machine.Mesh.{Mesh}
use Rattle.machine_desc.specs.Machine.{IsMesh}
use Rattle.machine_desc.specs.Components.{nodes_of}
use Rattle.noc_mesh.specs.Routes.{route, x_of, y_of}

-- the node at which a link begins
abbrev pub begins_at : (link : ℕ) → ℕ
begins_at link = link / 4

-- what there is in a direction, by the direction's number: to the east, to the west, to the north and else to the south
abbrev pub by_direction : {A : Type 0} → (direction : ℕ) → (east west north south : A) → A
by_direction direction east west north south =
    if direction == 0 then east else if direction == 1 then west else if direction == 2 then north else south

-- the node at which it ends
abbrev pub ends_at : Mesh → (link : ℕ) → ℕ
ends_at mesh link = let node = begins_at link in by_direction (link % 4) (node + 1) (node - 1) (node - mesh.width) (node + mesh.width)

-- It ends at a node of the mesh: the links at the mesh's borders that lead out of it are there too, and end nowhere.
abbrev pub ends_inside : Mesh → (link : ℕ) → Bool
ends_inside mesh link =
    let x = x_of mesh (begins_at link) in
    let y = y_of mesh (begins_at link) in
    by_direction (link % 4) (nat_lt (x + 1) mesh.width) (nat_lt 0 x) (nat_lt 0 y) (nat_lt (y + 1) mesh.height)

-- links from a node to another, each of which begins where the one before it ends
abbrev pub IsChain : Mesh → (source target : ℕ) → List ℕ → Type 0
IsChain mesh source target [] = source ≡ target
IsChain mesh source target (link ∷ links) = (begins_at link ≡ source) × IsChain mesh (ends_at mesh link) target links

-- how far apart two numbers, and two nodes, are
abbrev pub apart : (a b : ℕ) → ℕ
apart a b = (a - b) + (b - a)

abbrev pub distance : Mesh → (source target : ℕ) → ℕ
distance mesh source target = apart (x_of mesh source) (x_of mesh target) + apart (y_of mesh source) (y_of mesh target)

-- A route is a chain of links between nodes of the mesh, and as long as its ends are apart.
pub record Leads (mesh : Mesh) (source target : ℕ) : Type 0 where
  pub chain : IsChain mesh source target (route mesh source target)
  pub length_is : length (route mesh source target) ≡ distance mesh source target
  pub there : All (λ link. link < 4 * nodes_of mesh) (route mesh source target)
  pub inside : All (λ link. ends_inside mesh link ≡ true) (route mesh source target)

abbrev pub RoutesLead : Type 0
RoutesLead = (mesh : Mesh) (source target : ℕ) → IsMesh mesh → source < nodes_of mesh → target < nodes_of mesh → Leads mesh source target
