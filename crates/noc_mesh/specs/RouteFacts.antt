-- How long routes are, and that their links are there.
use Rattle.std.specs.Prelude.{◌≡◌, ◌+◌, ◌-◌, ◌*◌, ◌/◌, ◌%◌, ◌<◌, ◌≤◌, ℕ, zero, suc, length, All, refl}
use Rattle.std.proofs.Common.{◌∙◌, ap, ap₂, arith}
use Rattle.std.proofs.Math.Nat.{suc-mul, mul_comm, mul-le-mul_right}
use Rattle.std.proofs.lemmas.Nat.{div_below, mod_below, mul-le}
use Rattle.std.proofs.lemmas.List.{length-append}
use Rattle.std.proofs.lemmas.List.Elements.{All-cons, All-append}
use Rattle.machine_desc.specs.declared.machine.Mesh.{Mesh}
use Rattle.machine_desc.specs.Machine.{IsMesh}
use Rattle.machine_desc.specs.Components.{nodes_of}
use Rattle.noc_mesh.specs.declared.direction.Direction.{Direction}
use Rattle.noc_mesh.specs.declared.direction.Direction.TheVariants.{East, West, North, South}
use Rattle.noc_mesh.specs.Routes.{x_of, y_of, number_of, link_from, eastwards, westwards, northwards, southwards, along_x, along_y, route}
use Rattle.noc_mesh.specs.RouteLaws.{apart, distance}

-- a node that is there has a number below that of all nodes
pub node_below : (width height x y : ℕ) → x < width → y < height → y * width + x < width * height
node_below width height x y narrow low =
    let rows : suc y * width ≤ height * width = mul-le-mul_right width low in
    omega (arith, suc-mul y width, mul_comm height width)

pub number_below : (direction : Direction) → number_of direction < 4
number_below East = omega arith
number_below West = omega arith
number_below North = omega arith
number_below South = omega arith

pub link_below : (width height x y : ℕ) (direction : Direction) → x < width → y < height → 4 * (y * width + x) + number_of direction < 4 * (width * height)
link_below width height x y direction narrow low = omega (arith, node_below width height x y narrow low, number_below direction)

pub x_below : (width node : ℕ) → 1 ≤ width → node % width < width
x_below width node some = mod_below node width some

pub y_below : (width height node : ℕ) → 1 ≤ width → node < width * height → node / width < height
y_below width height node some there = div_below node width height some (omega (arith, mul_comm width height))

-- a mesh has at most 64 nodes
pub few_nodes : (width height : ℕ) → width ≤ 8 → height ≤ 8 → width * height ≤ 64
few_nodes width height narrow low = mul-le width height 8 8 narrow low

-- how many links there are
pub length_eastwards : (mesh : Mesh) (x y count : ℕ) → length (eastwards mesh x y count) ≡ count
length_eastwards mesh x y zero = refl
length_eastwards mesh x y (suc count) = ap suc (length_eastwards mesh (x + 1) y count)

pub length_westwards : (mesh : Mesh) (x y count : ℕ) → length (westwards mesh x y count) ≡ count
length_westwards mesh x y zero = refl
length_westwards mesh x y (suc count) = ap suc (length_westwards mesh (x - 1) y count)

pub length_northwards : (mesh : Mesh) (x y count : ℕ) → length (northwards mesh x y count) ≡ count
length_northwards mesh x y zero = refl
length_northwards mesh x y (suc count) = ap suc (length_northwards mesh x (y - 1) count)

pub length_southwards : (mesh : Mesh) (x y count : ℕ) → length (southwards mesh x y count) ≡ count
length_southwards mesh x y zero = refl
length_southwards mesh x y (suc count) = ap suc (length_southwards mesh x (y + 1) count)

pub length_along_x : (mesh : Mesh) (y from to : ℕ) → length (along_x mesh y from to) ≡ apart from to
length_along_x mesh y from to =
    let east = eastwards mesh from y (to - from) in
    let west = westwards mesh from y (from - to) in
    omega (arith, length-append east west, length_eastwards mesh from y (to - from), length_westwards mesh from y (from - to))

pub length_along_y : (mesh : Mesh) (x from to : ℕ) → length (along_y mesh x from to) ≡ apart from to
length_along_y mesh x from to =
    let north = northwards mesh x from (from - to) in
    let south = southwards mesh x from (to - from) in
    omega (arith, length-append north south, length_northwards mesh x from (from - to), length_southwards mesh x from (to - from))

pub length_route : (mesh : Mesh) (source target : ℕ) → length (route mesh source target) ≡ distance mesh source target
length_route mesh source target =
    let x = x_of mesh source in
    let y = y_of mesh source in
    let to_x = x_of mesh target in
    let to_y = y_of mesh target in
    length-append (along_x mesh y x to_x) (along_y mesh to_x y to_y) ∙ ap₂ (λ (m n : ℕ). m + n) (length_along_x mesh y x to_x) (length_along_y mesh to_x y to_y)

-- each link of a route begins at a node of the mesh
module _ (mesh : Mesh) where
  abbrev IsLink : ℕ → Type 0
  IsLink link = link < 4 * nodes_of mesh

  eastwards_below : (x y count : ℕ) → x + count < mesh.width → y < mesh.height → All IsLink (eastwards mesh x y count)
  eastwards_below x y zero narrow low = λ k d within. absurd (omega arith)
  eastwards_below x y (suc count) narrow low =
      All-cons IsLink (link_from mesh x y East) (eastwards mesh (x + 1) y count) (link_below mesh.width mesh.height x y East (omega arith) low)
      (eastwards_below (x + 1) y count (omega arith) low)

  westwards_below : (x y count : ℕ) → x < mesh.width → count ≤ x → y < mesh.height → All IsLink (westwards mesh x y count)
  westwards_below x y zero narrow few low = λ k d within. absurd (omega arith)
  westwards_below x y (suc count) narrow few low =
      All-cons IsLink (link_from mesh x y West) (westwards mesh (x - 1) y count) (link_below mesh.width mesh.height x y West narrow low)
      (westwards_below (x - 1) y count (omega arith) (omega arith) low)

  northwards_below : (x y count : ℕ) → x < mesh.width → y < mesh.height → count ≤ y → All IsLink (northwards mesh x y count)
  northwards_below x y zero narrow low few = λ k d within. absurd (omega arith)
  northwards_below x y (suc count) narrow low few =
      All-cons IsLink (link_from mesh x y North) (northwards mesh x (y - 1) count) (link_below mesh.width mesh.height x y North narrow low)
      (northwards_below x (y - 1) count narrow (omega arith) (omega arith))

  southwards_below : (x y count : ℕ) → x < mesh.width → y + count < mesh.height → All IsLink (southwards mesh x y count)
  southwards_below x y zero narrow low = λ k d within. absurd (omega arith)
  southwards_below x y (suc count) narrow low =
      All-cons IsLink (link_from mesh x y South) (southwards mesh x (y + 1) count) (link_below mesh.width mesh.height x y South narrow (omega arith))
      (southwards_below x (y + 1) count narrow (omega arith))

  along_x_below : (y from to : ℕ) → from < mesh.width → to < mesh.width → y < mesh.height → All IsLink (along_x mesh y from to)
  along_x_below y from to first last low =
      All-append IsLink (eastwards mesh from y (to - from)) (westwards mesh from y (from - to)) (eastwards_below from y (to - from) (omega arith) low)
      (westwards_below from y (from - to) first (omega arith) low)

  along_y_below : (x from to : ℕ) → x < mesh.width → from < mesh.height → to < mesh.height → All IsLink (along_y mesh x from to)
  along_y_below x from to narrow first last =
      All-append IsLink (northwards mesh x from (from - to)) (southwards mesh x from (to - from)) (northwards_below x from (from - to) narrow first (omega arith))
      (southwards_below x from (to - from) narrow (omega arith))

  pub route_below : IsMesh mesh → (source target : ℕ) → source < nodes_of mesh → target < nodes_of mesh → All (λ link. link < 4 * nodes_of mesh) (route mesh source target)
  route_below is source target source_there target_there =
      let x = x_below mesh.width source is.width.0 in
      let y = y_below mesh.width mesh.height source is.width.0 source_there in
      let to_x = x_below mesh.width target is.width.0 in
      let to_y = y_below mesh.width mesh.height target is.width.0 target_there in
      All-append IsLink (along_x mesh (y_of mesh source) (x_of mesh source) (x_of mesh target)) (along_y mesh (x_of mesh target) (y_of mesh source) (y_of mesh target))
      (along_x_below (y_of mesh source) (x_of mesh source) (x_of mesh target) x to_x y) (along_y_below (x_of mesh target) (y_of mesh source) (y_of mesh target) to_x y to_y)

  -- no two nodes are further apart than 14 links
  pub route_short : IsMesh mesh → (source target : ℕ) → source < nodes_of mesh → target < nodes_of mesh → length (route mesh source target) ≤ 14
  route_short is source target source_there target_there =
      omega (
        arith,
        length_route mesh source target,
        x_below mesh.width source is.width.0,
        y_below mesh.width mesh.height source is.width.0 source_there,
        x_below mesh.width target is.width.0,
        y_below mesh.width mesh.height target is.width.0 target_there,
        is.width.1,
        is.height.1,
      )

-- a mesh has a node at least
pub some_nodes : (width height : ℕ) → 1 ≤ width → 1 ≤ height → 1 ≤ width * height
some_nodes width height wide high = mul-le 1 1 width height wide high

-- how long so many hops take
pub hops_small : (count time : ℕ) → count ≤ 14 → time ≤ 256 → count * time ≤ 3584
hops_small count time few quick = mul-le count time 14 256 few quick
