-- The numbers of nodes and of links.
use Rattle.std.proofs.Common.{◌≡◌, ◌∙◌, ◌+◌, ◌-◌, ◌*◌, ◌%◌, ◌<◌, ◌≤◌, ℕ, suc, true, ap, sym, arith}
use Rattle.std.specs.Prelude.{nat_lt}
use Rattle.std.proofs.Math.Nat.{suc-mul, div-add-mod'}
use Rattle.std.proofs.lemmas.Bool.{lt-ltb}
use Rattle.std.proofs.lemmas.Nat.{div-mul-add, mod-mul-add}
use Rattle.machine_desc.specs.declared.machine.Mesh.{Mesh}
use Rattle.noc_mesh.specs.declared.direction.Direction.{Direction}
use Rattle.noc_mesh.specs.declared.direction.Direction.TheVariants.{East, West, North, South}
use Rattle.noc_mesh.specs.RouteFacts.{number_below}
use Rattle.noc_mesh.specs.Routes.{node_at, link_from, x_of, y_of}
use Rattle.noc_mesh.specs.RouteLaws.{begins_at, ends_at, ends_inside}

pub begins : (mesh : Mesh) (x y : ℕ) (direction : Direction) → begins_at (link_from mesh x y direction) ≡ node_at mesh x y
begins mesh x y direction = omega (arith, number_below direction)

pub east_ends : (mesh : Mesh) (x y : ℕ) → ends_at mesh (link_from mesh x y East) ≡ node_at mesh (x + 1) y
east_ends mesh x y =
    let n : begins_at (link_from mesh x y East) ≡ node_at mesh x y = begins mesh x y East in
    let d : link_from mesh x y East % 4 ≡ 0 = omega arith in
    rw d (omega (arith, n))

pub west_ends : (mesh : Mesh) (x y : ℕ) → 1 ≤ x → ends_at mesh (link_from mesh x y West) ≡ node_at mesh (x - 1) y
west_ends mesh x y some =
    let n : begins_at (link_from mesh x y West) ≡ node_at mesh x y = begins mesh x y West in
    let d : link_from mesh x y West % 4 ≡ 1 = omega arith in
    rw d (omega (arith, n))

pub north_ends : (mesh : Mesh) (x y : ℕ) → 1 ≤ y → ends_at mesh (link_from mesh x y North) ≡ node_at mesh x (y - 1)
north_ends mesh x y some =
    let n : begins_at (link_from mesh x y North) ≡ node_at mesh x y = begins mesh x y North in
    let d : link_from mesh x y North % 4 ≡ 2 = omega arith in
    let suc_is : y ≡ suc (y - 1) = omega arith in
    let row : y * mesh.width ≡ (y - 1) * mesh.width + mesh.width = ap (λ n. n * mesh.width) suc_is ∙ suc-mul (y - 1) mesh.width in
    rw d (omega (arith, n, row))

pub south_ends : (mesh : Mesh) (x y : ℕ) → ends_at mesh (link_from mesh x y South) ≡ node_at mesh x (y + 1)
south_ends mesh x y =
    let n : begins_at (link_from mesh x y South) ≡ node_at mesh x y = begins mesh x y South in
    let d : link_from mesh x y South % 4 ≡ 3 = omega arith in
    let suc_is : y + 1 ≡ suc y = omega arith in
    let row : (y + 1) * mesh.width ≡ y * mesh.width + mesh.width = ap (λ n. n * mesh.width) suc_is ∙ suc-mul y mesh.width in
    rw d (omega (arith, n, row))

-- where a node is
pub place_is : (mesh : Mesh) (node : ℕ) → node ≡ node_at mesh (x_of mesh node) (y_of mesh node)
place_is mesh node = sym (div-add-mod' node mesh.width)

-- where a link begins, and that it ends at a node of the mesh
x_there : (mesh : Mesh) (x y : ℕ) (direction : Direction) → x < mesh.width → x_of mesh (begins_at (link_from mesh x y direction)) ≡ x
x_there mesh x y direction narrow = ap (x_of mesh) (begins mesh x y direction) ∙ mod-mul-add y mesh.width x narrow

y_there : (mesh : Mesh) (x y : ℕ) (direction : Direction) → x < mesh.width → y_of mesh (begins_at (link_from mesh x y direction)) ≡ y
y_there mesh x y direction narrow = ap (y_of mesh) (begins mesh x y direction) ∙ div-mul-add y mesh.width x narrow

pub east_inside : (mesh : Mesh) (x y : ℕ) → x + 1 < mesh.width → ends_inside mesh (link_from mesh x y East) ≡ true
east_inside mesh x y narrow =
    let d : link_from mesh x y East % 4 ≡ 0 = omega arith in
    rw d (ap (λ n. nat_lt (n + 1) mesh.width) (x_there mesh x y East (omega arith)) ∙ lt-ltb (x + 1) mesh.width narrow)

pub west_inside : (mesh : Mesh) (x y : ℕ) → x < mesh.width → 0 < x → ends_inside mesh (link_from mesh x y West) ≡ true
west_inside mesh x y narrow some =
    let d : link_from mesh x y West % 4 ≡ 1 = omega arith in
    rw d (ap (λ n. nat_lt 0 n) (x_there mesh x y West narrow) ∙ lt-ltb 0 x some)

pub north_inside : (mesh : Mesh) (x y : ℕ) → x < mesh.width → 0 < y → ends_inside mesh (link_from mesh x y North) ≡ true
north_inside mesh x y narrow some =
    let d : link_from mesh x y North % 4 ≡ 2 = omega arith in
    rw d (ap (λ n. nat_lt 0 n) (y_there mesh x y North narrow) ∙ lt-ltb 0 y some)

pub south_inside : (mesh : Mesh) (x y : ℕ) → x < mesh.width → y + 1 < mesh.height → ends_inside mesh (link_from mesh x y South) ≡ true
south_inside mesh x y narrow low =
    let d : link_from mesh x y South % 4 ≡ 3 = omega arith in
    rw d (ap (λ n. nat_lt (n + 1) mesh.height) (y_there mesh x y South narrow) ∙ lt-ltb (y + 1) mesh.height low)
