-- The link at a place of a route.
use Rattle.std.proofs.Common.{◌≡◌, ◌∙◌, ◌+◌, ◌-◌, ◌<◌, ◌≤◌, ℕ, zero, suc, None, Some, ap, arith}
use Rattle.std.specs.Prelude.{slice_get}
use Rattle.std.proofs.lemmas.Option.{slice_get_past}
use Rattle.machine_desc.specs.declared.machine.Mesh.{Mesh}
use Rattle.noc_mesh.specs.declared.direction.Direction.TheVariants.{East, West, North, South}
use Rattle.noc_mesh.specs.Routes.{x_of, y_of, link_from, eastwards, westwards, northwards, southwards, along_x, along_y, route}
use Rattle.noc_mesh.specs.RouteLaws.{apart}
use Rattle.noc_mesh.specs.RouteFacts.{length_eastwards, length_northwards, length_along_x, length_along_y}
use Rattle.noc_mesh.specs.Lists.{slice_get_left, slice_get_right}

get_eastwards : (mesh : Mesh) (x y count k : ℕ) → k < count → slice_get (eastwards mesh x y count) k ≡ Some (link_from mesh (x + k) y East)
get_eastwards mesh x y zero k within = absurd (omega arith)
get_eastwards mesh x y (suc count) zero within = ap (λ n. Some (link_from mesh n y East)) (let same : x ≡ x + 0 = omega arith in same)
get_eastwards mesh x y (suc count) (suc k) within =
    get_eastwards mesh (x + 1) y count k (omega arith) ∙ ap (λ n. Some (link_from mesh n y East)) (let same : x + 1 + k ≡ x + suc k = omega arith in same)

get_westwards : (mesh : Mesh) (x y count k : ℕ) → k < count → slice_get (westwards mesh x y count) k ≡ Some (link_from mesh (x - k) y West)
get_westwards mesh x y zero k within = absurd (omega arith)
get_westwards mesh x y (suc count) zero within = ap (λ n. Some (link_from mesh n y West)) (let same : x ≡ x - 0 = omega arith in same)
get_westwards mesh x y (suc count) (suc k) within =
    get_westwards mesh (x - 1) y count k (omega arith) ∙ ap (λ n. Some (link_from mesh n y West)) (let same : x - 1 - k ≡ x - suc k = omega arith in same)

get_northwards : (mesh : Mesh) (x y count k : ℕ) → k < count → slice_get (northwards mesh x y count) k ≡ Some (link_from mesh x (y - k) North)
get_northwards mesh x y zero k within = absurd (omega arith)
get_northwards mesh x y (suc count) zero within = ap (λ n. Some (link_from mesh x n North)) (let same : y ≡ y - 0 = omega arith in same)
get_northwards mesh x y (suc count) (suc k) within =
    get_northwards mesh x (y - 1) count k (omega arith) ∙ ap (λ n. Some (link_from mesh x n North)) (let same : y - 1 - k ≡ y - suc k = omega arith in same)

get_southwards : (mesh : Mesh) (x y count k : ℕ) → k < count → slice_get (southwards mesh x y count) k ≡ Some (link_from mesh x (y + k) South)
get_southwards mesh x y zero k within = absurd (omega arith)
get_southwards mesh x y (suc count) zero within = ap (λ n. Some (link_from mesh x n South)) (let same : y ≡ y + 0 = omega arith in same)
get_southwards mesh x y (suc count) (suc k) within =
    get_southwards mesh x (y + 1) count k (omega arith) ∙ ap (λ n. Some (link_from mesh x n South)) (let same : y + 1 + k ≡ y + suc k = omega arith in same)

pub get_east : (mesh : Mesh) (y from to place : ℕ) → place < to - from → slice_get (along_x mesh y from to) place ≡ Some (link_from mesh (from + place) y East)
get_east mesh y from to place within =
    slice_get_left (eastwards mesh from y (to - from)) (westwards mesh from y (from - to)) place (omega (arith, length_eastwards mesh from y (to - from)))
    ∙ get_eastwards mesh from y (to - from) place within

pub get_west : (mesh : Mesh) (y from to place : ℕ) → place < from - to → slice_get (along_x mesh y from to) place ≡ Some (link_from mesh (from - place) y West)
get_west mesh y from to place within =
    slice_get_right (eastwards mesh from y (to - from)) (westwards mesh from y (from - to)) place place (omega (arith, length_eastwards mesh from y (to - from)))
    ∙ get_westwards mesh from y (from - to) place within

pub past_x : (mesh : Mesh) (y from to place : ℕ) → to - from ≤ place → from - to ≤ place → slice_get (along_x mesh y from to) place ≡ None
past_x mesh y from to place east west = slice_get_past (along_x mesh y from to) place (omega (arith, length_along_x mesh y from to))

pub get_north : (mesh : Mesh) (x from to place : ℕ) → place < from - to → slice_get (along_y mesh x from to) place ≡ Some (link_from mesh x (from - place) North)
get_north mesh x from to place within =
    slice_get_left (northwards mesh x from (from - to)) (southwards mesh x from (to - from)) place (omega (arith, length_northwards mesh x from (from - to)))
    ∙ get_northwards mesh x from (from - to) place within

pub get_south : (mesh : Mesh) (x from to place : ℕ) → place < to - from → slice_get (along_y mesh x from to) place ≡ Some (link_from mesh x (from + place) South)
get_south mesh x from to place within =
    slice_get_right (northwards mesh x from (from - to)) (southwards mesh x from (to - from)) place place (omega (arith, length_northwards mesh x from (from - to)))
    ∙ get_southwards mesh x from (to - from) place within

pub past_y : (mesh : Mesh) (x from to place : ℕ) → from - to ≤ place → to - from ≤ place → slice_get (along_y mesh x from to) place ≡ None
past_y mesh x from to place north south = slice_get_past (along_y mesh x from to) place (omega (arith, length_along_y mesh x from to))

-- a route is along x first, and then along y
pub get_across : (mesh : Mesh) (source target place : ℕ) → place < apart (x_of mesh source) (x_of mesh target)
    → slice_get (route mesh source target) place ≡ slice_get (along_x mesh (y_of mesh source) (x_of mesh source) (x_of mesh target)) place
get_across mesh source target place within =
    slice_get_left (along_x mesh (y_of mesh source) (x_of mesh source) (x_of mesh target)) _ place
    (omega (arith, length_along_x mesh (y_of mesh source) (x_of mesh source) (x_of mesh target)))

pub get_along : (mesh : Mesh) (source target place : ℕ) → apart (x_of mesh source) (x_of mesh target) ≤ place
    → slice_get (route mesh source target) place
    ≡ slice_get (along_y mesh (x_of mesh target) (y_of mesh source) (y_of mesh target)) (place - apart (x_of mesh source) (x_of mesh target))
get_along mesh source target place past =
    slice_get_right (along_x mesh (y_of mesh source) (x_of mesh source) (x_of mesh target)) _ place (place - apart (x_of mesh source) (x_of mesh target))
    (omega (arith, length_along_x mesh (y_of mesh source) (x_of mesh source) (x_of mesh target)))
