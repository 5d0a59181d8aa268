-- That every route is a chain of links from its source to its target.
use Rattle.std.proofs.Common.{◌≡◌, ◌∙◌, ◌+◌, ◌-◌, ◌<◌, ◌≤◌, ◌++◌, ℕ, zero, suc, true, List, [], ◌∷◌, inl, inr, refl, sym, ap, subst, arith}
use Rattle.std.specs.Prelude.{All}
use Rattle.std.proofs.lemmas.Bool.{cases_lt}
use Rattle.std.proofs.lemmas.List.Elements.{All-cons, All-append}
use Rattle.machine_desc.specs.declared.machine.Mesh.{Mesh}
use Rattle.machine_desc.specs.Machine.{IsMesh}
use Rattle.machine_desc.specs.Components.{nodes_of}
use Rattle.noc_mesh.specs.declared.direction.Direction.TheVariants.{East, West, North, South}
use Rattle.noc_mesh.specs.Routes.{x_of, y_of, node_at, link_from, eastwards, westwards, northwards, southwards, along_x, along_y, route}
use Rattle.noc_mesh.specs.RouteLaws.{IsChain, ends_at, ends_inside, Leads}
use Rattle.noc_mesh.specs.RouteFacts.{length_route, route_below, x_below, y_below}
use Rattle.noc_mesh.proofs.Nodes.{begins, east_ends, west_ends, north_ends, south_ends, east_inside, west_inside, north_inside, south_inside, place_is}

chain_append : (mesh : Mesh) (source middle target : ℕ) (xs ys : List ℕ) → IsChain mesh source middle xs → IsChain mesh middle target ys → IsChain mesh source target (xs ++ ys)
chain_append mesh source middle target [] ys first second = subst (λ n. IsChain mesh n target ys) (sym first) second
chain_append mesh source middle target (x ∷ xs) ys first second = (first.0, chain_append mesh (ends_at mesh x) middle target xs ys first.1 second)

-- links in one direction
eastwards_chain : (mesh : Mesh) (x end y count source : ℕ) → x + count ≡ end → source ≡ node_at mesh x y → IsChain mesh source (node_at mesh end y) (eastwards mesh x y count)
eastwards_chain mesh x end y zero source last is = is ∙ ap (λ n. node_at mesh n y) (let same : x ≡ end = omega arith in same)
eastwards_chain mesh x end y (suc count) source last is =
    (begins mesh x y East ∙ sym is, eastwards_chain mesh (x + 1) end y count (ends_at mesh (link_from mesh x y East)) (omega arith) (east_ends mesh x y))

westwards_chain : (mesh : Mesh) (x end y count source : ℕ) → x ≡ end + count → source ≡ node_at mesh x y → IsChain mesh source (node_at mesh end y) (westwards mesh x y count)
westwards_chain mesh x end y zero source last is = is ∙ ap (λ n. node_at mesh n y) (let same : x ≡ end = omega arith in same)
westwards_chain mesh x end y (suc count) source last is = (
  begins mesh x y West ∙ sym is,
  westwards_chain mesh (x - 1) end y count (ends_at mesh (link_from mesh x y West)) (omega arith) (west_ends mesh x y (omega arith)),
)

northwards_chain : (mesh : Mesh) (x y end count source : ℕ) → y ≡ end + count → source ≡ node_at mesh x y → IsChain mesh source (node_at mesh x end) (northwards mesh x y count)
northwards_chain mesh x y end zero source last is = is ∙ ap (node_at mesh x) (let same : y ≡ end = omega arith in same)
northwards_chain mesh x y end (suc count) source last is = (
  begins mesh x y North ∙ sym is,
  northwards_chain mesh x (y - 1) end count (ends_at mesh (link_from mesh x y North)) (omega arith) (north_ends mesh x y (omega arith)),
)

southwards_chain : (mesh : Mesh) (x y end count source : ℕ) → y + count ≡ end → source ≡ node_at mesh x y → IsChain mesh source (node_at mesh x end) (southwards mesh x y count)
southwards_chain mesh x y end zero source last is = is ∙ ap (node_at mesh x) (let same : y ≡ end = omega arith in same)
southwards_chain mesh x y end (suc count) source last is =
    (begins mesh x y South ∙ sym is, southwards_chain mesh x (y + 1) end count (ends_at mesh (link_from mesh x y South)) (omega arith) (south_ends mesh x y))

-- of the two directions along x, and of those along y, one has no links
along_x_chain : (mesh : Mesh) (y from to : ℕ) → IsChain mesh (node_at mesh from y) (node_at mesh to y) (along_x mesh y from to)
along_x_chain mesh y from to =
    elim (cases_lt from to) [
      | inl less ↦
          let back : from - to ≡ 0 = omega arith in
          let east = eastwards_chain mesh from to y (to - from) (node_at mesh from y) (omega arith) refl in
          rw back (chain_append mesh (node_at mesh from y) (node_at mesh to y) (node_at mesh to y) (eastwards mesh from y (to - from)) [] east refl)
      | inr past ↦
          let on : to - from ≡ 0 = omega arith in
          rw on (westwards_chain mesh from to y (from - to) (node_at mesh from y) (omega arith) refl)
    ]

along_y_chain : (mesh : Mesh) (x from to : ℕ) → IsChain mesh (node_at mesh x from) (node_at mesh x to) (along_y mesh x from to)
along_y_chain mesh x from to =
    elim (cases_lt to from) [
      | inl less ↦
          let on : to - from ≡ 0 = omega arith in
          let north = northwards_chain mesh x from to (from - to) (node_at mesh x from) (omega arith) refl in
          rw on (chain_append mesh (node_at mesh x from) (node_at mesh x to) (node_at mesh x to) (northwards mesh x from (from - to)) [] north refl)
      | inr past ↦
          let back : from - to ≡ 0 = omega arith in
          rw back (southwards_chain mesh x from to (to - from) (node_at mesh x from) (omega arith) refl)
    ]

-- each link leads to another node of the mesh
module _ (mesh : Mesh) where
  abbrev EndsInside : ℕ → Type 0
  EndsInside link = ends_inside mesh link ≡ true

  eastwards_inside : (x y count : ℕ) → x + count < mesh.width → All EndsInside (eastwards mesh x y count)
  eastwards_inside x y zero narrow = λ k d within. absurd (omega arith)
  eastwards_inside x y (suc count) narrow =
      All-cons EndsInside (link_from mesh x y East) (eastwards mesh (x + 1) y count) (east_inside mesh x y (omega arith)) (eastwards_inside (x + 1) y count (omega arith))

  westwards_inside : (x y count : ℕ) → x < mesh.width → count ≤ x → All EndsInside (westwards mesh x y count)
  westwards_inside x y zero narrow few = λ k d within. absurd (omega arith)
  westwards_inside x y (suc count) narrow few =
      All-cons EndsInside (link_from mesh x y West) (westwards mesh (x - 1) y count) (west_inside mesh x y narrow (omega arith))
      (westwards_inside (x - 1) y count (omega arith) (omega arith))

  northwards_inside : (x y count : ℕ) → x < mesh.width → count ≤ y → All EndsInside (northwards mesh x y count)
  northwards_inside x y zero narrow few = λ k d within. absurd (omega arith)
  northwards_inside x y (suc count) narrow few =
      All-cons EndsInside (link_from mesh x y North) (northwards mesh x (y - 1) count) (north_inside mesh x y narrow (omega arith))
      (northwards_inside x (y - 1) count narrow (omega arith))

  southwards_inside : (x y count : ℕ) → x < mesh.width → y + count < mesh.height → All EndsInside (southwards mesh x y count)
  southwards_inside x y zero narrow low = λ k d within. absurd (omega arith)
  southwards_inside x y (suc count) narrow low =
      All-cons EndsInside (link_from mesh x y South) (southwards mesh x (y + 1) count) (south_inside mesh x y narrow (omega arith))
      (southwards_inside x (y + 1) count narrow (omega arith))

  along_x_inside : (y from to : ℕ) → from < mesh.width → to < mesh.width → All EndsInside (along_x mesh y from to)
  along_x_inside y from to first last =
      All-append EndsInside (eastwards mesh from y (to - from)) (westwards mesh from y (from - to)) (eastwards_inside from y (to - from) (omega arith))
      (westwards_inside from y (from - to) first (omega arith))

  along_y_inside : (x from to : ℕ) → x < mesh.width → from < mesh.height → to < mesh.height → All EndsInside (along_y mesh x from to)
  along_y_inside x from to narrow first last =
      All-append EndsInside (northwards mesh x from (from - to)) (southwards mesh x from (to - from)) (northwards_inside x from (from - to) narrow (omega arith))
      (southwards_inside x from (to - from) narrow (omega arith))

pub routes_lead : (mesh : Mesh) (source target : ℕ) → IsMesh mesh → source < nodes_of mesh → target < nodes_of mesh → Leads mesh source target
routes_lead mesh source target is source_there target_there =
    let x = x_of mesh source in
    let y = y_of mesh source in
    let to_x = x_of mesh target in
    let to_y = y_of mesh target in
    let corner = node_at mesh to_x y in
    let across = along_x mesh y x to_x in
    let along = along_y mesh to_x y to_y in
    let whole = chain_append mesh (node_at mesh x y) corner (node_at mesh to_x to_y) across along (along_x_chain mesh y x to_x) (along_y_chain mesh to_x y to_y) in
    let from_source = subst (λ n. IsChain mesh n (node_at mesh to_x to_y) (route mesh source target)) (sym (place_is mesh source)) whole in
    let inside =
    All-append (EndsInside mesh) across along (along_x_inside mesh y x to_x (x_below mesh.width source is.width.0) (x_below mesh.width target is.width.0))
    (along_y_inside mesh to_x y to_y (x_below mesh.width target is.width.0) (y_below mesh.width mesh.height source is.width.0 source_there)
    (y_below mesh.width mesh.height target is.width.0 target_there))
    in
    record {
      chain = subst (λ n. IsChain mesh source n (route mesh source target)) (sym (place_is mesh target)) from_source;
      length_is = length_route mesh source target;
      there = route_below mesh is source target source_there target_there;
      inside = inside;
    }
