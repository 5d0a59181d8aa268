-- The links between two stops of an access.
use Rattle.std.specs.Prelude.{◌≡◌, ◌<◌, ◌*◌, ℕ, length, Option, None, Some, slice_get}
use Rattle.std.specs.Option.{option_map}
use Rattle.std.proofs.Common.{◌∙◌, ap, inl, inr, subst, arith}
use Rattle.std.proofs.lemmas.List.{length-map}
use Rattle.std.proofs.lemmas.Option.{slice_get-map, slice_get_cases, slice_get_within, get_or_from_slice_get}
use Rattle.machine_desc.specs.declared.machine.Mesh.{Mesh}
use Rattle.machine_desc.specs.Components.{nodes_of}
use Rattle.machine_desc.specs.Machine.{IsMesh}
use Rattle.zs_num.specs.declared.entry.Entry.{Entry}
use Rattle.event_graph.specs.declared.access_path.AccessPath.{AccessPath}
use Rattle.event_graph.specs.PathInRange.{IsAccessPath}
use Rattle.noc_mesh.specs.declared.stop.Stop.{Stop}
use Rattle.noc_mesh.specs.NetLaws.{node_there}
use Rattle.noc_mesh.specs.NetTiming.{hop_on, hops_in, hops, node_of}
use Rattle.noc_mesh.specs.RouteFacts.{few_nodes, route_below}
use Rattle.noc_mesh.specs.Routes.{route}

module _ (path : AccessPath) (ok : IsAccessPath path) (e : Entry) (mesh : Mesh) (in_range : IsMesh mesh) (from to : Stop) where
  -- there are 256 links at most
  pub link_below : (place link : ℕ) → slice_get (route mesh (node_of path e mesh from) (node_of path e mesh to)) place ≡ Some link → link < 256
  link_below place link at' =
      let links = route mesh (node_of path e mesh from) (node_of path e mesh to) in
      let all = route_below mesh in_range (node_of path e mesh from) (node_of path e mesh to) (node_there path ok e mesh in_range from) (node_there path ok e mesh in_range to) in
      let here : link < 4 * nodes_of mesh =
      subst (λ (n : ℕ). n < 4 * nodes_of mesh) (get_or_from_slice_get links place link 0 at') (all place 0 (slice_get_within links place link at'))
      in
      omega (arith, here, few_nodes mesh.width mesh.height in_range.width.1 in_range.height.1)

  pub link_there : (place : ℕ) → path.mesh ≡ Some mesh → place < length (hops path e from to) → slice_get (route mesh (node_of path e mesh from) (node_of path e mesh to)) place ≡ None → ⊥
  link_there place is within none =
      let links = route mesh (node_of path e mesh from) (node_of path e mesh to) in
      let long : length (hops path e from to) ≡ length links = ap (λ (o : Option Mesh). length (hops_in path e o from to)) is ∙ length-map links (hop_on path e mesh) in
      elim (slice_get_cases links place).1 [
        | inl found ↦ cc (none, found.2)
        | inr past ↦ absurd (omega (arith, long))
      ]

  pub hop_there : (place link : ℕ) → path.mesh ≡ Some mesh → slice_get (route mesh (node_of path e mesh from) (node_of path e mesh to)) place ≡ Some link
      → slice_get (hops path e from to) place ≡ Some (hop_on path e mesh link)
  hop_there place link is at' =
      let links = route mesh (node_of path e mesh from) (node_of path e mesh to) in
      ap (λ (o : Option Mesh). slice_get (hops_in path e o from to) place) is ∙ (slice_get-map (hop_on path e mesh) links place ∙ ap (option_map (hop_on path e mesh)) at')
