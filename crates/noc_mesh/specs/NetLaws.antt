-- That the events of an access, and its time, are as every expansion has them, in a machine with a mesh or without.
use Rattle.std.specs.Prelude.{◌≡◌, ◌+◌, ◌*◌, ◌^◌, ◌/◌, ◌%◌, ◌<◌, ◌≤◌, ℕ, suc, max, Bool, true, false, if◌then◌else◌, List, [], ◌∷◌, ◌++◌, length, map, Option, None, Some, IfSome, All, slice_get, refl}
use Rattle.std.proofs.Common.{◌∙◌, sym, ap, arith}
use Rattle.std.proofs.Math.Nat.{suc-mul}
use Rattle.std.proofs.lemmas.Bool.{lt-ltb, le-leb, and_from}
use Rattle.std.proofs.lemmas.Nat.{mod_below}
use Rattle.std.proofs.lemmas.List.{length-map, length_push}
use Rattle.component.specs.declared.kind.Kind.TheVariants.{Read, Write, Fill, Hop}
use Rattle.machine_desc.specs.declared.machine.Dram.{Dram}
use Rattle.machine_desc.specs.declared.machine.Mesh.{Mesh}
use Rattle.machine_desc.specs.Components.{nodes_of}
use Rattle.machine_desc.specs.Machine.{IsDram, IsMesh}
use Rattle.zs_num.specs.declared.entry.Entry.{Entry}
use Rattle.zs_num.specs.declared.entry.Outcome.{Outcome}
use Rattle.zs_num.specs.declared.entry.Outcome.TheVariants.{Hit, Upgrade, L2 as FoundInL2, Miss}
use Rattle.zs_num.specs.Request.{line_of}
use Rattle.event_graph.specs.declared.access_path.AccessPath.{AccessPath}
use Rattle.event_graph.specs.declared.piece.Piece.{Piece}
use Rattle.event_graph.specs.AccessPaths.{head_time}
use Rattle.event_graph.specs.PathInRange.{IsAccessPath}
use Rattle.event_graph.specs.Expansion.{ParentsComeBefore, OnlyFirstStartsAlone, ParentsFinishBefore, EndsAt, HaveFloors}
use Rattle.event_graph.specs.Timing.{bank_component, controller_component, look_up_time}
use Rattle.event_graph.specs.PlainLaws.{head_in_range}
use Rattle.event_graph.specs.Floors.{is_bank, is_controller}
use Rattle.noc_mesh.specs.declared.stop.Stop.{Stop}
use Rattle.noc_mesh.specs.declared.stop.Stop.TheVariants.{Core, Bank, Controller}
use Rattle.noc_mesh.specs.NetFloors.{hop_floor, links_from, net_floor, read_floor, row_floor}
use Rattle.noc_mesh.specs.NetTiming.{node_of, hop_on, hops_in, hops, looks_up, reads, reads_from, writes, fills, reached, looked_up, answered, missed, read_in, brought, filled, passage, net_pieces, net_time}
use Rattle.noc_mesh.specs.Passages.{Passage, piece_of, begun, goes, passes}
use Rattle.noc_mesh.specs.PassageLaws.{AreServed, at_push, EndsWithLast, IsUnderWay, begun_ends, begun_under_way, beside_keeps, come_before, ends_at, finish_before, goes_ends, goes_keeps, have_floors, meets_ends, meets_keeps, passes_ends, passes_keeps, passes_later, passes_length, passes_stays, start_alone}
use Rattle.noc_mesh.specs.RouteFacts.{hops_small, route_below, route_short, some_nodes}
use Rattle.noc_mesh.specs.Routes.{route}

-- a test that holds decides
if_holds : (b : Bool) (x : ℕ) → b ≡ true → (if b then Some x else None) ≡ Some x
if_holds b x holds = rw holds refl

-- an access has so many events at most, and can go on by then
pub record IsNear (events time : ℕ) (p : Passage) : Type 0 where
  pub few : length p.pieces ≤ events
  pub soon : p.end ≤ time

-- when an access has passed some links
pub links_end : (path : AccessPath) (e : Entry) (mesh : Mesh) (p : Passage) (links : List ℕ) → (passes p (map (hop_on path e mesh) links)).end ≡ p.end + length links * mesh.hop
links_end path e mesh p [] = omega arith
links_end path e mesh p (link ∷ links) = omega (arith, links_end path e mesh (goes p (hop_on path e mesh link)) links, suc-mul (length links) mesh.hop)

module _ (path : AccessPath) (ok : IsAccessPath path) (e : Entry) where
  -- each stop is at a node of the mesh
  pub node_there : (mesh : Mesh) → IsMesh mesh → (stop : Stop) → node_of path e mesh stop < nodes_of mesh
  node_there mesh is Core = mod_below e.core (nodes_of mesh) (some_nodes mesh.width mesh.height is.width.0 is.height.0)
  node_there mesh is Bank = mod_below (bank_component path.l2 e) (nodes_of mesh) (some_nodes mesh.width mesh.height is.width.0 is.height.0)
  node_there mesh is Controller = (let some : 1 ≤ nodes_of mesh = some_nodes mesh.width mesh.height is.width.0 is.height.0 in omega (arith, some))

  -- the components of stages are there, and serve them so
  served_link : (mesh : Mesh) (link : ℕ) → path.mesh ≡ Some mesh → link < 4 * nodes_of mesh → net_floor path (hop_on path e mesh link).component Hop ≡ Some mesh.hop
  served_link mesh link is below =
      ap (λ (o : Option Mesh). hop_floor (links_from path) o (hop_on path e mesh link).component) is
      ∙ if_holds _ mesh.hop (and_from _ _ (le-leb (links_from path) (links_from path + link) (omega arith)) (lt-ltb (links_from path + link) (links_from path + 4 * nodes_of mesh) (omega arith)))

  served_links : (mesh : Mesh) (links : List ℕ) → path.mesh ≡ Some mesh → All (λ link. link < 4 * nodes_of mesh) links → AreServed (net_floor path) (map (hop_on path e mesh) links)
  served_links mesh [] is all = tt
  served_links mesh (link ∷ links) is all =
      (served_link mesh link is (all 0 link (omega arith)), served_links mesh links is (λ k d within. all (suc k) d (omega arith)))

  served_in : (mesh : Option Mesh) → path.mesh ≡ mesh → IfSome mesh IsMesh → (from to : Stop) → AreServed (net_floor path) (hops_in path e mesh from to)
  served_in None is in_range from to = tt
  served_in (Some mesh) is in_range from to =
      served_links mesh (route mesh (node_of path e mesh from) (node_of path e mesh to)) is
      (route_below mesh in_range (node_of path e mesh from) (node_of path e mesh to) (node_there mesh in_range from) (node_there mesh in_range to))

  hops_served : (from to : Stop) → AreServed (net_floor path) (hops path e from to)
  hops_served from to = served_in path.mesh refl ok.mesh from to

  a_bank : is_bank path.l2 (bank_component path.l2 e) ≡ true
  a_bank = lt-ltb _ _ (mod_below _ path.l2.banks ok.l2.banks.0)

  a_controller : is_controller path.l2 path.controllers (controller_component path.l2 path.controllers e) ≡ true
  a_controller =
      let number : bank_component path.l2 e % path.controllers.count < path.controllers.count = mod_below _ path.controllers.count ok.controllers.count.0 in
      let component : ℕ = controller_component path.l2 path.controllers e in
      let from : path.l2.banks ≤ component = omega arith in
      let below : component < path.l2.banks + path.controllers.count = omega (arith, number) in
      and_from _ _ (le-leb path.l2.banks component from) (lt-ltb component (path.l2.banks + path.controllers.count) below)

  look_served : (others : Bool) → net_floor path (looks_up path e others).component (looks_up path e others).kind ≡ Some (looks_up path e others).time
  look_served true = if_holds _ (look_up_time path.l2 true) a_bank
  look_served false = if_holds _ (look_up_time path.l2 false) a_bank

  read_in_served : (dram : Option Dram) → path.dram ≡ dram → IfSome dram IsDram
      → net_floor path (reads_from path e dram).component (reads_from path e dram).kind ≡ Some (reads_from path e dram).time
  read_in_served None is in_range =
      ap (read_floor (is_controller path.l2 path.controllers (controller_component path.l2 path.controllers e)) path.controllers.read) is
      ∙ if_holds _ path.controllers.read a_controller
  read_in_served (Some dram) is in_range =
      let group : ℕ = line_of e.request / dram.row_lines in
      let bank : ℕ = group % dram.banks in
      let below : bank < dram.banks = mod_below group dram.banks in_range.banks.0 in
      ap (λ (o : Option Dram). row_floor (is_controller path.l2 path.controllers (controller_component path.l2 path.controllers e)) o bank) is
      ∙ if_holds _ dram.hit (and_from _ _ a_controller (lt-ltb bank dram.banks below))

  read_served : net_floor path (reads path e).component (reads path e).kind ≡ Some (reads path e).time
  read_served = read_in_served path.dram refl ok.dram

  read_small_in : (dram : Option Dram) → IfSome dram IsDram → (reads_from path e dram).time ≤ 65536
  read_small_in None in_range = ok.controllers.read.1
  read_small_in (Some dram) in_range = omega (arith, in_range.closed.0, in_range.closed.1)

  read_small : (reads path e).time ≤ 65536
  read_small = read_small_in path.dram ok.dram

  write_served : net_floor path (writes path e).component Write ≡ Some path.controllers.write
  write_served = if_holds _ path.controllers.write a_controller

  fill_served : net_floor path (fills path e).component Fill ≡ Some path.l2.fill
  fill_served = if_holds _ path.l2.fill a_bank

  -- the access is under way at each stop
  abbrev UnderWay : (late : ℕ) → Passage → Type 0
  UnderWay late p = IsUnderWay (net_floor path) late p

  reached_way : UnderWay 0 (reached path e)
  reached_way =
      passes_keeps (net_floor path) 0 (begun (head_time path e.request)) (hops path e Core Bank) (begun_under_way (net_floor path) (head_time path e.request))
      (hops_served Core Bank)

  looked_way : (others : Bool) → UnderWay 0 (looked_up path e others)
  looked_way others = goes_keeps (net_floor path) 0 (reached path e) (looks_up path e others) reached_way (look_served others)

  answered_way : (others : Bool) → UnderWay 0 (answered path e others)
  answered_way others = passes_keeps (net_floor path) 0 (looked_up path e others) (hops path e Bank Core) (looked_way others) (hops_served Bank Core)

  missed_way : UnderWay 0 (missed path e)
  missed_way = passes_keeps (net_floor path) 0 (looked_up path e false) (hops path e Bank Controller) (looked_way false) (hops_served Bank Controller)

  pub some_missed : 0 < length (missed path e).pieces
  some_missed =
      omega (
        arith,
        passes_length (looked_up path e false) (hops path e Bank Controller),
        length_push (reached path e).pieces (piece_of (looks_up path e false) (reached path e).end (reached path e).last None),
      )

  -- by when a write beside the read has ended
  abbrev late : (dirty : Bool) → ℕ
  late false = 0
  late true = (missed path e).end + path.controllers.write

  read_way : (dirty : Bool) → UnderWay (late dirty) (read_in path e dirty)
  read_way false = goes_keeps (net_floor path) 0 (missed path e) (reads path e) missed_way read_served
  read_way true = beside_keeps (net_floor path) (missed path e) (reads path e) (writes path e) missed_way some_missed read_served write_served

  brought_way : (dirty : Bool) → UnderWay (late dirty) (brought path e dirty)
  brought_way dirty = passes_keeps (net_floor path) (late dirty) (read_in path e dirty) (hops path e Controller Bank) (read_way dirty) (hops_served Controller Bank)

  abbrev read_piece : Piece
  read_piece = piece_of (reads path e) (missed path e).end (missed path e).last None

  abbrev write_piece : Piece
  write_piece = piece_of (writes path e) (missed path e).end (missed path e).last None

  pub read_length : length (read_in path e true).pieces ≡ length (missed path e).pieces + 2
  read_length = omega (arith, length_push (missed path e).pieces read_piece, length_push ((missed path e).pieces ++ read_piece ∷ []) write_piece)

  -- the place of the write
  write_at : (q : Piece) → slice_get (brought path e true).pieces (suc (length (missed path e).pieces)) ≡ Some q → q.offset + q.time ≤ late true
  write_at q at' =
      let place = suc (length (missed path e).pieces) in
      let before = (missed path e).pieces ++ read_piece ∷ [] in
      let stays = passes_stays (read_in path e true) (hops path e Controller Bank) place (omega (arith, read_length)) in
      let here = at_push before write_piece place (omega (arith, length_push (missed path e).pieces read_piece)) in
      let same : Some write_piece ≡ Some q = sym here ∙ (sym stays ∙ at') in
      let is : write_piece ≡ q = cc same in
      let time : q.offset + q.time ≡ late true = ap (λ (z : Piece). z.offset + z.time) (sym is) in
      omega (arith, time)

  filled_way : (dirty : Bool) → UnderWay 0 (filled path e dirty)
  filled_way false = goes_keeps (net_floor path) 0 (brought path e false) (fills path e) (brought_way false) fill_served
  filled_way true =
      let there : suc (length (missed path e).pieces) < length (brought path e true).pieces =
      omega (arith, passes_length (read_in path e true) (hops path e Controller Bank), read_length)
      in
      meets_keeps (net_floor path) (brought path e true) (suc (length (missed path e).pieces)) (late true) (fills path e) (brought_way true) there write_at fill_served

  passage_way : (o : Outcome) → UnderWay 0 (passage path e o)
  passage_way Hit = begun_under_way (net_floor path) (head_time path e.request)
  passage_way (Upgrade others) = answered_way others
  passage_way (FoundInL2 others) = answered_way others
  passage_way (Miss dirty) = passes_keeps (net_floor path) 0 (filled path e dirty) (hops path e Bank Core) (filled_way dirty) (hops_served Bank Core)

  filled_ends : (dirty : Bool) → EndsWithLast (filled path e dirty)
  filled_ends false = goes_ends (brought path e false) (fills path e)
  filled_ends true = meets_ends (brought path e true) (suc (length (missed path e).pieces)) (late true) (fills path e)

  passage_ends : (o : Outcome) → EndsWithLast (passage path e o)
  passage_ends Hit = begun_ends (head_time path e.request)
  passage_ends (Upgrade others) = passes_ends (looked_up path e others) (hops path e Bank Core) (goes_ends (reached path e) (looks_up path e others))
  passage_ends (FoundInL2 others) = passes_ends (looked_up path e others) (hops path e Bank Core) (goes_ends (reached path e) (looks_up path e others))
  passage_ends (Miss dirty) = passes_ends (filled path e dirty) (hops path e Bank Core) (filled_ends dirty)

  -- how far it has come at each stop
  short_in : (mesh : Option Mesh) → IfSome mesh IsMesh → (from to : Stop) → length (hops_in path e mesh from to) ≤ 14
  short_in None in_range from to = omega arith
  short_in (Some mesh) in_range from to =
      let source = node_of path e mesh from in
      let target = node_of path e mesh to in
      omega (
        arith,
        length-map (route mesh source target) (hop_on path e mesh),
        route_short mesh in_range source target (node_there mesh in_range from) (node_there mesh in_range to),
      )

  pub hops_short : (from to : Stop) → length (hops path e from to) ≤ 14
  hops_short from to = short_in path.mesh ok.mesh from to

  soon_in : (mesh : Option Mesh) → IfSome mesh IsMesh → (p : Passage) (from to : Stop) → (passes p (hops_in path e mesh from to)).end ≤ p.end + 3584
  soon_in None in_range p from to = omega arith
  soon_in (Some mesh) in_range p from to =
      let source = node_of path e mesh from in
      let target = node_of path e mesh to in
      let links = route mesh source target in
      let short = route_short mesh in_range source target (node_there mesh in_range from) (node_there mesh in_range to) in
      omega (arith, links_end path e mesh p links, hops_small (length links) mesh.hop short in_range.hop.1)

  hops_near : (events time : ℕ) (p : Passage) (from to : Stop) → IsNear events time p → IsNear (events + 14) (time + 3584) (passes p (hops path e from to))
  hops_near events time p from to near = record {
    few = omega (arith, passes_length p (hops path e from to), hops_short from to, near.few);
    soon = omega (arith, soon_in path.mesh ok.mesh p from to, near.soon);
  }

  pub reached_near : IsNear 14 69120 (reached path e)
  reached_near =
      hops_near 0 65536 (begun (head_time path e.request)) Core Bank (record { few = omega arith; soon = (head_in_range path ok e.request).1 })

  look_small : (others : Bool) → look_up_time path.l2 others ≤ 131072
  look_small true = omega (arith, ok.l2.latency.1, ok.l2.remote)
  look_small false = omega (arith, ok.l2.latency.1)

  pub looked_near : (others : Bool) → IsNear 15 200192 (looked_up path e others)
  looked_near others = record {
    few = omega (arith, length_push (reached path e).pieces (piece_of (looks_up path e others) (reached path e).end (reached path e).last None), reached_near.few);
    soon = omega (arith, reached_near.soon, look_small others);
  }

  pub answered_near : (others : Bool) → IsNear 29 203776 (answered path e others)
  answered_near others = hops_near 15 200192 (looked_up path e others) Bank Core (looked_near others)

  pub missed_near : IsNear 29 203776 (missed path e)
  missed_near = hops_near 15 200192 (looked_up path e false) Bank Controller (looked_near false)

  pub read_near : (dirty : Bool) → IsNear 31 269312 (read_in path e dirty)
  read_near false = record { few = omega (arith, length_push (missed path e).pieces read_piece, missed_near.few); soon = omega (arith, missed_near.soon, read_small) }
  read_near true = record { few = omega (arith, read_length, missed_near.few); soon = omega (arith, missed_near.soon, read_small) }

  pub brought_near : (dirty : Bool) → IsNear 45 272896 (brought path e dirty)
  brought_near dirty = hops_near 31 269312 (read_in path e dirty) Controller Bank (read_near dirty)

  pub filled_near : (dirty : Bool) → IsNear 46 338432 (filled path e dirty)
  filled_near false = record {
    few = omega (arith, length_push (brought path e false).pieces (piece_of (fills path e) (brought path e false).end (brought path e false).last None), (brought_near false).few);
    soon = omega (arith, (brought_near false).soon, ok.l2.fill.1);
  }
  filled_near true =
      let ends : ℕ = max (brought path e true).end (late true) in
      record {
        few =
            omega (
              arith,
              length_push (brought path e true).pieces (piece_of (fills path e) ends (brought path e true).last (Some (suc (length (missed path e).pieces)))),
              (brought_near true).few,
            );
        soon = omega (arith, (brought_near true).soon, missed_near.soon, ok.controllers.write.1, ok.l2.fill.1);
      }

  pub passage_near : (o : Outcome) → IsNear 60 342016 (passage path e o)
  passage_near Hit = record { few = omega arith; soon = omega (arith, (head_in_range path ok e.request).1) }
  passage_near (Upgrade others) = record { few = omega (arith, (answered_near others).few); soon = omega (arith, (answered_near others).soon) }
  passage_near (FoundInL2 others) = record { few = omega (arith, (answered_near others).few); soon = omega (arith, (answered_near others).soon) }
  passage_near (Miss dirty) = hops_near 46 338432 (filled path e dirty) Bank Core (filled_near dirty)

  -- and that it is never back at the start
  reached_later : 1 ≤ (reached path e).end
  reached_later = omega (arith, passes_later (begun (head_time path e.request)) (hops path e Core Bank), (head_in_range path ok e.request).0)

  answered_later : (others : Bool) → 1 ≤ (answered path e others).end
  answered_later others = omega (arith, passes_later (looked_up path e others) (hops path e Bank Core), reached_later)

  filled_later : (dirty : Bool) → 1 ≤ (filled path e dirty).end
  filled_later false =
      omega (
        arith,
        passes_later (read_in path e false) (hops path e Controller Bank),
        passes_later (looked_up path e false) (hops path e Bank Controller),
        reached_later,
      )
  filled_later true =
      omega (
        arith,
        passes_later (read_in path e true) (hops path e Controller Bank),
        passes_later (looked_up path e false) (hops path e Bank Controller),
        reached_later,
      )

  passage_later : (o : Outcome) → 1 ≤ (passage path e o).end
  passage_later Hit = (head_in_range path ok e.request).0
  passage_later (Upgrade others) = answered_later others
  passage_later (FoundInL2 others) = answered_later others
  passage_later (Miss dirty) = omega (arith, passes_later (filled path e dirty) (hops path e Bank Core), filled_later dirty)

  -- the laws of an expansion
  pub net_time_at_least_one : 1 ≤ net_time path e
  net_time_at_least_one = passage_later e.outcome

  pub net_time_small : net_time path e ≤ 2 ^ 20
  net_time_small = omega (arith, (passage_near e.outcome).soon)

  pub net_events_are_few : length (net_pieces path e) ≤ 60
  net_events_are_few = (passage_near e.outcome).few

  pub net_parents_come_before : ParentsComeBefore (net_pieces path e)
  net_parents_come_before = come_before (net_floor path) (passage path e e.outcome) (passage_way e.outcome)

  pub net_only_first_starts_alone : OnlyFirstStartsAlone (net_pieces path e)
  net_only_first_starts_alone = start_alone (net_floor path) (passage path e e.outcome) (passage_way e.outcome)

  pub net_parents_finish_before : ParentsFinishBefore (net_pieces path e)
  net_parents_finish_before = finish_before (net_floor path) (passage path e e.outcome) (passage_way e.outcome)

  pub net_ends_with_access : EndsAt (net_pieces path e) (net_time path e)
  net_ends_with_access = ends_at (net_floor path) (passage path e e.outcome) (passage_way e.outcome) (passage_ends e.outcome)

  pub net_floors_are_times : HaveFloors (net_floor path) (net_pieces path e)
  net_floors_are_times = have_floors (net_floor path) (passage path e e.outcome) (passage_way e.outcome)
