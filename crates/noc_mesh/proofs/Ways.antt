-- What the code computes of an access on its way, at each of its stops.
use Rattle.std.specs.Prelude.{◌≡◌, ◌+◌, ◌-◌, ◌*◌, ◌^◌, ◌<◌, ◌≤◌, ℕ, zero, suc, max, true, List, [], ◌∷◌, ◌++◌, length, map, Option, None, Some, slice_get, refl}
use Rattle.std.proofs.Common.{◌∙◌, sym, ap, ap₂, arith}
use Rattle.std.specs.Option.{option_map_or}
use Rattle.std.proofs.Math.Nat.{suc-mul}
use Rattle.std.proofs.lemmas.List.{length-map, length_push}
use Rattle.machine_desc.specs.declared.machine.Mesh.{Mesh}
use Rattle.zs_num.specs.declared.entry.Entry.{Entry}
use Rattle.event_graph.specs.declared.access_path.AccessPath.{AccessPath}
use Rattle.event_graph.specs.declared.piece.Piece.{Piece}
use Rattle.noc_mesh.specs.declared.stage.Stage.{Stage}
use Rattle.noc_mesh.specs.declared.standing.Standing.{Standing}
use Rattle.noc_mesh.specs.declared.stop.Stop.{Stop}
use Rattle.noc_mesh.specs.Lists.{slice_get_left}
use Rattle.noc_mesh.specs.NetTiming.{hop_on, hops_in, hops, missed, node_of, read_in, reads, writes}
use Rattle.noc_mesh.specs.Passages.{Passage, piece_of, goes, meets, passes}
use Rattle.noc_mesh.specs.PassageLaws.{at_push, passes_length, passes_stays}
use Rattle.noc_mesh.specs.Routes.{route}
use Rattle.noc_mesh.specs.NetLaws.{IsNear, links_end}
use Rattle.noc_mesh.specs.Standings.{standing_of, behind, behind_hops, beside, hop_time_of, not_before, waits_for}

-- a standing by its numbers
same_standing : (events events' : ℕ) (last last' : Option ℕ) (end end' : ℕ) → events ≡ events' → last ≡ last' → end ≡ end'
    → (let a : Standing = record { events = events; last = last; end = end } in a) ≡ record { events = events'; last = last'; end = end' }
same_standing events events' last last' end end' e l n = cc (e, l, n)

pub went : (p : Passage) (s : Stage) → standing_of (goes p s) ≡ behind (standing_of p) s.time
went p s =
    same_standing (length (goes p s).pieces) (length p.pieces + 1) (Some (length p.pieces)) (Some (length p.pieces)) (p.end + s.time) (p.end + s.time)
    (length_push p.pieces (piece_of s p.end p.last None)) refl refl

-- hops behind an event wait for it, and for the hops before them
waits_on : (n hop : ℕ) → waits_for (Some n) (n + 1) hop ≡ Some (n + hop)
waits_on n zero = ap Some (omega arith)
waits_on n (suc hop) = ap Some (omega arith)

module _ (path : AccessPath) (e : Entry) (mesh : Mesh) where
  links_last : (p : Passage) (links : List ℕ) → (passes p (map (hop_on path e mesh) links)).last ≡ waits_for p.last (length p.pieces) (length links)
  links_last p [] = refl
  links_last p (link ∷ links) =
      links_last (goes p (hop_on path e mesh link)) links
      ∙ (ap (λ (n : ℕ). waits_for (Some (length p.pieces)) n (length links)) (length_push p.pieces (piece_of (hop_on path e mesh link) p.end p.last None))
      ∙ waits_on (length p.pieces) (length links))

  links_past : (p : Passage) (links : List ℕ) → standing_of (passes p (map (hop_on path e mesh) links)) ≡ behind_hops (standing_of p) (length (map (hop_on path e mesh) links)) mesh.hop
  links_past p links =
      let stages = map (hop_on path e mesh) links in
      let long : length stages ≡ length links = length-map links (hop_on path e mesh) in
      same_standing (length (passes p stages).pieces) (length p.pieces + length stages) (passes p stages).last (waits_for p.last (length p.pieces) (length stages))
      (passes p stages).end (p.end + length stages * mesh.hop)
      (passes_length p stages) (links_last p links ∙ ap (λ (n : ℕ). waits_for p.last (length p.pieces) n) (sym long)) (links_end path e mesh p links ∙ ap (λ (n : ℕ). p.end + n * mesh.hop) (sym long))

  link_time : (links : List ℕ) (k : ℕ) (s : Stage) → slice_get (map (hop_on path e mesh) links) k ≡ Some s → s.time ≡ mesh.hop
  link_time [] k s is = absurd (cc is)
  link_time (link ∷ links) zero s is = (let same : hop_on path e mesh link ≡ s = cc is in ap (λ (z : Stage). z.time) (sym same))
  link_time (link ∷ links) (suc k) s is = link_time links k s is

  links_piece : (p : Passage) (links : List ℕ) (place : ℕ) (s : Stage) → slice_get (map (hop_on path e mesh) links) place ≡ Some s
      → slice_get (passes p (map (hop_on path e mesh) links)).pieces (length p.pieces + place) ≡ Some (piece_of s (p.end + place * s.time) (waits_for p.last (length p.pieces) place) None)
  links_piece p [] place s at' = absurd (cc at')
  links_piece p (link ∷ links) zero s at' =
      let here : Stage = hop_on path e mesh link in
      let is : here ≡ s = cc at' in
      let stays = passes_stays (goes p here) (map (hop_on path e mesh) links) (length p.pieces + 0) (omega (arith, length_push p.pieces (piece_of here p.end p.last None))) in
      let first = at_push p.pieces (piece_of here p.end p.last None) (length p.pieces + 0) (omega arith) in
      let same : p.end ≡ p.end + 0 * s.time = omega arith in
      stays ∙ (first ∙ ap₂ (λ (z : Stage) (n : ℕ). Some (piece_of z n p.last None)) is same)
  links_piece p (link ∷ links) (suc place) s at' =
      let here : Stage = hop_on path e mesh link in
      let behind_it = links_piece (goes p here) links place s at' in
      let long : length (goes p here).pieces ≡ length p.pieces + 1 = length_push p.pieces (piece_of here p.end p.last None) in
      let index : length p.pieces + suc place ≡ length (goes p here).pieces + place = omega (arith, long) in
      let time : s.time ≡ mesh.hop = link_time links place s at' in
      let offset : p.end + mesh.hop + place * s.time ≡ p.end + suc place * s.time = omega (arith, time, suc-mul place s.time) in
      let parent : waits_for (Some (length p.pieces)) (length (goes p here).pieces) place ≡ Some (length p.pieces + place) =
      ap (λ (n : ℕ). waits_for (Some (length p.pieces)) n place) long ∙ waits_on (length p.pieces) place
      in
      ap (slice_get (passes p (map (hop_on path e mesh) (link ∷ links))).pieces) index
      ∙ (behind_it ∙ ap₂ (λ (n : ℕ) (o : Option ℕ). Some (piece_of s n o None)) offset parent)

module _ (path : AccessPath) (e : Entry) where
  past_in : (mesh : Option Mesh) (p : Passage) (from to : Stop) → standing_of (passes p (hops_in path e mesh from to)) ≡ behind_hops (standing_of p) (length (hops_in path e mesh from to)) (option_map_or (λ x. x.hop) mesh 0)
  past_in None p from to = same_standing (length p.pieces) (length p.pieces + 0) p.last p.last p.end (p.end + 0 * 0) (omega arith) refl (omega arith)
  past_in (Some mesh) p from to = links_past path e mesh p (route mesh (node_of path e mesh from) (node_of path e mesh to))

  pub went_past : (p : Passage) (from to : Stop) → standing_of (passes p (hops path e from to)) ≡ behind_hops (standing_of p) (length (hops path e from to)) (hop_time_of path)
  went_past p from to = past_in path.mesh p from to

  piece_in : (mesh : Option Mesh) (p : Passage) (from to : Stop) (place : ℕ) (s : Stage) → slice_get (hops_in path e mesh from to) place ≡ Some s
      → slice_get (passes p (hops_in path e mesh from to)).pieces (length p.pieces + place) ≡ Some (piece_of s (p.end + place * s.time) (waits_for p.last (length p.pieces) place) None)
  piece_in None p from to place s at' = absurd (cc at')
  piece_in (Some mesh) p from to place s at' = links_piece path e mesh p (route mesh (node_of path e mesh from) (node_of path e mesh to)) place s at'

  pub hop_piece : (p : Passage) (from to : Stop) (place : ℕ) (s : Stage) → slice_get (hops path e from to) place ≡ Some s
      → slice_get (passes p (hops path e from to)).pieces (length p.pieces + place) ≡ Some (piece_of s (p.end + place * s.time) (waits_for p.last (length p.pieces) place) None)
  hop_piece p from to place s at' = piece_in path.mesh p from to place s at'

  pub past_is : (p : Passage) (from to : Stop) (s after : Standing) → s ≡ standing_of p → after ≡ behind_hops s (length (hops path e from to)) (hop_time_of path)
      → after ≡ standing_of (passes p (hops path e from to))
  past_is p from to s after is next =
      next ∙ (ap (λ (z : Standing). behind_hops z (length (hops path e from to)) (hop_time_of path)) is ∙ sym (went_past p from to))

  -- an event of the hops behind an access that had come so far, and one before them
  pub hop_is : (p : Passage) (from to : Stop) (s : Standing) (place : ℕ) (x : Piece) → s ≡ standing_of p → s.events ≤ place
      → ((q : Passage) → standing_of q ≡ s → slice_get (passes q (hops path e from to)).pieces (s.events + (place - s.events)) ≡ Some x)
      → slice_get (passes p (hops path e from to)).pieces place ≡ Some x
  hop_is p from to s place x is behind_it hops_are =
      let index : place ≡ s.events + (place - s.events) = omega arith in
      ap (slice_get (passes p (hops path e from to)).pieces) index ∙ hops_are p (sym is)

  pub hop_within : (p : Passage) (from to : Stop) (s : Standing) (place : ℕ) → s ≡ standing_of p → s.events ≤ place → place < length (passes p (hops path e from to)).pieces
      → place - s.events < length (hops path e from to)
  hop_within p from to s place is behind_it within =
      let events : s.events ≡ length p.pieces = ap (λ (z : Standing). z.events) is in
      omega (arith, events, passes_length p (hops path e from to))

  pub before_hops : (p : Passage) (from to : Stop) (s : Standing) (place : ℕ) (x : Piece) → s ≡ standing_of p → place < s.events → slice_get p.pieces place ≡ Some x
      → slice_get (passes p (hops path e from to)).pieces place ≡ Some x
  before_hops p from to s place x is early at' =
      let events : s.events ≡ length p.pieces = ap (λ (z : Standing). z.events) is in
      passes_stays p (hops path e from to) place (omega (arith, events)) ∙ at'

-- so many numbers say how far it has come
pub near_is : (p : Passage) (s : Standing) (events time : ℕ) → s ≡ standing_of p → IsNear events time p → events ≤ 60 → time ≤ 2 ^ 20 → (s.events ≤ 60) × (s.end ≤ 2 ^ 20)
near_is p s events time is near few soon =
    let n : s.events ≡ length p.pieces = ap (λ (z : Standing). z.events) is in
    let t : s.end ≡ p.end = ap (λ (z : Standing). z.end) is in
    (omega (arith, n, near.few), omega (arith, t, near.soon))

pub soon_is : (p : Passage) (s : Standing) (events time : ℕ) → s ≡ standing_of p → IsNear events time p → s.end ≤ time
soon_is p s events time is near = (let t : s.end ≡ p.end = ap (λ (z : Standing). z.end) is in omega (arith, t, near.soon))

pub goes_is : (p : Passage) (s : Stage) (before after : Standing) (time : ℕ) → before ≡ standing_of p → time ≡ s.time → after ≡ behind before time → after ≡ standing_of (goes p s)
goes_is p s before after time is same next = next ∙ (ap₂ behind is same ∙ sym (went p s))

pub early : (p : Passage) (s : Standing) (place : ℕ) → s ≡ standing_of p → place < s.events → place < length p.pieces
early p s place is below = (let events : s.events ≡ length p.pieces = ap (λ (z : Standing). z.events) is in omega (arith, events))

-- the event behind those of a list, where it is the last
pub pushed_last : (pieces : List Piece) (x y : Piece) (events place : ℕ) → events ≡ length pieces → events ≤ place → place < length (pieces ++ x ∷ []) → y ≡ x
    → slice_get (pieces ++ x ∷ []) place ≡ Some y
pushed_last pieces x y events place is past within same = at_push pieces x place (omega (arith, length_push pieces x)) ∙ ap Some (sym same)

pub pushed_early : (pieces : List Piece) (x y : Piece) (events place : ℕ) → events ≡ length pieces → place < events → slice_get pieces place ≡ Some y → slice_get (pieces ++ x ∷ []) place ≡ Some y
pushed_early pieces x y events place is below at' = slice_get_left pieces (x ∷ []) place (omega arith) ∙ at'

-- a write beside the read
pub beside_is : (path : AccessPath) (e : Entry) (read after : Standing) → read ≡ standing_of (goes (missed path e) (reads path e)) → after ≡ beside read → after ≡ standing_of (read_in path e true)
beside_is path e read after is next =
    let before = goes (missed path e) (reads path e) in
    let x = piece_of (writes path e) (missed path e).end (missed path e).last None in
    next ∙ (ap beside is ∙ same_standing (length before.pieces + 1) (length (before.pieces ++ x ∷ [])) before.last before.last before.end before.end (sym (length_push before.pieces x)) refl refl)

-- a stage that waits for a write, too
pub met_is : (p : Passage) (s : Stage) (place ends : ℕ) (before waiting after : Standing) (time : ℕ) → before ≡ standing_of p → waiting ≡ not_before before ends → time ≡ s.time
    → after ≡ behind waiting time → after ≡ standing_of (meets p place ends s)
met_is p s place ends before waiting after time is waits same next =
    next ∙ (ap₂ behind (waits ∙ ap (λ (z : Standing). not_before z ends) is) same
    ∙ same_standing (length p.pieces + 1) (length (p.pieces ++ piece_of s (max p.end ends) p.last (Some place) ∷ [])) (Some (length p.pieces)) (Some (length p.pieces)) (max p.end ends + s.time)
    (max p.end ends + s.time) (sym (length_push p.pieces (piece_of s (max p.end ends) p.last (Some place)))) refl refl)
