-- The events of an access stand in the order in which they can start.
use Rattle.std.proofs.Common.{◌≡◌, ◌∙◌, ◌+◌, ◌-◌, ℕ, suc, max, Bool, true, false, List, [], ◌∷◌, ◌++◌, None, Some, refl, sym, subst, inl, inr, arith}
use Rattle.std.specs.Prelude.{◌⊎◌, length, slice_get}
use Rattle.std.proofs.lemmas.List.{length_push}
use Rattle.std.proofs.lemmas.Option.{slice_get_within}
use Rattle.zs_num.specs.declared.entry.Entry.{Entry}
use Rattle.zs_num.specs.declared.entry.Outcome.{Outcome}
use Rattle.zs_num.specs.declared.entry.Outcome.TheVariants.{Hit, Upgrade, L2 as FoundInL2, Miss}
use Rattle.event_graph.specs.declared.access_path.AccessPath.{AccessPath}
use Rattle.event_graph.specs.declared.piece.Piece.{Piece}
use Rattle.event_graph.specs.AccessPaths.{head_time}
use Rattle.event_graph.specs.InARow.{AreInARow, BeginTogether, WaitsForOneWith}
use Rattle.noc_mesh.specs.declared.stage.Stage.{Stage}
use Rattle.noc_mesh.specs.declared.stop.Stop.TheVariants.{Core, Bank, Controller}
use Rattle.noc_mesh.specs.Lists.{slice_get_left}
use Rattle.noc_mesh.specs.NetTiming.{brought, fills, filled, hops, looked_up, looks_up, missed, passage, reached, read_in, reads, writes}
use Rattle.noc_mesh.specs.PassageLaws.{at_push, pushed}
use Rattle.noc_mesh.specs.Passages.{Passage, begun, goes, meets, passes, piece_of, writes_beside}

-- the event at this place begins with another one, or is it
record IsBeside (pieces : List Piece) (q : Piece) (place : ℕ) : Type 0 where
  one : Piece
  there : slice_get pieces place ≡ Some one
  together : BeginTogether q one

-- The events so far are in a row, and the one for which the next waits begins with the last one, or is it.
record IsRow (p : Passage) : Type 0 where
  row : AreInARow p.pieces
  last : (q : Piece) → slice_get p.pieces (length p.pieces - 1) ≡ Some q → (place : ℕ) × (p.last ≡ Some place) × IsBeside p.pieces q place

among_more : (pieces more : List Piece) (k : ℕ) (p : Piece) → slice_get pieces k ≡ Some p → slice_get (pieces ++ more) k ≡ Some p
among_more pieces more k p there = slice_get_left pieces more k (slice_get_within pieces k p there) ∙ there

-- an event more, which begins with the last one or waits for one that did
pushed_row : (pieces : List Piece) (x : Piece) → AreInARow pieces
    → ((q : Piece) → slice_get pieces (length pieces - 1) ≡ Some q → BeginTogether q x ⊎ WaitsForOneWith pieces q x) → AreInARow (pieces ++ x ∷ [])
pushed_row pieces x row next k p q here there =
    let more : WaitsForOneWith pieces p q → WaitsForOneWith (pieces ++ x ∷ []) p q =
    λ w. record {
      place = w.place;
      one = w.one;
      there = among_more pieces (x ∷ []) w.place w.one w.there;
      together = w.together;
      waits = w.waits;
    } in
    let before : BeginTogether p q ⊎ WaitsForOneWith pieces p q =
    elim (pushed pieces x (k + 1) q there) [
      | inl old ↦ row k p q (sym (slice_get_left pieces (x ∷ []) k (omega (arith, old.0))) ∙ here) old.1
      | inr new ↦
          let was : slice_get pieces k ≡ Some p = sym (slice_get_left pieces (x ∷ []) k (omega (arith, new.0))) ∙ here in
          let end : k ≡ length pieces - 1 = omega (arith, new.0) in
          subst (λ (z : Piece). BeginTogether p z ⊎ WaitsForOneWith pieces p z) new.1 (next p (subst (λ (i : ℕ). slice_get pieces i ≡ Some p) end was))
    ]
    in
    elim before [ inl together ↦ inl together | inr waits ↦ inr (more waits) ]

-- an event more, which waits for the one for which the next is to wait
waiting_row : (p : Passage) (x : Piece) → x.first ≡ p.last → IsRow p → AreInARow (p.pieces ++ x ∷ [])
waiting_row p x first was =
    pushed_row p.pieces x was.row
    (λ q end.
    let beside = was.last q end in
    inr (record {
      place = beside.0;
      one = beside.2.one;
      there = beside.2.there;
      together = beside.2.together;
      waits = inl (first ∙ beside.1);
    }))

-- the last of them is the one that was added
added_last : (pieces : List Piece) (x q : Piece) → slice_get (pieces ++ x ∷ []) (length (pieces ++ x ∷ []) - 1) ≡ Some q → x ≡ q
added_last pieces x q end =
    let same : Some x ≡ Some q = sym (at_push pieces x (length (pieces ++ x ∷ []) - 1) (omega (arith, length_push pieces x))) ∙ end in
    cc same

-- behind an event for which the next one waits
ended_row : (pieces : List Piece) (x : Piece) (end : ℕ) → AreInARow (pieces ++ x ∷ []) → IsRow (record { pieces = pieces ++ x ∷ []; last = Some (length pieces); end = end })
ended_row pieces x end row = record {
  row = row;
  last = λ q there. (
    length pieces,
    refl,
    record {
      one = x;
      there = at_push pieces x (length pieces) refl;
      together = subst (λ (z : Piece). BeginTogether z x) (added_last pieces x q there) (refl, (refl, refl));
    },
  );
}

begun_row : (head : ℕ) → IsRow (begun head)
begun_row head = record { row = λ k p q here there. absurd (cc here); last = λ q there. absurd (cc there) }

goes_row : (p : Passage) (s : Stage) → IsRow p → IsRow (goes p s)
goes_row p s was = ended_row p.pieces (piece_of s p.end p.last None) (p.end + s.time) (waiting_row p (piece_of s p.end p.last None) refl was)

passes_row : (p : Passage) (stages : List Stage) → IsRow p → IsRow (passes p stages)
passes_row p [] was = was
passes_row p (s ∷ stages) was = passes_row (goes p s) stages (goes_row p s was)

-- a write beside a stage begins with it
beside_row : (p : Passage) (s w : Stage) → IsRow p → IsRow (writes_beside p (goes p s) w)
beside_row p s w was =
    let x : Piece = piece_of s p.end p.last None in
    let y : Piece = piece_of w p.end p.last None in
    let behind : IsRow (goes p s) = goes_row p s was in
    record {
      row = pushed_row (p.pieces ++ x ∷ []) y behind.row (λ q end. inl (subst (λ (z : Piece). BeginTogether z y) (added_last p.pieces x q end) (refl, (refl, refl))));
      last = λ q there. (
        length p.pieces,
        refl,
        record {
          one = x;
          there = among_more (p.pieces ++ x ∷ []) (y ∷ []) (length p.pieces) x (at_push p.pieces x (length p.pieces) refl);
          together = subst (λ (z : Piece). BeginTogether z x) (added_last (p.pieces ++ x ∷ []) y q there) (refl, (refl, refl));
        },
      );
    }

meets_row : (p : Passage) (place ends : ℕ) (s : Stage) → IsRow p → IsRow (meets p place ends s)
meets_row p place ends s was =
    let x : Piece = piece_of s (max p.end ends) p.last (Some place) in
    ended_row p.pieces x (max p.end ends + s.time) (waiting_row p x refl was)

module _ (path : AccessPath) (e : Entry) where
  looked_up_row : (others : Bool) → IsRow (looked_up path e others)
  looked_up_row others = goes_row (reached path e) (looks_up path e others) (passes_row (begun (head_time path e.request)) (hops path e Core Bank) (begun_row (head_time path e.request)))

  missed_row : IsRow (missed path e)
  missed_row = passes_row (looked_up path e false) (hops path e Bank Controller) (looked_up_row false)

  read_row : (dirty : Bool) → IsRow (read_in path e dirty)
  read_row false = goes_row (missed path e) (reads path e) missed_row
  read_row true = beside_row (missed path e) (reads path e) (writes path e) missed_row

  brought_row : (dirty : Bool) → IsRow (brought path e dirty)
  brought_row dirty = passes_row (read_in path e dirty) (hops path e Controller Bank) (read_row dirty)

  filled_row : (dirty : Bool) → IsRow (filled path e dirty)
  filled_row false = goes_row (brought path e false) (fills path e) (brought_row false)
  filled_row true =
      meets_row (brought path e true) (suc (length (missed path e).pieces)) ((missed path e).end + path.controllers.write) (fills path e) (brought_row true)

  passage_row : (o : Outcome) → IsRow (passage path e o)
  passage_row Hit = begun_row (head_time path e.request)
  passage_row (Upgrade others) = passes_row (looked_up path e others) (hops path e Bank Core) (looked_up_row others)
  passage_row (FoundInL2 others) = passes_row (looked_up path e others) (hops path e Bank Core) (looked_up_row others)
  passage_row (Miss dirty) = passes_row (filled path e dirty) (hops path e Bank Core) (filled_row dirty)

  pub net_row : AreInARow (passage path e e.outcome).pieces
  net_row = (passage_row e.outcome).row
