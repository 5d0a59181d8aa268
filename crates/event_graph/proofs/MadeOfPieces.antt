-- Events are made of cores, starts and pieces alone.
use Rattle.std.proofs.Common.{◌≡◌, ◌+◌, ℕ, zero, suc, true, false, List, [], ◌∷◌, ◌++◌, map, fold, Some, ◌⊎◌, inl, inr, sym, ◌∙◌, ap, subst, refl, arith}
use Rattle.std.specs.List.{enumerate_from, slice_get}
use Rattle.std.proofs.lemmas.Bool.{cond_both}
use Rattle.std.proofs.lemmas.List.{append-nil}
use Rattle.machine_desc.specs.declared.machine.L2.{L2}
use Rattle.machine_desc.specs.declared.machine.Controllers.{Controllers}
use Rattle.zs_num.specs.declared.entry.Entry.{Entry}
use Rattle.zs_num.specs.declared.entry.Outcome.{Outcome}
use Rattle.zs_num.specs.declared.entry.Outcome.TheVariants.{Hit, Upgrade, L2 as FoundInL2, Miss}
use Rattle.event_graph.specs.declared.event.Event.{Event}
use Rattle.event_graph.specs.declared.piece.Piece.{Piece}
use Rattle.event_graph.specs.EventGraph.{access_events, all_events, event_at}
use Rattle.event_graph.specs.InARow.{AreInARow, BeginTogether, WaitsFor, WaitsForOneWith}
use Rattle.event_graph.specs.PlainTiming.{pieces_by}
use Rattle.event_graph.specs.MadeOfPieces.{IsMadeAlike, is_some_piece, with_events}

same_made : (before : List Event) (e other : Entry) (pieces : List Piece) (k : ℕ) (p : Piece) → other.core ≡ e.core → other.start ≡ e.start → event_at before other pieces k p ≡ event_at before e pieces k p
same_made before e other pieces k p core start =
    let of : ℕ → ℕ → Event = λ c s. event_at before (record e { core = c; start = s }) pieces k p in
    ap (λ c. of c other.start) core ∙ ap (λ s. of e.core s) start

events_alike : (before : List Event) (e other : Entry) (pieces : List Piece) → other.core ≡ e.core → other.start ≡ e.start → (ats : List (ℕ × Piece))
    → map (λ at. event_at before other pieces at.0 at.1) ats ≡ map (λ at. event_at before e pieces at.0 at.1) ats
events_alike before e other pieces core start [] = refl
events_alike before e other pieces core start (at ∷ ats) =
    ap (λ z. z ∷ map (λ x. event_at before other pieces x.0 x.1) ats) (same_made before e other pieces at.0 at.1 core start)
    ∙ ap (λ zs. event_at before e pieces at.0 at.1 ∷ zs) (events_alike before e other pieces core start ats)

module _ (pieces : Entry → List Piece) where
  abbrev grown : List Event → Entry → List Event
  grown before e = before ++ access_events before e (pieces e)

  none_made : (before : List Event) (e : Entry) (ps : List Piece) → is_some_piece ps ≡ false → before ++ access_events before e ps ≡ before
  none_made before e [] none = append-nil before
  none_made before e (p ∷ ps) none = absurd (cc)

  left_out : (before : List Event) (entries : List Entry) → fold grown before (with_events pieces entries) ≡ fold grown before entries
  left_out before [] = refl
  left_out before (e ∷ entries) =
      cond_both (is_some_piece (pieces e)) (e ∷ with_events pieces entries) (with_events pieces entries) (λ es. fold grown before es ≡ fold grown (grown before e) entries)
      (λ _. left_out (grown before e) entries)
      (λ none. left_out before entries ∙ ap (λ seen. fold grown seen entries) (sym (none_made before e (pieces e) none)))

  -- accesses without events may be left out
  pub may_be_left_out : (entries : List Entry) → all_events pieces (with_events pieces entries) ≡ all_events pieces entries
  may_be_left_out entries = left_out [] entries

  module _ (other : Entry → Entry) (alike : (e : Entry) → IsMadeAlike pieces e (other e)) where
    one_alike : (before : List Event) (e : Entry) → grown before (other e) ≡ grown before e
    one_alike before e =
        let a : IsMadeAlike pieces e (other e) = alike e in
        ap (λ ps. before ++ access_events before (other e) ps) a.made
        ∙ ap (λ zs. before ++ zs) (events_alike before e (other e) (pieces e) a.core a.start (enumerate_from 0 (pieces e)))

    all_alike : (before : List Event) (entries : List Entry) → fold grown before (map other entries) ≡ fold grown before entries
    all_alike before [] = refl
    all_alike before (e ∷ entries) = ap (λ seen. fold grown seen (map other entries)) (one_alike before e) ∙ all_alike (grown before e) entries

    pub made_alike : (entries : List Entry) → all_events pieces (map other entries) ≡ all_events pieces entries
    made_alike entries = all_alike [] entries

-- ---- the pieces of `Plain` are in a row

-- what waits for the one before it is in a row with it
waits_for_it : (pieces : List Piece) (k : ℕ) (p q : Piece) → slice_get pieces k ≡ Some p → WaitsFor k q → WaitsForOneWith pieces p q
waits_for_it pieces k p q here waits = record {
  place = k;
  one = p;
  there = here;
  together = (refl, (refl, refl));
  waits = waits;
}

module _ (head : ℕ) (l2 : L2) (controllers : Controllers) (bank controller : ℕ) where
  row_at : (o : Outcome) (k : ℕ) (p q : Piece) → slice_get (pieces_by head l2 controllers bank controller o) k ≡ Some p → slice_get (pieces_by head l2 controllers bank controller o) (suc k) ≡ Some q
      → BeginTogether p q ⊎ WaitsFor k q
  row_at Hit k p q a b = absurd (cc)
  row_at (Upgrade o) k p q a b = absurd (cc)
  row_at (FoundInL2 o) k p q a b = absurd (cc)
  row_at (Miss false) zero p q a b = inr (inl (cc))
  row_at (Miss false) (suc zero) p q a b = inr (inl (cc))
  row_at (Miss false) (suc (suc k)) p q a b = absurd (cc)
  row_at (Miss true) zero p q a b = inr (inl (cc))
  row_at (Miss true) (suc zero) p q a b = inl (cc, (cc, cc))
  row_at (Miss true) (suc (suc zero)) p q a b = inr (inr (cc))
  row_at (Miss true) (suc (suc (suc k))) p q a b = absurd (cc)

  next_place : (k : ℕ) → k + 1 ≡ suc k
  next_place k = omega arith

  pub plain_row : (o : Outcome) → AreInARow (pieces_by head l2 controllers bank controller o)
  plain_row o k p q a b = elim (row_at o k p q a (subst (λ i. slice_get (pieces_by head l2 controllers bank controller o) i ≡ Some q) (next_place k) b)) [
    | inl together ↦ inl together
    | inr waits ↦ inr (waits_for_it (pieces_by head l2 controllers bank controller o) k p q a waits)
  ]
