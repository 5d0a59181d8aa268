-- The chains before the first event fires.
use Rattle.std.proofs.Common.{◌≡◌, ◌<◌, ◌≤◌, ℕ, List, [], length, Option, Some, None, sym, ◌∙◌, ap, refl, arith}
use Rattle.std.specs.List.{slice_get}
use Rattle.std.specs.Option.{option_map}
use Rattle.std.proofs.lemmas.Option.{slice_get_within}
use Rattle.zs_num.specs.declared.entry.Entry.{Entry}
use Rattle.event_graph.specs.declared.event.Event.{Event}
use Rattle.event_graph.specs.declared.piece.Piece.{Piece}
use Rattle.event_graph.specs.Critical.{last_critical}
use Rattle.event_graph.specs.EventGraph.{all_events}
use Rattle.event_graph.specs.OneListWeave.{finish_in}
use Rattle.event_graph.specs.PlacedEvents.{IsEventOf, events_before, first_number}
use Rattle.weave_chains.specs.States.{ChainState}
use Rattle.weave_chains.specs.Chains.{IsChain, ended_of}
use Rattle.weave_chains.specs.GraphFacts.{ArePlaced}
use Rattle.weave_chains.proofs.Popped.{core_is, first_rises}

module _ (pieces : Entry → List Piece) (entries : List Entry) (placed : ArePlaced pieces entries) (core : ℕ) (c : ChainState) (from : c.access ≤ c.end) (within : c.end ≤ length entries)
    (own : (i : ℕ) (e : Entry) → slice_get entries i ≡ Some e → c.access ≤ i → i < c.end → e.core ≡ core)
    (all : (i : ℕ) (e : Entry) → slice_get entries i ≡ Some e → e.core ≡ core → (c.access ≤ i) × (i < c.end))
    (some : (i : ℕ) (e : Entry) → slice_get entries i ≡ Some e → 0 < length (pieces e)) (place : c.place ≡ 0) (sized : length c.ended ≡ 64) (last : c.last ≡ None) where
  -- none of the core's events stands before its accesses
  none_before : (n : ℕ) (e : Event) → slice_get (all_events pieces entries) n ≡ Some e → e.core ≡ core → n < first_number pieces entries c.access → ⊥
  none_before n e at of less =
      let which : IsEventOf pieces entries n e = placed.each n e at in
      let a = all which.access which.entry which.there (sym (core_is pieces entries placed n e which) ∙ of) in
      omega (arith, less, which.number_is, first_rises pieces entries placed c.access which.access a.0 (omega (arith, slice_get_within entries which.access which.entry which.there)))

  none_last : (o : Option Event) → last_critical core (events_before pieces entries c.access) ≡ o → o ≡ None
  none_last None is = refl
  none_last (Some e) is =
      let r = placed.last core c.access e is in
      absurd (none_before e.number e r.1.0 r.1.1 (slice_get_within (events_before pieces entries c.access) e.number e r.0))

  pub begins : IsChain pieces entries [] core c
  begins = record {
    from = from;
    within = within;
    own = own;
    all = λ i e at of. (all i e at of).1;
    place = λ e on at. omega (arith, place, some c.access e at);
    over = λ end. place;
    sized = sized;
    behind = λ n e at of less. absurd (none_before n e at of (omega (arith, less, place)));
    ahead = λ n e at of not. refl;
    ended = λ i e below at. absurd (omega (arith, below, place));
    last = last ∙ ap (option_map (ended_of (finish_in []))) (sym (none_last (last_critical core (events_before pieces entries c.access)) refl));
  }
