-- When the event starts with which a chain goes on.
use Rattle.std.proofs.Common.{◌≡◌, ◌+◌, ◌==◌, ◌<◌, ℕ, Bool, true, false, List, length, max, if◌then◌else◌, Option, Some, None, sym, ◌∙◌, ap, refl, arith}
use Rattle.std.specs.List.{slice_get}
use Rattle.std.specs.Option.{option_map}
use Rattle.zs_num.specs.declared.entry.Entry.{Entry}
use Rattle.event_graph.specs.declared.event.Event.{Event}
use Rattle.event_graph.specs.declared.piece.Piece.{Piece}
use Rattle.event_graph.specs.Critical.{last_critical}
use Rattle.event_graph.specs.EventGraph.{all_events, earlier_parent, event_at, inner_parent, parent_of, zero_load_finish, zero_load_start}
use Rattle.event_graph.specs.Expansion.{ParentsComeBefore}
use Rattle.event_graph.specs.OneListWeave.{FiredEvent, after_parent, finish_in, start_of}
use Rattle.event_graph.specs.PlacedEvents.{events_before, first_number}
use Rattle.weave_chains.specs.States.{ChainState}
use Rattle.weave_chains.specs.Chains.{IsChain, after_ended, ended_of, start_by, waited_for}
use Rattle.weave_chains.specs.GraphFacts.{ArePlaced}
use Rattle.weave_chains.proofs.Popped.{get_some}

module _ (pieces : Entry → List Piece) (entries : List Entry) (placed : ArePlaced pieces entries) (fired : List FiredEvent) (core : ℕ) (c : ChainState)
    (is : IsChain pieces entries fired core c) (on : c.access < c.end) (entry : Entry) (there : slice_get entries c.access ≡ Some entry) (law : ParentsComeBefore (pieces entry)) where
  abbrev before : List Event
  before = events_before pieces entries c.access

  -- the last event of the accesses before
  last_by : (start : ℕ) (o : Option Event) → after_ended start (option_map (ended_of (finish_in fired)) o) ≡ after_parent (finish_in fired) (option_map (λ (e : Event). parent_of e.number e.min_finish start) o)
  last_by start None = refl
  last_by start (Some e) = refl

  last_is : (start : ℕ) → after_ended start c.last ≡ after_parent (finish_in fired) (earlier_parent before entry.core start)
  last_is start =
      ap (after_ended start) is.last
      ∙ (last_by start (last_critical core before)
      ∙ ap (λ k. after_parent (finish_in fired) (earlier_parent before k start)) (sym (is.own c.access entry there (omega arith) on)))

  -- an event of the access
  inner_is : (start : ℕ) (place : Option ℕ) → ((i : ℕ) → place ≡ Some i → i < c.place) → after_ended start (waited_for c place) ≡ after_parent (finish_in fired) (inner_parent (length before) entry (pieces entry) start place)
  inner_is start None below = refl
  inner_is start (Some i) below =
      let q : (q : Piece) × (slice_get (pieces entry) i ≡ Some q) = get_some (pieces entry) i (omega (arith, below i refl, is.place entry on there)) in
      let at : slice_get (all_events pieces entries) (first_number pieces entries c.access + i) ≡ Some (event_at before entry (pieces entry) i q.0) = placed.there c.access entry i q.0 there q.1 in
      ap (after_ended start) (is.ended i (event_at before entry (pieces entry) i q.0) (below i refl) at)
      ∙ sym (ap (λ o. after_parent (finish_in fired) (option_map (λ r. parent_of (length before + i) (zero_load_finish entry r) start) o)) q.1)

  first_is : (b : Bool) (start : ℕ) (p : Piece) → ((i : ℕ) → p.first ≡ Some i → i < c.place)
      → after_ended start (if b then c.last else waited_for c p.first) ≡ after_parent (finish_in fired) (if b then earlier_parent before entry.core start else inner_parent (length before) entry (pieces entry) start p.first)
  first_is true start p below = last_is start
  first_is false start p below = inner_is start p.first below

  pub start_is : (p : Piece) → slice_get (pieces entry) c.place ≡ Some p → start_by c (entry.start + p.offset) p ≡ start_of (finish_in fired) (event_at before entry (pieces entry) c.place p)
  start_is p at =
      let start : ℕ = zero_load_start entry p in
      ap (λ n. max start (max n (after_ended start (waited_for c p.second)))) (first_is (c.place == 0) start p (λ i is_i. law.first c.place p i at is_i))
      ∙ ap (λ n. max start (max (after_parent (finish_in fired) (event_at before entry (pieces entry) c.place p).first) n)) (inner_is start p.second (λ i is_i. law.second c.place p i at is_i))
