-- The events of an access, up to a place.
use Rattle.std.proofs.Common.{◌≡◌, ◌+◌, ◌<◌, ℕ, List, [], ◌∷◌, ◌++◌, length, take, map, Option, None, Some, refl, ap, ◌∙◌, sym, arith, zero-add, append_assoc, ◌==◌}
use Rattle.std.specs.List.{slice_get, enumerate_from}
use Rattle.std.specs.Option.{option_map}
use Rattle.std.proofs.lemmas.List.{length-take-le, map-append}
use Rattle.std.proofs.lemmas.Option.{slice_get_within, slice_get-map}
use Rattle.zs_num.specs.declared.entry.Entry.{Entry}
use Rattle.event_graph.specs.declared.event.Event.{Event}
use Rattle.event_graph.specs.declared.builder.Critical.{Critical}
use Rattle.event_graph.specs.declared.piece.Piece.{Piece}
use Rattle.event_graph.specs.Critical.{last_critical}
use Rattle.event_graph.specs.Expansion.{ParentsComeBefore}
use Rattle.event_graph.specs.EventGraph.{event_at, parent_of, zero_load_start, zero_load_finish, inner_parent}
use Rattle.event_graph.specs.NextEvent.{critical_of, parent_among, next_event}
use Rattle.event_graph.proofs.Indices.{slice_get_right, slice_get_take, slice_get_enumerate, take_one_more, enumerate_one_more}

-- a map over a map
fused : {A B C : Type 0} (f : B → C) (g : A → B) (h : A → C) → ((x : A) → f (g x) ≡ h x) → (o : Option A) → option_map f (option_map g o) ≡ option_map h o
fused f g h same None = refl
fused {A} {B} {C} f g h same (Some x) = ap {B = Option C} (λ (c : C). Some c) (same x)

module _ (before : List Event) (e : Entry) (pieces : List Piece) where
  abbrev at_place : ℕ × Piece → Event
  at_place at = event_at before e pieces at.0 at.1

  -- the events of the first places
  abbrev pub events_below : (places : ℕ) → List Event
  events_below places = map at_place (enumerate_from 0 (take places pieces))

  pub one_place_more : (k : ℕ) (p : Piece) → slice_get pieces k ≡ Some p
      → events_below (k + 1) ≡ events_below k ++ event_at before e pieces k p ∷ []
  one_place_more k p is =
      let within : k < length pieces = slice_get_within pieces k p is in
      let long : length (take k pieces) ≡ k = length-take-le k pieces (omega arith) in
      ap (λ (ps : List Piece). map at_place (enumerate_from 0 ps)) (take_one_more pieces k p is)
      ∙ ap (map at_place) (enumerate_one_more 0 (take k pieces) p)
      ∙ map-append at_place (enumerate_from 0 (take k pieces)) ((0 + length (take k pieces), p) ∷ [])
      ∙ ap (λ (n : ℕ). events_below k ++ event_at before e pieces n p ∷ []) (zero-add (length (take k pieces)) ∙ long)

  pub event_below : (k i : ℕ) → i < k → slice_get (before ++ events_below k) (length before + i) ≡ option_map (event_at before e pieces i) (slice_get pieces i)
  event_below k i below =
      slice_get_right before (events_below k) i
      ∙ slice_get-map at_place (enumerate_from 0 (take k pieces)) i
      ∙ ap (option_map at_place) (slice_get_enumerate 0 (take k pieces) i ∙ ap (option_map (λ (x : Piece). (0 + i, x))) (slice_get_take k pieces i below))
      ∙ fused at_place (λ (x : Piece). (0 + i, x)) (event_at before e pieces i) (λ x. ap (λ (n : ℕ). event_at before e pieces n x) (zero-add i)) (slice_get pieces i)

  inner_is : (k start : ℕ) (o : Option ℕ) → ((i : ℕ) → o ≡ Some i → i < k)
      → parent_among (before ++ events_below k) (length before) start o ≡ inner_parent (length before) e pieces start o
  inner_is k start None low = refl
  inner_is k start (Some i) low =
      ap (option_map (λ (q : Event). parent_of q.number q.min_finish start)) (event_below k i (low i refl))
      ∙ fused (λ (q : Event). parent_of q.number q.min_finish start) (event_at before e pieces i) (λ q. parent_of (length before + i) (zero_load_finish e q) start) (λ q. refl) (slice_get pieces i)

  pub next_is : (k : ℕ) (p : Piece) → ParentsComeBefore pieces → slice_get pieces k ≡ Some p
      → next_event (before ++ events_below k) (option_map critical_of (last_critical e.core before)) e (length before) k (k + 1 == length pieces) p
      ≡ event_at before e pieces k p
  next_is k p law is =
      let start : ℕ = zero_load_start e p in
      let earlier : option_map (λ (c : Critical). parent_of c.number c.finish start) (option_map critical_of (last_critical e.core before))
      ≡ option_map (λ (c : Event). parent_of c.number c.min_finish start) (last_critical e.core before)
      = fused (λ (c : Critical). parent_of c.number c.finish start) critical_of (λ (c : Event). parent_of c.number c.min_finish start) (λ c. refl) (last_critical e.core before) in
      let first = inner_is k start p.first (λ i at'. law.first k p i is at') in
      let second = inner_is k start p.second (λ i at'. law.second k p i is at') in
      cc (earlier, first, second)

  -- the events after one place more, as the code makes it
  pub place_done : (k : ℕ) (p : Piece) → ParentsComeBefore pieces → slice_get pieces k ≡ Some p
      → (events shown after : List Event) (kept : Option Critical) (base count : ℕ) (made : Event)
      → events ≡ before ++ events_below k → shown ≡ events → kept ≡ option_map critical_of (last_critical e.core before)
      → base ≡ length before → count ≡ length pieces
      → made ≡ next_event shown kept e base k (k + 1 == count) p → after ≡ events ++ made ∷ []
      → after ≡ before ++ events_below (k + 1)
  place_done k p law is events shown after kept base count made so_far shown_is kept_is base_is count_is made_is after_is =
      let right : made ≡ event_at before e pieces k p = made_is ∙ rw (shown_is ∙ so_far, kept_is, base_is, count_is) (next_is k p law is) in
      after_is
      ∙ ap (λ (es : List Event). es ++ made ∷ []) so_far
      ∙ append_assoc before (events_below k) (made ∷ [])
      ∙ ap (λ (ev : Event). before ++ (events_below k ++ ev ∷ [])) right
      ∙ ap (λ (es : List Event). before ++ es) (sym (one_place_more k p is))
