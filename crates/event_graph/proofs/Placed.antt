-- Where the events of an access stand among all.
use Rattle.std.proofs.Common.{◌-◌, ◌≡◌, ◌+◌, ◌==◌, ℕ, zero, suc, Bool, true, false, List, [], ◌∷◌, ◌++◌, length, take, drop, fold, Option, None, Some, ◌⊎◌, inl, inr, sym, ◌∙◌, ap, subst, refl, arith, length-append, if◌then◌else◌}
use Rattle.std.specs.List.{enumerate_from, filter, slice_get}
use Rattle.std.specs.Option.{option_map, option_map_or}
use Rattle.std.proofs.lemmas.Bool.{and_from, eq-eqb}
use Rattle.std.proofs.lemmas.List.{length-map, take-append-drop}
use Rattle.std.proofs.lemmas.List.FromFn.{length-enumerate_from}
use Rattle.std.proofs.lemmas.Option.{slice_get-map}
use Rattle.zs_num.specs.declared.entry.Entry.{Entry}
use Rattle.event_graph.specs.declared.event.Event.{Event}
use Rattle.event_graph.specs.declared.event.Parent.{Parent}
use Rattle.event_graph.specs.declared.piece.Piece.{Piece}
use Rattle.event_graph.specs.Critical.{is_critical_of, last_critical}
use Rattle.event_graph.specs.EventGraph.{access_events, all_events, earlier_parent, event_at, inner_parent, parent_of, zero_load_finish, zero_load_start}
use Rattle.event_graph.specs.Numbered.{IsNumbered}
use Rattle.event_graph.specs.PlacedEvents.{IsEventOf, IsOfSameCore, events_before, first_number}
use Rattle.event_graph.proofs.AllEvents.{critical_stands, joined, mapped_some, of_access}
use Rattle.event_graph.proofs.Indices.{slice_get_enumerate, slice_get_left, slice_get_right, take_one_more}
use Rattle.event_graph.proofs.LastByCore.{critical_core, in_last, last_at_end}
use Rattle.event_graph.proofs.Lists.{In, from_filter, get_within}

zero_plus : (k : ℕ) → 0 + k ≡ k
zero_plus k = omega arith

some_number : (number : ℕ) (par : Parent) (finish start : ℕ) → Some (parent_of number finish start) ≡ Some par → number ≡ par.number
some_number number par finish start is = ap (λ o. option_map_or (λ (p : Parent). p.number) o number) is

-- the last critical event of a core is of the core
last_core : (core : ℕ) (events : List Event) (q : Event) → last_critical core events ≡ Some q → q.core ≡ core
last_core core events q is =
    let m : In q (filter (is_critical_of core) events) = in_last (filter (is_critical_of core) events) q is in
    let r : In q events × (is_critical_of core q ≡ true) = from_filter (is_critical_of core) q events m in
    critical_core core q r.1

module _ (pieces : Entry → List Piece) where
  abbrev grown : List Event → Entry → List Event
  grown before e = before ++ access_events before e (pieces e)

  fold-append-from : (before : List Event) (xs ys : List Entry) → fold grown before (xs ++ ys) ≡ fold grown (fold grown before xs) ys
  fold-append-from before [] ys = refl
  fold-append-from before (x ∷ xs) ys = fold-append-from (grown before x) xs ys

  fold-push : (xs : List Entry) (e : Entry) → all_events pieces (xs ++ e ∷ []) ≡ grown (all_events pieces xs) e
  fold-push xs e = fold-append-from [] xs (e ∷ [])

  as_many : (own : List Event) (e : Entry) → length (access_events own e (pieces e)) ≡ length (pieces e)
  as_many own e = length-map (enumerate_from 0 (pieces e)) (λ at. event_at own e (pieces e) at.0 at.1) ∙ length-enumerate_from 0 (pieces e)

  -- what stands among some events stays where it is
  stays : (before : List Event) (entries : List Entry) (i : ℕ) (ev : Event) → slice_get before i ≡ Some ev → slice_get (fold grown before entries) i ≡ Some ev
  stays before [] i ev at = at
  stays before (e ∷ entries) i ev at =
      stays (grown before e) entries i ev (slice_get_left before (access_events before e (pieces e)) i (get_within before i ev at) ∙ at)

  -- an event of an access stands at its place behind the events before
  pub here : (before : List Event) (e : Entry) (k : ℕ) (p : Piece) → slice_get (pieces e) k ≡ Some p → slice_get (grown before e) (length before + k) ≡ Some (event_at before e (pieces e) k p)
  here before e k p at =
      let made : ℕ × Piece → Event = λ x. event_at before e (pieces e) x.0 x.1 in
      slice_get_right before (access_events before e (pieces e)) k
      ∙ (slice_get-map made (enumerate_from 0 (pieces e)) k
      ∙ (ap (option_map made) (slice_get_enumerate 0 (pieces e) k ∙ ap (option_map (λ (x : Piece). (0 + k, x))) at)
      ∙ ap (λ n. Some (event_at before e (pieces e) n p)) (zero_plus k)))

  from : (before : List Event) (entries : List Entry) (a : ℕ) (e : Entry) (k : ℕ) (p : Piece) → slice_get entries a ≡ Some e → slice_get (pieces e) k ≡ Some p
      → slice_get (fold grown before entries) (length (fold grown before (take a entries)) + k) ≡ Some (event_at (fold grown before (take a entries)) e (pieces e) k p)
  from before [] a e k p is at = absurd (cc)
  from before (x ∷ entries) zero e k p is at =
      let same : x ≡ e = cc in
      subst (λ z. slice_get (fold grown (grown before z) entries) (length before + k) ≡ Some (event_at before e (pieces e) k p)) (sym same)
      (stays (grown before e) entries (length before + k) (event_at before e (pieces e) k p) (here before e k p at))
  from before (x ∷ entries) (suc a) e k p is at = from (grown before x) entries a e k p is at

  pub placed_among : (entries : List Entry) (a : ℕ) (e : Entry) (k : ℕ) (p : Piece) → slice_get entries a ≡ Some e → slice_get (pieces e) k ≡ Some p
      → slice_get (all_events pieces entries) (length (all_events pieces (take a entries)) + k) ≡ Some (event_at (all_events pieces (take a entries)) e (pieces e) k p)
  placed_among entries a e k p is at = from [] entries a e k p is at

  -- ---- which access an event is of

  abbrev Made : (before : List Event) (entries : List Entry) (n : ℕ) (ev : Event) → Type 0
  Made before entries n ev = (a : ℕ) × (e : Entry) × (slice_get entries a ≡ Some e) × (k : ℕ) × (p : Piece) × (slice_get (pieces e) k ≡ Some p)
      × (n ≡ length (fold grown before (take a entries)) + k) × (ev ≡ event_at (fold grown before (take a entries)) e (pieces e) k p)

  made_from : (before : List Event) (entries : List Entry) (n : ℕ) (ev : Event) → slice_get (fold grown before entries) n ≡ Some ev → (slice_get before n ≡ Some ev) ⊎ Made before entries n ev
  made_from before [] n ev at = inl at
  made_from before (x ∷ entries) n ev at = elim (made_from (grown before x) entries n ev at) [
    | inl here' ↦ elim (joined before (access_events before x (pieces x)) n ev here') [
      | inl old ↦ inl old
      | inr new ↦
          let of : (p : Piece) × (slice_get (pieces x) new.0 ≡ Some p) × (ev ≡ event_at before x (pieces x) new.0 p) = of_access before x (pieces x) new.0 ev new.2 in
          inr (0, x, refl, new.0, of.0, of.1, new.1, of.2)
    ]
    | inr made ↦ inr (suc made.0, made.1, made.2, made.3, made.4, made.5, made.6, made.7)
  ]

  pub of_which : (entries : List Entry) (n : ℕ) (ev : Event) → slice_get (all_events pieces entries) n ≡ Some ev → IsEventOf pieces entries n ev
  of_which entries n ev at = elim (made_from [] entries n ev at) [
    | inl none ↦ absurd (cc)
    | inr m ↦ record { access = m.0; entry = m.1; there = m.2; place = m.3; piece = m.4; made = m.5; number_is = m.6; is = m.7 }
  ]

  -- the first number of the access behind
  next_events : (entries : List Entry) (a : ℕ) (e : Entry) → slice_get entries a ≡ Some e → events_before pieces entries (a + 1) ≡ grown (events_before pieces entries a) e
  next_events entries a e at = ap (all_events pieces) (take_one_more entries a e at) ∙ fold-push (take a entries) e

  pub next_first : (entries : List Entry) (a : ℕ) (e : Entry) → slice_get entries a ≡ Some e → first_number pieces entries (a + 1) ≡ first_number pieces entries a + length (pieces e)
  next_first entries a e at =
      ap length (next_events entries a e at)
      ∙ (length-append (events_before pieces entries a) (access_events (events_before pieces entries a) e (pieces e))
      ∙ ap (λ n. first_number pieces entries a + n) (as_many (events_before pieces entries a) e))

  -- ---- parents

  before_stays : (entries : List Entry) (a : ℕ) (n : ℕ) (ev : Event) → slice_get (events_before pieces entries a) n ≡ Some ev → slice_get (all_events pieces entries) n ≡ Some ev
  before_stays entries a n ev at =
      subst (λ es. slice_get es n ≡ Some ev) (sym (ap (all_events pieces) (sym (take-append-drop a entries)) ∙ fold-append-from [] (take a entries) (drop a entries)))
      (stays (events_before pieces entries a) (drop a entries) n ev at)

  earlier_is : (entries : List Entry) (a core start : ℕ) (o : Option Event) → last_critical core (events_before pieces entries a) ≡ o → IsNumbered (events_before pieces entries a) → (par : Parent)
      → option_map (λ (q : Event). parent_of q.number q.min_finish start) o ≡ Some par → (d : Event) × ((slice_get (all_events pieces entries) par.number ≡ Some d) × (d.core ≡ core))
  earlier_is entries a core start None last numbered par is = absurd (cc)
  earlier_is entries a core start (Some q) last numbered par is =
      let number : q.number ≡ par.number = some_number q.number par (q.min_finish) start is in
      let at : (n : ℕ) × (slice_get (events_before pieces entries a) n ≡ Some q) = critical_stands core (events_before pieces entries a) q last in
      let n : q.number ≡ at.0 = numbered.number at.0 q at.1 in
      (q, (subst (λ i. slice_get (all_events pieces entries) i ≡ Some q) (sym n ∙ number) (before_stays entries a at.0 q at.1), last_core core (events_before pieces entries a) q last))

  inner_is : (entries : List Entry) (a : ℕ) (e : Entry) → slice_get entries a ≡ Some e → (start : ℕ) (place : Option ℕ) (par : Parent)
      → inner_parent (first_number pieces entries a) e (pieces e) start place ≡ Some par → (d : Event) × ((slice_get (all_events pieces entries) par.number ≡ Some d) × (d.core ≡ e.core))
  inner_is entries a e there start None par is = absurd (cc)
  inner_is entries a e there start (Some i) par is =
      let q : (q : Piece) × (slice_get (pieces e) i ≡ Some q) × (par ≡ parent_of (first_number pieces entries a + i) (zero_load_finish e q) start) =
      mapped_some (λ q. parent_of (first_number pieces entries a + i) (zero_load_finish e q) start) (slice_get (pieces e) i) par is
      in (
        event_at (events_before pieces entries a) e (pieces e) i q.0,
        (subst (λ n. slice_get (all_events pieces entries) n ≡ Some (event_at (events_before pieces entries a) e (pieces e) i q.0)) (sym (ap (λ (r : Parent). r.number) q.2)) (placed_among entries a e i q.0 there q.1), refl),
      )

  first_is : (entries : List Entry) (a : ℕ) (e : Entry) → slice_get entries a ≡ Some e → IsNumbered (events_before pieces entries a) → (b : Bool) (start : ℕ) (place : Option ℕ) (par : Parent)
      → (if b then earlier_parent (events_before pieces entries a) e.core start else inner_parent (first_number pieces entries a) e (pieces e) start place) ≡ Some par
      → (d : Event) × ((slice_get (all_events pieces entries) par.number ≡ Some d) × (d.core ≡ e.core))
  first_is entries a e there numbered true start place par is = earlier_is entries a e.core start (last_critical e.core (events_before pieces entries a)) refl numbered par is
  first_is entries a e there numbered false start place par is = inner_is entries a e there start place par is

  pub parents_here : (entries : List Entry) → ((a : ℕ) → IsNumbered (events_before pieces entries a)) → (n : ℕ) (ev : Event) → slice_get (all_events pieces entries) n ≡ Some ev
      → IsOfSameCore pieces entries ev ev.first × IsOfSameCore pieces entries ev ev.second
  parents_here entries numbered n ev at =
      let of : IsEventOf pieces entries n ev = of_which entries n ev at in
      let made : Event = event_at (events_before pieces entries of.access) of.entry (pieces of.entry) of.place of.piece in
      subst (λ x. IsOfSameCore pieces entries x x.first × IsOfSameCore pieces entries x x.second) (sym of.is) (
        λ par is. first_is entries of.access of.entry of.there (numbered of.access) (of.place == 0) (zero_load_start of.entry of.piece) of.piece.first par is,
        λ par is. inner_is entries of.access of.entry of.there (zero_load_start of.entry of.piece) of.piece.second par is,
      )

  -- ---- the last critical event

  pub last_placed : (entries : List Entry) (core a : ℕ) (q : Event) → IsNumbered (events_before pieces entries a) → last_critical core (events_before pieces entries a) ≡ Some q
      → (slice_get (events_before pieces entries a) q.number ≡ Some q) × ((slice_get (all_events pieces entries) q.number ≡ Some q) × (q.core ≡ core))
  last_placed entries core a q numbered is =
      let at : (n : ℕ) × (slice_get (events_before pieces entries a) n ≡ Some q) = critical_stands core (events_before pieces entries a) q is in
      let here : slice_get (events_before pieces entries a) q.number ≡ Some q = subst (λ n. slice_get (events_before pieces entries a) n ≡ Some q) (sym (numbered.number at.0 q at.1)) at.1 in
      (here, (before_stays entries a q.number q here, last_core core (events_before pieces entries a) q is))

  -- behind an access it is the access's last event
  pub ends_with : (entries : List Entry) (a : ℕ) (e : Entry) (k : ℕ) (p : Piece) → IsNumbered (events_before pieces entries (a + 1)) → slice_get entries a ≡ Some e → slice_get (pieces e) k ≡ Some p → k + 1 ≡ length (pieces e)
      → last_critical e.core (events_before pieces entries (a + 1)) ≡ Some (event_at (events_before pieces entries a) e (pieces e) k p)
  ends_with entries a e k p numbered there at end =
      let ev : Event = event_at (events_before pieces entries a) e (pieces e) k p in
      let stands : slice_get (events_before pieces entries (a + 1)) (first_number pieces entries a + k) ≡ Some ev =
      subst (λ es. slice_get es (first_number pieces entries a + k) ≡ Some ev) (sym (next_events entries a e there)) (here (events_before pieces entries a) e k p at)
      in
      let last : first_number pieces entries a + k ≡ length (events_before pieces entries (a + 1)) - 1 = omega (arith, next_first entries a e there, end) in
      last_at_end e.core (events_before pieces entries (a + 1)) numbered ev (subst (λ n. slice_get (events_before pieces entries (a + 1)) n ≡ Some ev) last stands)
      (and_from (k + 1 == length (pieces e)) (e.core == e.core) (eq-eqb (k + 1) (length (pieces e)) end) (eq-eqb e.core e.core refl))
