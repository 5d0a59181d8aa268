-- The chains once all events have fired.
use Rattle.std.proofs.Common.{◌≡◌, ◌+◌, ◌-◌, ◌==◌, ◌≤◌, ℕ, zero, suc, Bool, true, false, List, [], ◌∷◌, ◌++◌, map, fold, length, take, drop, Option, Some, None, inl, inr, sym, ◌∙◌, ap, refl, arith, append-nil}
use Rattle.std.specs.Prelude.{slice_get}
use Rattle.std.specs.List.{enumerate_from, filter, last_or, range_with_len}
use Rattle.std.specs.Option.{option_map, option_map_or}
use Rattle.std.proofs.lemmas.Bool.{cases_Bool, cases_lt, cond-false, eqb-true, false≢true}
use Rattle.std.proofs.lemmas.List.{take-append-drop}
use Rattle.std.proofs.lemmas.List.Elements.{filter-append}
use Rattle.std.proofs.lemmas.List.Sums.{fold-append}
use Rattle.std.proofs.lemmas.Option.{slice_get-map}
use Rattle.zs_num.specs.declared.entry.Entry.{Entry}
use Rattle.event_graph.specs.declared.event.Event.{Event}
use Rattle.event_graph.specs.declared.fired.Fired.{Fired}
use Rattle.event_graph.specs.declared.piece.Piece.{Piece}
use Rattle.event_graph.specs.Critical.{is_critical_of, last_critical}
use Rattle.event_graph.specs.EventGraph.{access_events, all_events, event_at}
use Rattle.event_graph.specs.Firing.{time_so_far}
use Rattle.event_graph.specs.OneListWeave.{FiredEvent, finish_in, is_fired}
use Rattle.event_graph.specs.PlacedEvents.{events_before}
use Rattle.event_graph.proofs.Lists.{In, at_in, from_map, get_some}
use Rattle.feedback.specs.FeedbackDelay.{delay_of, feedback_delays, fired_finish}
use Rattle.weave_chains.specs.States.{ChainState}
use Rattle.weave_chains.specs.declared.chain.Ended.{Ended}
use Rattle.weave_chains.specs.Chains.{IsChain, delay_by, ended_of, next_number}
use Rattle.weave_chains.specs.GraphFacts.{ArePlaced}

-- ---- what is left behind the accesses of a core

none_of : {X : Type 0} (p : X → Bool) (xs : List X) → ((x : X) → In x xs → p x ≡ false) → filter p xs ≡ []
none_of p [] h = refl
none_of p (x ∷ xs) h = cond-false (p x) (x ∷ filter p xs) (filter p xs) (h x (inl refl)) ∙ none_of p xs (λ y m. h y (inr m))

not_critical : (core : ℕ) (e : Event) → (e.core ≡ core → ⊥) → is_critical_of core e ≡ false
not_critical core e other =
    elim (cases_Bool (e.core == core)) [
      | inl same ↦ absurd (other (eqb-true e.core core same))
      | inr f ↦ elim (cases_Bool e.critical) [ inl t ↦ cc | inr none ↦ cc ]
    ]

module _ (pieces : Entry → List Piece) where
  abbrev grown : List Event → Entry → List Event
  grown before e = before ++ access_events before e (pieces e)

  other_access : (core : ℕ) (before : List Event) (e : Entry) → (e.core ≡ core → ⊥) → last_critical core (grown before e) ≡ last_critical core before
  other_access core before e other =
      let none : filter (is_critical_of core) (access_events before e (pieces e)) ≡ [] =
      none_of (is_critical_of core) (access_events before e (pieces e))
      (λ x m.
      let at : (at : ℕ × Piece) × (In at (enumerate_from 0 (pieces e)) × (event_at before e (pieces e) at.0 at.1 ≡ x)) = from_map (λ (at : ℕ × Piece). event_at before e (pieces e) at.0 at.1) x (enumerate_from 0 (pieces e)) m in
      not_critical core x (λ same. other (ap (λ (z : Event). z.core) at.1.1 ∙ same)))
      in
      ap (last_or None) (filter-append (is_critical_of core) before (access_events before e (pieces e)) ∙ (ap (λ zs. filter (is_critical_of core) before ++ zs) none ∙ append-nil (filter (is_critical_of core) before)))

  other_accesses : (core : ℕ) (before : List Event) (entries : List Entry) → ((i : ℕ) (e : Entry) → slice_get entries i ≡ Some e → e.core ≡ core → ⊥) → last_critical core (fold grown before entries) ≡ last_critical core before
  other_accesses core before [] other = refl
  other_accesses core before (e ∷ entries) other = other_accesses core (grown before e) entries (λ i d at. other (suc i) d at) ∙ other_access core before e (other 0 e refl)

  get_drop : (n i : ℕ) (xs : List Entry) → slice_get (drop n xs) i ≡ slice_get xs (n + i)
  get_drop zero i xs = let e : i ≡ 0 + i = omega arith in ap (slice_get xs) e
  get_drop (suc n) i [] = refl
  get_drop (suc n) i (x ∷ xs) = get_drop n i xs ∙ ap (slice_get (x ∷ xs)) (let e : suc (n + i) ≡ suc n + i = omega arith in e)

  pub last_of_core : (core : ℕ) (entries : List Entry) (access : ℕ) → ((i : ℕ) (e : Entry) → slice_get entries i ≡ Some e → access ≤ i → e.core ≡ core → ⊥)
      → last_critical core (all_events pieces entries) ≡ last_critical core (events_before pieces entries access)
  last_of_core core entries access other =
      ap (last_critical core)
      (ap (all_events pieces) (sym (take-append-drop access entries)) ∙ fold-append grown [] (take access entries) (drop access entries))
      ∙ other_accesses core (events_before pieces entries access) (drop access entries) (λ i e at. other (access + i) e (sym (get_drop access i entries) ∙ at) (omega arith))

-- ---- the delays

-- a list by the places of its elements
pub by_places : {X Y : Type 0} (f : X → Y) (g : ℕ → Y) (xs : List X) (a : ℕ) → ((i : ℕ) (x : X) → slice_get xs i ≡ Some x → f x ≡ g (a + i)) → map f xs ≡ map g (range_with_len a (length xs))
by_places f g [] a h = refl
by_places f g (x ∷ xs) a h =
    let start : a + 0 ≡ a = omega arith in
    let here : f x ≡ g a = h 0 x refl ∙ ap g start in
    let rest : map f xs ≡ map g (range_with_len (a + 1) (length xs)) = by_places f g xs (a + 1) (λ i y at. let place : a + suc i ≡ a + 1 + i = omega arith in h (suc i) y at ∙ ap g place) in
    ap (λ z. z ∷ map f xs) here ∙ ap (λ zs. g a ∷ zs) rest

by_last : (fired : List FiredEvent) (times : List Fired) (o : Option Event) → ((e : Event) → o ≡ Some e → fired_finish times e.number ≡ finish_in fired e.number)
    → option_map_or (λ (d : Ended). d.finish - d.at_zero_load) (option_map (ended_of (finish_in fired)) o) 0 ≡ option_map_or (λ (e : Event). fired_finish times e.number - e.min_finish) o 0
by_last fired times None h = refl
by_last fired times (Some e) h = ap (λ n. n - e.min_finish) (sym (h e refl))

module _ (pieces : Entry → List Piece) (entries : List Entry) (placed : ArePlaced pieces entries) (fired : List FiredEvent) (all : (e : Event) → In e (all_events pieces entries) → is_fired fired e.number ≡ true) where
  -- every chain is over
  pub over : (core : ℕ) (c : ChainState) → IsChain pieces entries fired core c → c.end ≤ c.access
  over core c is =
      elim (cases_lt c.access c.end) [
        | inl on ↦
            let entry : (e : Entry) × (slice_get entries c.access ≡ Some e) = get_some entries c.access (omega (arith, on, is.within)) in
            let p : (p : Piece) × (slice_get (pieces entry.0) c.place ≡ Some p) = get_some (pieces entry.0) c.place (is.place entry.0 on entry.1) in
            let e : Event = event_at (events_before pieces entries c.access) entry.0 (pieces entry.0) c.place p.0 in
            let there : slice_get (all_events pieces entries) (next_number pieces entries c) ≡ Some e = placed.there c.access entry.0 c.place p.0 entry.1 p.1 in
            let unfired : is_fired fired (next_number pieces entries c) ≡ false = is.ahead (next_number pieces entries c) e there (is.own c.access entry.0 entry.1 (omega arith) on) (omega arith) in
            let number : e.number ≡ next_number pieces entries c = placed.numbered.number (next_number pieces entries c) e there in
            absurd (false≢true (sym unfired ∙ (ap (is_fired fired) (sym number) ∙ all e (at_in e (all_events pieces entries) (next_number pieces entries c) there))))
        | inr not ↦ not
      ]

module _ (pieces : Entry → List Piece) (entries : List Entry) (placed : ArePlaced pieces entries) (fired : List FiredEvent) (times : List Fired)
    (all : (e : Event) → In e (all_events pieces entries) → is_fired fired e.number ≡ true)
    (stands : (core : ℕ) (e : Event) → last_critical core (all_events pieces entries) ≡ Some e → slice_get (all_events pieces entries) e.number ≡ Some e)
    (times_are : map (time_so_far fired) (all_events pieces entries) ≡ times) where
  finish_at : (e : Event) → slice_get (all_events pieces entries) e.number ≡ Some e → fired_finish times e.number ≡ finish_in fired e.number
  finish_at e at =
      ap (λ o. option_map_or (λ (f : Fired). f.finish) o 0)
      (ap (λ ts. slice_get ts e.number) (sym times_are) ∙ (slice_get-map (time_so_far fired) (all_events pieces entries) e.number ∙ ap (option_map (time_so_far fired)) at))

  pub delay_is : (core : ℕ) (c : ChainState) → IsChain pieces entries fired core c → delay_by c ≡ delay_of (all_events pieces entries) times core
  delay_is core c is =
      let last : last_critical core (all_events pieces entries) ≡ last_critical core (events_before pieces entries c.access) =
      last_of_core pieces core entries c.access (λ i e at from of. omega (arith, is.all i e at of, over pieces entries placed fired all core c is, from))
      in
      ap (λ o. option_map_or (λ (d : Ended). d.finish - d.at_zero_load) o 0) (is.last ∙ ap (option_map (ended_of (finish_in fired))) (sym last))
      ∙ by_last fired times (last_critical core (all_events pieces entries)) (λ e found. finish_at e (stands core e found))

  pub delays_are : (chains : List ChainState) → ((core : ℕ) (c : ChainState) → slice_get chains core ≡ Some c → IsChain pieces entries fired core c)
      → map delay_by chains ≡ feedback_delays (all_events pieces entries) times (length chains)
  delays_are chains are = by_places delay_by (delay_of (all_events pieces entries) times) chains 0 (λ core c at. let place : core ≡ 0 + core = omega arith in delay_is core c (are core c at) ∙ ap (delay_of (all_events pieces entries) times) place)
