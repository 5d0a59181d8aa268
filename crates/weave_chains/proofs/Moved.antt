-- The chains after the next event has fired.
use Rattle.std.proofs.Common.{◌≡◌, ◌+◌, ◌<◌, ◌≤◌, ℕ, zero, suc, true, false, List, [], ◌∷◌, ◌++◌, length, Option, Some, None, inl, inr, sym, ◌∙◌, ap, subst, refl, arith, nat_lt}
use Rattle.std.specs.Prelude.{slice_set}
use Rattle.std.specs.List.{slice_get}
use Rattle.std.specs.Option.{option_map}
use Rattle.std.proofs.lemmas.Bool.{cases_lt, cond_both, ltb-true}
use Rattle.std.proofs.lemmas.Bool.Decides.{nat_tests}
use Rattle.std.proofs.lemmas.Option.{slice_get_within}
use Rattle.std.proofs.lemmas.List.{length-set}
use Rattle.zs_num.specs.declared.entry.Entry.{Entry}
use Rattle.event_graph.specs.declared.event.Event.{Event}
use Rattle.event_graph.specs.declared.piece.Piece.{Piece}
use Rattle.event_graph.specs.Critical.{last_critical}
use Rattle.event_graph.specs.EventGraph.{all_events, event_at}
use Rattle.event_graph.specs.OneListWeave.{FiredEvent, finish_in, is_fired, start_of}
use Rattle.event_graph.specs.PlacedEvents.{IsOfSameCore, events_before, first_number}
use Rattle.weave_chains.specs.States.{ChainState}
use Rattle.weave_chains.specs.declared.chain.Ended.{Ended}
use Rattle.weave_chains.specs.Chains.{IsChain, ended_of, moved_on, next_number}
use Rattle.weave_chains.specs.GraphFacts.{ArePlaced}
use Rattle.weave_chains.proofs.Fired.{ended_other, finish_itself, fired_itself, fired_other, fired_still, start_other}
use Rattle.weave_chains.proofs.Popped.{get_some}

pub set_same : {X : Type 0} (xs : List X) (i : ℕ) (x : X) → i < length xs → slice_get (slice_set xs i x) i ≡ Some x
set_same [] i x within = absurd (omega (arith, within))
set_same (y ∷ ys) zero x within = refl
set_same (y ∷ ys) (suc i) x within = set_same ys i x (omega (arith, within))

pub set_other : {X : Type 0} (xs : List X) (i j : ℕ) (x : X) → (i ≡ j → ⊥) → slice_get (slice_set xs i x) j ≡ slice_get xs j
set_other [] i j x other = refl
set_other (y ∷ ys) zero zero x other = absurd (other refl)
set_other (y ∷ ys) zero (suc j) x other = refl
set_other (y ∷ ys) (suc i) zero x other = refl
set_other (y ∷ ys) (suc i) (suc j) x other = set_other ys i j x (λ e. other (ap suc e))

not_below : (a b : ℕ) → nat_lt a b ≡ false → b ≤ a
not_below a b f = grind (arith, nat_tests)

map_same : (f g : Event → Ended) (o : Option Event) → ((e : Event) → o ≡ Some e → f e ≡ g e) → option_map f o ≡ option_map g o
map_same f g None h = refl
map_same f g (Some e) h = ap Some (h e refl)

module _ (pieces : Entry → List Piece) (entries : List Entry) (placed : ArePlaced pieces entries) (fired : List FiredEvent) (x : FiredEvent)
    (unfired : is_fired fired x.event.number ≡ false) (x_at : slice_get (all_events pieces entries) x.event.number ≡ Some x.event) where
  abbrev events : List Event
  events = all_events pieces entries

  -- an event of another core is another event
  another : (n : ℕ) (e : Event) → slice_get events n ≡ Some e → (e.core ≡ x.event.core → ⊥) → x.event.number ≡ n → ⊥
  another n e at other same =
      let here : slice_get events n ≡ Some x.event = subst (λ i. slice_get events i ≡ Some x.event) same x_at in
      let one : e ≡ x.event = cc in
      other (ap (λ (z : Event). z.core) one)

  number_is : (n : ℕ) (e : Event) → slice_get events n ≡ Some e → e.number ≡ n
  number_is n e at = placed.numbered.number n e at

  -- the core of an event of the access in which a chain stands
  core_here : (core : ℕ) (c : ChainState) → IsChain pieces entries fired core c → (i : ℕ) (e : Event) → i < c.place → slice_get events (first_number pieces entries c.access + i) ≡ Some e → e.core ≡ core
  core_here core c is i e below at =
      let on : c.access < c.end =
      elim (cases_lt c.access c.end) [ inl less ↦ less | inr not ↦ absurd (omega (arith, below, is.over (omega (arith, not, is.from)))) ]
      in
      let entry : (a : Entry) × (slice_get entries c.access ≡ Some a) = get_some entries c.access (omega (arith, on, is.within)) in
      let p : (p : Piece) × (slice_get (pieces entry.0) i ≡ Some p) = get_some (pieces entry.0) i (omega (arith, below, is.place entry.0 on entry.1)) in
      let there : slice_get events (first_number pieces entries c.access + i) ≡ Some (event_at (events_before pieces entries c.access) entry.0 (pieces entry.0) i p.0) =
      placed.there c.access entry.0 i p.0 entry.1 p.1
      in
      let one : e ≡ event_at (events_before pieces entries c.access) entry.0 (pieces entry.0) i p.0 = cc in
      ap (λ (z : Event). z.core) one ∙ is.own c.access entry.0 entry.1 (omega arith) on

  -- the chain of another core stays
  pub other_chain : (core : ℕ) (c : ChainState) → (core ≡ x.event.core → ⊥) → IsChain pieces entries fired core c → IsChain pieces entries (fired ++ x ∷ []) core c
  other_chain core c other is = record {
    from = is.from;
    within = is.within;
    own = is.own;
    all = is.all;
    place = is.place;
    over = is.over;
    sized = is.sized;
    behind = λ n e at of less. fired_still fired x unfired n (is.behind n e at of less);
    ahead = λ n e at of not. fired_other fired x unfired n (another n e at (λ same. other (sym of ∙ same))) ∙ is.ahead n e at of not;
    ended = λ i e below at.
        is.ended i e below at
        ∙ ap Some (ended_other fired x unfired e (λ same. another (first_number pieces entries c.access + i) e at (λ one. other (sym (core_here core c is i e below at) ∙ one)) (same ∙ number_is (first_number pieces entries c.access + i) e at)));
    last = is.last ∙ map_same (ended_of (finish_in fired)) (ended_of (finish_in (fired ++ x ∷ []))) (last_critical core (events_before pieces entries c.access))
        (λ e found.
        let r = placed.last core c.access e found in
        ended_other fired x unfired e (another e.number e r.1.0 (λ one. other (sym r.1.1 ∙ one))));
  }

  -- ---- the chain whose event it is
  module _ (c : ChainState) (is : IsChain pieces entries fired x.event.core c) (on : c.access < c.end) (next : slice_get events (next_number pieces entries c) ≡ Some x.event)
      (entry : Entry) (there : slice_get entries c.access ≡ Some entry) (some : (i : ℕ) (e : Entry) → slice_get entries i ≡ Some e → 0 < length (pieces e)) (room : length (pieces entry) ≤ length c.ended) where
    abbrev core : ℕ
    core = x.event.core

    abbrev pub done : Ended
    done = record { finish = x.finish; at_zero_load = x.event.min_finish }

    x_number : x.event.number ≡ next_number pieces entries c
    x_number = number_is (next_number pieces entries c) x.event next

    done_is : done ≡ ended_of (finish_in (fired ++ x ∷ [])) x.event
    done_is = ap (λ n. record { finish = n; at_zero_load = x.event.min_finish }) (sym (finish_itself fired x unfired))

    behind_it : (n : ℕ) (e : Event) → slice_get events n ≡ Some e → e.core ≡ core → n < next_number pieces entries c + 1 → is_fired (fired ++ x ∷ []) n ≡ true
    behind_it n e at of less =
        elim (cases_lt n (next_number pieces entries c)) [
          | inl early ↦ fired_still fired x unfired n (is.behind n e at of early)
          | inr not ↦ ap (is_fired (fired ++ x ∷ [])) (omega (arith, not, less, x_number)) ∙ fired_itself fired x unfired
        ]

    ahead_of_it : (n : ℕ) (e : Event) → slice_get events n ≡ Some e → e.core ≡ core → next_number pieces entries c + 1 ≤ n → is_fired (fired ++ x ∷ []) n ≡ false
    ahead_of_it n e at of not = fired_other fired x unfired n (λ same. omega (arith, same, x_number, not)) ∙ is.ahead n e at of (omega (arith, not))

    earlier_ended : (i : ℕ) (e : Event) → i < c.place → slice_get events (first_number pieces entries c.access + i) ≡ Some e → slice_get c.ended i ≡ Some (ended_of (finish_in (fired ++ x ∷ [])) e)
    earlier_ended i e below at =
        is.ended i e below at
        ∙ ap Some (ended_other fired x unfired e (λ same. omega (arith, same, x_number, number_is (first_number pieces entries c.access + i) e at, below)))

    place_below : c.place < length (pieces entry)
    place_below = is.place entry on there

    stays_here : c.place + 1 < length (pieces entry) → IsChain pieces entries (fired ++ x ∷ []) core (record c { place = c.place + 1; ended = slice_set c.ended c.place done })
    stays_here more = record {
      from = is.from;
      within = is.within;
      own = is.own;
      all = is.all;
      place = λ e on' at. let same : e ≡ entry = cc in omega (arith, more, ap (λ (z : Entry). length (pieces z)) same);
      over = λ end. absurd (omega (arith, end, on));
      sized = length-set c.ended c.place done ∙ is.sized;
      behind = λ n e at of less. behind_it n e at of (omega (arith, less));
      ahead = λ n e at of not. ahead_of_it n e at of (omega (arith, not));
      ended = λ i e below at. elim (cases_lt i c.place) [
        | inl early ↦ set_other c.ended c.place i done (λ same. omega (arith, same, early)) ∙ earlier_ended i e early at
        | inr not ↦
            let one : c.place ≡ i = omega (arith, not, below) in
            let same : e ≡ x.event = (let here : slice_get events (first_number pieces entries c.access + i) ≡ Some x.event = subst (λ k. slice_get events (first_number pieces entries c.access + k) ≡ Some x.event) one next in cc) in
            subst (λ k. slice_get (slice_set c.ended c.place done) k ≡ Some (ended_of (finish_in (fired ++ x ∷ [])) e)) one
            (set_same c.ended c.place done (omega (arith, place_below, room)) ∙ ap Some (done_is ∙ ap (ended_of (finish_in (fired ++ x ∷ []))) (sym same)))
      ];
      last = is.last ∙ map_same (ended_of (finish_in fired)) (ended_of (finish_in (fired ++ x ∷ []))) (last_critical core (events_before pieces entries c.access))
          (λ e found.
          let r = placed.last core c.access e found in
          ended_other fired x unfired e (λ same. omega (arith, same, x_number, slice_get_within (events_before pieces entries c.access) e.number e r.0)));
    }

    goes_on : c.place + 1 ≡ length (pieces entry) → IsChain pieces entries (fired ++ x ∷ []) core (record c { access = c.access + 1; place = 0; last = Some done })
    goes_on end =
        let first : first_number pieces entries (c.access + 1) ≡ next_number pieces entries c + 1 = omega (arith, placed.next c.access entry there, end) in
        let p : (p : Piece) × (slice_get (pieces entry) c.place ≡ Some p) = get_some (pieces entry) c.place place_below in
        let event : x.event ≡ event_at (events_before pieces entries c.access) entry (pieces entry) c.place p.0 =
        (let at : slice_get events (next_number pieces entries c) ≡ Some (event_at (events_before pieces entries c.access) entry (pieces entry) c.place p.0) = placed.there c.access entry c.place p.0 there p.1 in cc)
        in
        let of_core : entry.core ≡ core = is.own c.access entry there (omega arith) on in
        let ends : last_critical core (events_before pieces entries (c.access + 1)) ≡ Some x.event =
        subst (λ k. last_critical k (events_before pieces entries (c.access + 1)) ≡ Some x.event) of_core (placed.ends c.access entry c.place p.0 there p.1 end ∙ ap Some (sym event))
        in
        record {
          from = omega (arith, on);
          within = is.within;
          own = λ i e at low high. is.own i e at (omega (arith, low)) high;
          all = is.all;
          place = λ e on' at. some (c.access + 1) e at;
          over = λ end'. refl;
          sized = is.sized;
          behind = λ n e at of less. behind_it n e at of (omega (arith, less, first));
          ahead = λ n e at of not. ahead_of_it n e at of (omega (arith, not, first));
          ended = λ i e below at. absurd (omega (arith, below));
          last = ap Some done_is ∙ ap (option_map (ended_of (finish_in (fired ++ x ∷ [])))) (sym ends);
        }

    pub own_chain : IsChain pieces entries (fired ++ x ∷ []) core (moved_on (length (pieces entry)) done c)
    own_chain =
        cond_both (nat_lt (c.place + 1) (length (pieces entry)))
        (record c { place = c.place + 1; ended = slice_set c.ended c.place done }) (record c { access = c.access + 1; place = 0; last = Some done })
        (λ k. IsChain pieces entries (fired ++ x ∷ []) core k)
        (λ t. stays_here (ltb-true (c.place + 1) (length (pieces entry)) t))
        (λ f. goes_on (omega (arith, place_below, not_below (c.place + 1) (length (pieces entry)) f)))

  -- ---- starts stay

  -- an event of another core starts as before
  pub other_start : (n : ℕ) (e : Event) → slice_get events n ≡ Some e → (e.core ≡ x.event.core → ⊥) → start_of (finish_in (fired ++ x ∷ [])) e ≡ start_of (finish_in fired) e
  other_start n e at other =
      let parents : IsOfSameCore pieces entries e e.first × IsOfSameCore pieces entries e e.second = placed.parents n e at in
      start_other fired x unfired e
      (λ p is. let q : (q : Event) × ((slice_get events p.number ≡ Some q) × (q.core ≡ e.core)) = parents.0 p is in another p.number q.0 q.1.0 (λ same. other (sym q.1.1 ∙ same)))
      (λ p is. let q : (q : Event) × ((slice_get events p.number ≡ Some q) × (q.core ≡ e.core)) = parents.1 p is in another p.number q.0 q.1.0 (λ same. other (sym q.1.1 ∙ same)))
