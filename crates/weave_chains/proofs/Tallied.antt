-- One event more is counted at its component.
use Rattle.std.proofs.Common.{◌≡◌, ◌+◌, ◌==◌, ◌&&◌, ◌≤◌, ℕ, Bool, true, false, not, List, [], ◌∷◌, ◌++◌, map, Option, Some, None, ◌⊎◌, inl, inr, take, drop, sym, ◌∙◌, ap, subst, refl, arith, append_assoc, append-nil}
use Rattle.std.specs.Prelude.{IsTrue, slice_set, slice_get}
use Rattle.std.specs.List.{Contains}
use Rattle.std.proofs.lemmas.Bool.{cases_Bool, cases_eq, cond-true, cond-false, eq-eqb, eqb-true, false≢true, ne_eqb}
use Rattle.std.proofs.lemmas.Bool.Decides.{nat_tests}
use Rattle.std.proofs.lemmas.List.{map-append, take-append-drop}
use Rattle.std.proofs.lemmas.List.Elements.{filter-append}
use Rattle.std.proofs.lemmas.List.Sums.{fold_push}
use Rattle.std.proofs.lemmas.Option.{slice_get_within}
use Rattle.event_graph.specs.declared.event.Event.{Event}
use Rattle.event_graph.specs.OneListWeave.{FiredEvent, fired_of, is_event_before}
use Rattle.event_graph.specs.ServedEvents.{of_component}
use Rattle.event_graph.specs.TimingSolution.{IsInOrder}
use Rattle.event_graph.proofs.Lists.{contains_in, in_contains, in_left, in_push, in_push_cases, pairs_front}
use Rattle.stats.specs.declared.counts.CompCount.{CompCount}
use Rattle.stats.specs.Counted.{comp_plus, comp_sum, event_count, no_comp_count}
use Rattle.weave_chains.specs.declared.tally.Served.{Served}
use Rattle.weave_chains.specs.declared.tally.Tally.{Tally}
use Rattle.weave_chains.specs.Tallies.{AreTallied, IsLastOf, IsTallied, counted, served_of, taken, ties}
use Rattle.weave_chains.specs.Ties.{HaveNoTie, HaveTie}
use Rattle.weave_chains.proofs.Moved.{set_other, set_same}

-- ---- the last event and the next one

some_or_none : {X : Type 0} (o : Option X) → (o ≡ None) ⊎ ((x : X) × (o ≡ Some x))
some_or_none None = inl refl
some_or_none (Some x) = inr (x, refl)

tie_from : (a b : Bool) → a ≡ true → b ≡ false → (a && not b) ≡ true
tie_from true true p q = absurd (cc)
tie_from true false p q = refl
tie_from false b p q = absurd (cc)

tie_parts : (a b : Bool) → (a && not b) ≡ true → (a ≡ true) × (b ≡ false)
tie_parts true true h = absurd (cc)
tie_parts true false h = (refl, refl)
tie_parts false b h = absurd (cc)

same_core : (last s : Served) → ties (Some last) s ≡ false → last.start ≡ s.start → last.core ≡ s.core
same_core last s none same =
    elim (cases_Bool (last.core == s.core)) [
      | inl t ↦ eqb-true last.core s.core t
      | inr f ↦ absurd (false≢true (sym none ∙ tie_from (last.start == s.start) (last.core == s.core) (eq-eqb last.start s.start same) f))
    ]

pub meets : (last s : Served) → ties (Some last) s ≡ true → (last.start ≡ s.start) × (last.core ≡ s.core → ⊥)
meets last s tie =
    let parts : ((last.start == s.start) ≡ true) × ((last.core == s.core) ≡ false) = tie_parts (last.start == s.start) (last.core == s.core) tie in
    (eqb-true last.start s.start parts.0, λ same. false≢true (sym parts.1 ∙ eq-eqb last.core s.core same))

no_later : (a : Event) (s : ℕ) (b : Event) (t : ℕ) → is_event_before a s b t ≡ true → s ≤ t
no_later a s b t h = grind (arith, nat_tests)

abbrev before_in_order : FiredEvent → FiredEvent → Type 0
before_in_order x y = IsTrue (is_event_before x.event x.start y.event y.start)

-- none that fired before it started later
pub in_order : (all fired : List FiredEvent) (x : FiredEvent) (n : ℕ) → IsInOrder all → fired ++ x ∷ [] ≡ take n all → (y : FiredEvent) → Contains fired y → y.start ≤ x.start
in_order all fired x n order is y m =
    let whole : fired ++ x ∷ drop n all ≡ all = sym (append_assoc fired (x ∷ []) (drop n all)) ∙ (ap (λ zs. zs ++ drop n all) is ∙ take-append-drop n all) in
    let sorted : IsInOrder (fired ++ x ∷ drop n all) = subst (λ zs. IsInOrder zs) (sym whole) order in
    no_later y.event y.start x.event x.start (pairs_front before_in_order fired x y (drop n all) sorted (in_contains y fired m))

abbrev count_of : FiredEvent → CompCount
count_of x = event_count (x.event, fired_of x)

abbrev is_of : ℕ → FiredEvent → Bool
is_of component x = x.event.component == component

module _ (fired : List FiredEvent) (x : FiredEvent) where
  abbrev after : List FiredEvent
  after = fired ++ x ∷ []

  abbrev own : ℕ
  own = x.event.component

  pub cases : (y : FiredEvent) → Contains after y → Contains fired y ⊎ (x ≡ y)
  cases y m = elim (in_push_cases y fired x (in_contains y after m)) [ inl old ↦ inl (contains_in y fired old) | inr same ↦ inr same ]

  pub still : (y : FiredEvent) → Contains fired y → Contains after y
  still y m = contains_in y after (in_left y fired (x ∷ []) (in_contains y fired m))

  there_now : Contains after x
  there_now = contains_in x after (in_push fired x)

  of_other : (component : ℕ) → (own ≡ component → ⊥) → of_component component after ≡ of_component component fired
  of_other component other =
      filter-append (is_of component) fired (x ∷ [])
      ∙ (ap (λ zs. of_component component fired ++ zs) (cond-false (own == component) (x ∷ []) [] (ne_eqb own component other)) ∙ append-nil (of_component component fired))

  of_itself : of_component own after ≡ of_component own fired ++ x ∷ []
  of_itself =
      filter-append (is_of own) fired (x ∷ [])
      ∙ ap (λ zs. of_component own fired ++ zs) (cond-true (own == own) (x ∷ []) [] (eq-eqb own own refl))

  counted_here : counted own after ≡ comp_plus (counted own fired) (count_of x)
  counted_here =
      ap (λ xs. comp_sum (map count_of xs)) of_itself
      ∙ (ap comp_sum (map-append count_of (of_component own fired) (x ∷ []))
      ∙ fold_push comp_plus no_comp_count (map count_of (of_component own fired)) (count_of x))

  module _ (order : (y : FiredEvent) → Contains fired y → y.start ≤ x.start) (s : Served) (s_is : s ≡ served_of x) where
    own_tally : (t : Tally) → IsTallied fired own t → IsTallied after own (taken t s)
    own_tally t is =
        let more : CompCount → ℕ → CompCount = λ d w. record d { events = d.events + 1; waited = d.waited + w } in
        record {
          count = ap (λ d. more d s.waited) is.count ∙ (ap (more (counted own fired)) (ap (λ (z : Served). z.waited) s_is) ∙ sym counted_here);
          none = λ gone. absurd (cc);
          last = λ d d_is. record {
            event = x;
            there = there_now;
            here = refl;
            is = (let same : s ≡ d = cc in sym same ∙ s_is);
            latest = λ y m of. elim (cases y m) [ inl before ↦ order y before | inr same ↦ omega (arith, ap (λ (z : FiredEvent). z.start) same) ];
          };
        }

    other_tally : (component : ℕ) → (own ≡ component → ⊥) → (t : Tally) → IsTallied fired component t → IsTallied after component t
    other_tally component other t is = record {
      count = is.count ∙ sym (ap (λ xs. comp_sum (map count_of xs)) (of_other component other));
      none = λ gone y m of. elim (cases y m) [
        | inl before ↦ is.none gone y before of
        | inr same ↦ other (ap (λ (z : FiredEvent). z.event.component) same ∙ of)
      ];
      last = λ d d_is.
          let l : IsLastOf fired component d = is.last d d_is in
          record {
            event = l.event;
            there = still l.event l.there;
            here = l.here;
            is = l.is;
            latest = λ y m of. elim (cases y m) [
              | inl before ↦ l.latest y before of
              | inr same ↦ absurd (other (ap (λ (z : FiredEvent). z.event.component) same ∙ of))
            ];
          };
    }

    -- the tallies with the event
    pub one_more : (tallies : List Tally) → AreTallied fired tallies → (t : Tally) → slice_get tallies own ≡ Some t → AreTallied after (slice_set tallies own (taken t s))
    one_more tallies are t t_at component u u_at =
        elim (cases_eq own component) [
          | inl same ↦
              let here_is : slice_get (slice_set tallies own (taken t s)) component ≡ Some (taken t s) =
              subst (λ k. slice_get (slice_set tallies own (taken t s)) k ≡ Some (taken t s)) same (set_same tallies own (taken t s) (slice_get_within tallies own t t_at))
              in
              let one : taken t s ≡ u = cc in
              subst (λ k. IsTallied after k u) same (subst (λ z. IsTallied after own z) one (own_tally t (are own t t_at)))
          | inr other ↦ other_tally component other u (are component u (sym (set_other tallies own component (taken t s) other) ∙ u_at))
        ]

    module _ (t : Tally) (is : IsTallied fired own t) where
      -- an event of the component that starts in the same cycle is of the same core, where the last one is
      core_of : ties t.last s ≡ false → HaveNoTie fired → (y : FiredEvent) → Contains fired y → y.event.component ≡ own → y.start ≡ x.start → y.event.core ≡ x.event.core
      core_of untied none y m of same =
          elim (some_or_none t.last) [
            | inl gone ↦ absurd (is.none gone y m of)
            | inr d ↦
                let l : IsLastOf fired own d.0 = is.last d.0 d.1 in
                let start : l.event.start ≡ x.start = omega (arith, l.latest y m of, order l.event l.there, same) in
                let last_start : d.0.start ≡ s.start = ap (λ (z : Served). z.start) l.is ∙ (start ∙ sym (ap (λ (z : Served). z.start) s_is)) in
                let core : d.0.core ≡ s.core = same_core d.0 s (sym (ap (λ o. ties o s) d.1) ∙ untied) last_start in
                none y l.event m l.there (of ∙ sym l.here) (same ∙ sym start)
                ∙ (sym (ap (λ (z : Served). z.core) l.is) ∙ (core ∙ ap (λ (z : Served). z.core) s_is))
          ]

      pub no_tie : ties t.last s ≡ false → HaveNoTie fired → HaveNoTie after
      no_tie untied none y z my mz component start =
          elim (cases y my) [
            | inl old_y ↦ elim (cases z mz) [
              | inl old_z ↦ none y z old_y old_z component start
              | inr same ↦
                  core_of untied none y old_y (component ∙ sym (ap (λ (w : FiredEvent). w.event.component) same)) (start ∙ sym (ap (λ (w : FiredEvent). w.start) same))
                  ∙ ap (λ (w : FiredEvent). w.event.core) same
            ]
            | inr same_y ↦ elim (cases z mz) [
              | inl old_z ↦
                  sym (core_of untied none z old_z (sym component ∙ sym (ap (λ (w : FiredEvent). w.event.component) same_y)) (sym start ∙ sym (ap (λ (w : FiredEvent). w.start) same_y))
                  ∙ ap (λ (w : FiredEvent). w.event.core) same_y)
              | inr same_z ↦ ap (λ (w : FiredEvent). w.event.core) (sym same_y ∙ same_z)
            ]
          ]

      pub tie : ties t.last s ≡ true → HaveTie after
      tie tied =
          elim (some_or_none t.last) [
            | inl gone ↦ absurd (let none : false ≡ true = sym (ap (λ o. ties o s) gone) ∙ tied in false≢true none)
            | inr d ↦
                let l : IsLastOf fired own d.0 = is.last d.0 d.1 in
                let m : (d.0.start ≡ s.start) × (d.0.core ≡ s.core → ⊥) = meets d.0 s (sym (ap (λ o. ties o s) d.1) ∙ tied) in
                record {
                  one = l.event;
                  other = x;
                  one_there = still l.event l.there;
                  other_there = there_now;
                  component = l.here;
                  start = sym (ap (λ (z : Served). z.start) l.is) ∙ (m.0 ∙ ap (λ (z : Served). z.start) s_is);
                  cores = λ same. m.1 (ap (λ (z : Served). z.core) l.is ∙ (same ∙ sym (ap (λ (z : Served). z.core) s_is)));
                }
          ]

-- ---- before the first event

pub none_tallied : (tallies : List Tally) → ((component : ℕ) (t : Tally) → slice_get tallies component ≡ Some t → (t.count ≡ no_comp_count) × (t.last ≡ None)) → AreTallied [] tallies
none_tallied tallies empty component t at =
    let e : (t.count ≡ no_comp_count) × (t.last ≡ None) = empty component t at in
    record {
      count = e.0;
      none = λ gone y m of. absurd (omega (arith, m.1));
      last = λ d d_is. absurd (let none : None ≡ Some d = sym e.1 ∙ d_is in cc);
    }

pub none_tie : HaveNoTie []
none_tie y z my mz component start = absurd (omega (arith, my.1))

-- the events that fired first are among all
pub tie_of_first : (all fired : List FiredEvent) (n : ℕ) → fired ≡ take n all → HaveTie fired → HaveTie all
tie_of_first all fired n is tie =
    let among : (y : FiredEvent) → Contains fired y → Contains all y =
    λ y m.
    let whole : fired ++ drop n all ≡ all = ap (λ zs. zs ++ drop n all) is ∙ take-append-drop n all in
    subst (λ zs. Contains zs y) whole (contains_in y (fired ++ drop n all) (in_left y fired (drop n all) (in_contains y fired m)))
    in
    record { one = tie.one; other = tie.other; one_there = among tie.one tie.one_there; other_there = among tie.other tie.other_there; component = tie.component; start = tie.start; cores = tie.cores }
