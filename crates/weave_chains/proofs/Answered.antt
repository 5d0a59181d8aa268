-- What the weave answers has the events as they fired.
use Rattle.std.proofs.Common.{◌≡◌, ◌<◌, ◌≤◌, ℕ, true, false, List, map, get_or, Some, inl, inr, sym, ◌∙◌, ap, subst, refl, arith}
use Rattle.std.specs.Prelude.{IsTrue, slice_get}
use Rattle.std.specs.List.{Contains}
use Rattle.std.specs.List.Sorted.{IsPermutation}
use Rattle.std.proofs.lemmas.Bool.{cases_eq, cases_lt, false≢true}
use Rattle.std.proofs.lemmas.Bool.Decides.{nat_tests}
use Rattle.std.proofs.lemmas.List.Sorted.{Contains-permutation, IsPermutation-map, IsPermutation-sym}
use Rattle.std.proofs.lemmas.Option.{get_or_from_slice_get, slice_get_within}
use Rattle.component.specs.declared.kind.Kind.{Kind}
use Rattle.event_graph.specs.declared.event.Event.{Event}
use Rattle.event_graph.specs.Firing.{FiredByTheRules}
use Rattle.event_graph.specs.Numbered.{IsNumbered}
use Rattle.event_graph.specs.OneListWeave.{FiredEvent, finish_in, fired_event_in, fired_or_unfired, is_event_before, is_fired, start_of, weave, woven}
use Rattle.event_graph.specs.TimingSolution.{IsInOrder}
use Rattle.event_graph.proofs.FindFired.{IsOneEach, find_from_in, is_fired_from_in}
use Rattle.event_graph.proofs.Least.{same_event}
use Rattle.event_graph.proofs.Lists.{In, contains_in, from_map, in_at, in_contains, in_map, map_itself, map_map}

not_before_itself : (a : Event) (s : ℕ) → is_event_before a s a s ≡ false
not_before_itself a s = grind (arith, nat_tests)

above : (i j : ℕ) → j ≤ i → (i ≡ j → ⊥) → j < i
above i j not other = elim (cases_lt j i) [ inl less ↦ less | inr low ↦ absurd (other (omega (arith, not, low))) ]

abbrev Before : FiredEvent → FiredEvent → Type 0
Before x y = IsTrue (is_event_before x.event x.start y.event y.start)

-- two in a strict order that are not apart are one
module _ (xs : List FiredEvent) (order : IsInOrder xs) (x y : FiredEvent) (event : x.event ≡ y.event) (start : x.start ≡ y.start) where
  never : Before x y → ⊥
  never b =
      let itself : is_event_before x.event x.start x.event x.start ≡ true =
      subst (λ s. is_event_before x.event x.start x.event s ≡ true) (sym start) (subst (λ e. is_event_before x.event x.start e y.start ≡ true) (sym event) b)
      in
      false≢true (sym (not_before_itself x.event x.start) ∙ itself)

  never_back : Before y x → ⊥
  never_back b =
      let itself : is_event_before x.event x.start x.event x.start ≡ true =
      subst (λ s. is_event_before x.event s x.event x.start ≡ true) (sym start) (subst (λ e. is_event_before e y.start x.event x.start ≡ true) (sym event) b)
      in
      false≢true (sym (not_before_itself x.event x.start) ∙ itself)

  by_places : (i j : ℕ) → slice_get xs i ≡ Some x → slice_get xs j ≡ Some y → x ≡ y
  by_places i j x_at y_at =
      elim (cases_eq i j) [
        | inl same ↦ (let here : slice_get xs j ≡ Some x = subst (λ k. slice_get xs k ≡ Some x) same x_at in cc)
        | inr other ↦ elim (cases_lt i j) [
          | inl less ↦
              let b : Before (get_or xs i x) (get_or xs j x) = order i j x less (slice_get_within xs j y y_at) in
              absurd (never (subst (λ z. Before z y) (get_or_from_slice_get xs i x x x_at) (subst (λ z. Before (get_or xs i x) z) (get_or_from_slice_get xs j y x y_at) b)))
          | inr not ↦
              let less : j < i = above i j not other in
              let b : Before (get_or xs j x) (get_or xs i x) = order j i x less (slice_get_within xs i x x_at) in
              absurd (never_back (subst (λ z. Before y z) (get_or_from_slice_get xs i x x x_at) (subst (λ z. Before z (get_or xs i x)) (get_or_from_slice_get xs j y x y_at) b)))
        ]
      ]

abbrev event_of : FiredEvent → Event
event_of x = x.event

module _ (events : List Event) (fired : List FiredEvent) (once : IsPermutation events (map (λ (x : FiredEvent). x.event) fired)) where
  fired_as : (e : Event) → In e events → (x : FiredEvent) × (In x fired × (x.event ≡ e))
  fired_as e m = from_map event_of e fired (in_contains e (map event_of fired) (Contains-permutation events (map event_of fired) e once (contains_in e events m)))

  pub all_fired : (e : Event) → In e events → is_fired fired e.number ≡ true
  all_fired e m =
      let x : (x : FiredEvent) × (In x fired × (x.event ≡ e)) = fired_as e m in
      is_fired_from_in fired x.0 e.number x.1.0 (ap (λ (z : Event). z.number) x.1.1)

module _ (events : List Event) (numbered : IsNumbered events) (fired : List FiredEvent) (once : IsPermutation events (map (λ (x : FiredEvent). x.event) fired)) (order : IsInOrder fired)
    (rules : (x : FiredEvent) → Contains fired x → FiredByTheRules events fired x) where
  among : (x : FiredEvent) → In x fired → In x.event events
  among x m =
      in_contains x.event events (Contains-permutation (map event_of fired) events x.event (IsPermutation-sym events (map event_of fired) once) (contains_in x.event (map event_of fired) (in_map event_of x fired m)))

  one_each : IsOneEach fired
  one_each x y mx my number =
      let event : x.event ≡ y.event = same_event events numbered x.event y.event (among x mx) (among y my) number in
      let start : x.start ≡ y.start =
      (rules x (contains_in x fired mx)).start ∙ (ap (start_of (finish_in fired)) event ∙ sym (rules y (contains_in y fired my)).start)
      in
      let i : (i : ℕ) × (slice_get fired i ≡ Some x) = in_at x fired mx in
      let j : (j : ℕ) × (slice_get fired j ≡ Some y) = in_at y fired my in
      by_places fired order x y event start i.0 j.0 i.1 j.1

  answer : (x : FiredEvent) → In x fired → fired_event_in fired x.event ≡ x
  answer x m = ap (λ o. fired_or_unfired x.event o) (find_from_in fired one_each x x.event.number m refl)

  pub as_fired : IsPermutation (map (fired_event_in fired) events) fired
  as_fired =
      subst (λ zs. IsPermutation (map (fired_event_in fired) events) zs) (map_map event_of (fired_event_in fired) fired ∙ map_itself (λ x. fired_event_in fired x.event) fired answer)
      (IsPermutation-map (fired_event_in fired) events (map event_of fired) once)

pub woven_is : {C : Type 0} (stepped : C → Kind → ℕ → C × ℕ) (events : List Event) (comps : List C) → woven stepped events comps ≡ map (fired_event_in (weave stepped events comps).fired) events
unfolding woven
woven_is stepped events comps = refl
