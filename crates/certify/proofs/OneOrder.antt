-- Two lists of events in order, of the same events, are one. So the weave fires its events in the order of their starts.
use Rattle.std.proofs.Common.{◌≡◌, ◌<◌, ◌==◌, ℕ, zero, suc, Bool, false, List, [], ◌∷◌, length, map, get_or, Option, Some, None, refl, ap, sym, ◌∙◌, subst, inl, inr, arith, true≢false}
use Rattle.std.specs.Prelude.{IsTrue, slice_get}
use Rattle.std.specs.List.{Contains, IsDistinct}
use Rattle.std.specs.List.Sorted.{IsPermutation}
use Rattle.std.specs.Option.{option_map}
use Rattle.std.proofs.lemmas.Bool.{cases_eq, cases_lt, eq-eqb, ne_eqb}
use Rattle.std.proofs.lemmas.Bool.Decides.{nat_tests}
use Rattle.std.proofs.lemmas.List.{length-map}
use Rattle.std.proofs.lemmas.List.Sorted.{Contains-permutation, IsPermutation-sym}
use Rattle.std.proofs.lemmas.Map.Keys.{IsDistinct-IsPermutation, IsDistinct-from_apart, apart_from_distinct}
use Rattle.std.proofs.lemmas.Option.{get_or_from_slice_get, slice_get-get_or, slice_get-map, slice_get_within}
use Rattle.component.specs.declared.comp.Comp.{Comp}
use Rattle.event_graph.specs.declared.event.Event.{Event}
use Rattle.event_graph.specs.Numbered.{IsNumbered}
use Rattle.event_graph.specs.OneListWeave.{FiredEvent, find_fired, fired_event_in, fired_or_unfired, is_event_before}
use Rattle.event_graph.specs.TimingSolution.{IsInOrder}
use Rattle.zs_num.specs.declared.time.Key.{Key}
use Rattle.certify.specs.Records.{AreRecords, key_of}
use Rattle.certify.specs.Verdict.{in_order}
use Rattle.certify.proofs.AllServed.{same_by_get}
use Rattle.certify.proofs.InOrder.{order_moves}
use Rattle.certify.proofs.KeyOrder.{AreInOrder, IsFirst, same_order}
use Rattle.certify.proofs.Lists.{among_mapped, among_them, at_place, mapped}
use Rattle.certify.proofs.Places.{number_at}
use Rattle.certify.proofs.Sorting.{in_order_keys}

-- ---- two lists in order

first_of_all : (x : FiredEvent) (ys : List FiredEvent) → ((j : ℕ) (d : FiredEvent) → j < length ys → IsTrue (is_event_before x.event x.start (get_or ys j d).event (get_or ys j d).start)) → IsFirst (key_of x) (map key_of ys)
first_of_all x [] before = tt
first_of_all x (y ∷ ys) before = (before 0 y (omega arith), first_of_all x ys (λ j d below. before (suc j) d (omega (arith, below))))

keys_from : (xs : List FiredEvent) → IsInOrder xs → AreInOrder (map key_of xs)
keys_from [] order = tt
keys_from (x ∷ xs) order = (
  first_of_all x xs (λ j d below. order 0 (suc j) d (omega arith) (omega (arith, below))),
  keys_from xs (λ i j d below within. order (suc i) (suc j) d (omega (arith, below)) (omega (arith, within))),
)

same_keys : (xs ys : List FiredEvent) → ((x : FiredEvent) → Contains xs x → Contains ys x) → (key : Key) → Contains (map key_of xs) key → Contains (map key_of ys) key
same_keys xs ys to key among =
    let x = mapped key_of xs among.0 key (at_place (map key_of xs) key among) in
    subst (Contains (map key_of ys)) x.2 (among_mapped key_of ys x.0 (to x.0 (among_them xs among.0 x.0 x.1)))

-- events with the same keys, of which no two have one number
same_events : (xs ys : List FiredEvent) → ((x y : FiredEvent) → Contains xs x → Contains ys y → x.event.number ≡ y.event.number → x ≡ y) → map key_of xs ≡ map key_of ys → xs ≡ ys
same_events xs ys one same = same_by_get xs ys (λ i. by_keys i (slice_get xs i) (slice_get ys i) refl refl
    (sym (slice_get-map key_of xs i) ∙ (ap (λ ks. slice_get ks i) same ∙ slice_get-map key_of ys i)))
  where
    by_keys : (i : ℕ) (o p : Option FiredEvent) → slice_get xs i ≡ o → slice_get ys i ≡ p → option_map key_of o ≡ option_map key_of p → o ≡ p
    by_keys i None None at there is = refl
    by_keys i None (Some y) at there is = cc
    by_keys i (Some x) None at there is = cc
    by_keys i (Some x) (Some y) at there is =
        let keys : key_of x ≡ key_of y = cc in
        ap Some (one x y (among_them xs i x at) (among_them ys i y there) (ap (λ (k : Key). k.number) keys))

module _ (comps : List Comp) (timed : List FiredEvent) (records : List ℕ) (are : AreRecords comps timed records) where
  one_of : (x y : FiredEvent) → Contains timed x → Contains timed y → x.event.number ≡ y.event.number → x ≡ y
  one_of x y a b same =
      let first = at_place timed x a in
      let second = at_place timed y b in
      let places : a.0 ≡ b.0 = sym (number_at comps timed records a.0 x are first) ∙ (same ∙ number_at comps timed records b.0 y are second) in
      let there : slice_get timed b.0 ≡ Some x = sym (ap (slice_get timed) places) ∙ first in
      cc

  -- a list in order of the same events is theirs
  pub in_order_is : (xs : List FiredEvent) → IsInOrder xs → ((x : FiredEvent) → Contains xs x → Contains timed x) → ((x : FiredEvent) → Contains timed x → Contains xs x) → xs ≡ in_order timed
  in_order_is xs order to from =
      let moves = order_moves timed in
      let back = IsPermutation-sym timed (in_order timed) moves in
      same_events xs (in_order timed)
      (λ x y a b same. one_of x y (to x a) (Contains-permutation (in_order timed) timed y back b) same)
      (same_order (map key_of xs) (map key_of (in_order timed)) (keys_from xs order) (in_order_keys comps timed records are)
      (same_keys xs (in_order timed) (λ x m. Contains-permutation timed (in_order timed) x moves (to x m)))
      (same_keys (in_order timed) xs (λ x m. from x (Contains-permutation (in_order timed) timed x back m))))

-- ---- the events of a graph that fired once each

abbrev pub have_same_number : Event → Event → Bool
have_same_number a b = a.number == b.number

same_number_flips : (a b : Event) → have_same_number a b ≡ have_same_number b a
same_number_flips a b = grind (arith, nat_tests)

-- the one event of a number is found
found_first : (xs : List FiredEvent) (number k : ℕ) (x : FiredEvent) → slice_get xs k ≡ Some x → x.event.number ≡ number
    → ((j : ℕ) (y : FiredEvent) → slice_get xs j ≡ Some y → y.event.number ≡ number → y ≡ x) → find_fired xs number ≡ Some x
found_first [] number k x is own one = cc
found_first (y ∷ ys) number zero x is own one =
    let same : y ≡ x = cc in
    rw (eq-eqb y.event.number number (ap (λ (z : FiredEvent). z.event.number) same ∙ own)) is
found_first (y ∷ ys) number (suc k) x is own one =
    let rest = found_first ys number k x is own (λ j z at. one (suc j) z at) in
    elim (cases_eq y.event.number number) [
      | inl same ↦ rw (eq-eqb y.event.number number same) (ap Some (one 0 y refl same))
      | inr other ↦ rw (ne_eqb y.event.number number other) rest
    ]

module _ (events : List Event) (fired : List FiredEvent) (numbered : IsNumbered events) (once : IsPermutation events (map (λ (x : FiredEvent). x.event) fired)) where
  events_apart : IsDistinct have_same_number events
  events_apart = IsDistinct-from_apart have_same_number events (λ i j d below within.
      let first : slice_get events i ≡ Some (get_or events i d) = slice_get-get_or events i d (omega (arith, below, within)) in
      let second : slice_get events j ≡ Some (get_or events j d) = slice_get-get_or events j d within in
      ne_eqb (get_or events i d).number (get_or events j d).number
      (λ same. absurd (omega (arith, same, below, numbered.number i (get_or events i d) first, numbered.number j (get_or events j d) second))))

  fired_apart : IsDistinct have_same_number (map (λ (x : FiredEvent). x.event) fired)
  fired_apart = IsDistinct-IsPermutation have_same_number same_number_flips events (map (λ (x : FiredEvent). x.event) fired) once events_apart

  apart_at : (i j : ℕ) (x y : FiredEvent) → i < j → slice_get fired i ≡ Some x → slice_get fired j ≡ Some y → x.event.number ≡ y.event.number → ⊥
  apart_at i j x y below first second same =
      let es : List Event = map (λ (z : FiredEvent). z.event) fired in
      let here : get_or es i x.event ≡ x.event = get_or_from_slice_get es i x.event x.event (slice_get-map (λ (z : FiredEvent). z.event) fired i ∙ ap (option_map (λ (z : FiredEvent). z.event)) first) in
      let there : get_or es j x.event ≡ y.event = get_or_from_slice_get es j y.event x.event (slice_get-map (λ (z : FiredEvent). z.event) fired j ∙ ap (option_map (λ (z : FiredEvent). z.event)) second) in
      let test : have_same_number (get_or es i x.event) (get_or es j x.event) ≡ false =
      apart_from_distinct have_same_number es i j x.event fired_apart below (omega (arith, slice_get_within fired j y second, length-map fired (λ (z : FiredEvent). z.event))) in
      let tested : have_same_number x.event y.event ≡ false = ap (λ e. have_same_number e y.event) (sym here) ∙ (ap (have_same_number (get_or es i x.event)) (sym there) ∙ test) in
      true≢false (sym (eq-eqb x.event.number y.event.number same) ∙ tested)

  one_fired : (i j : ℕ) (x y : FiredEvent) → slice_get fired i ≡ Some x → slice_get fired j ≡ Some y → x.event.number ≡ y.event.number → x ≡ y
  one_fired i j x y first second same =
      elim (cases_eq i j) [
        | inl places ↦ (let there : slice_get fired j ≡ Some x = sym (ap (slice_get fired) places) ∙ first in cc)
        | inr other ↦ elim (cases_lt i j) [
          | inl below ↦ absurd (apart_at i j x y below first second same)
          | inr above ↦ absurd (apart_at j i y x (omega (arith, above, other)) second first (sym same))
        ]
      ]

  found_fired : (k : ℕ) (x : FiredEvent) → slice_get fired k ≡ Some x → fired_event_in fired x.event ≡ x
  found_fired k x is = ap (fired_or_unfired x.event) (found_first fired x.event.number k x is refl (λ j y at same. one_fired j k y x at is same))

  -- what fired is what the weave answers
  pub fired_are_answered : (x : FiredEvent) → Contains fired x → Contains (map (fired_event_in fired) events) x
  fired_are_answered x among =
      let event = Contains-permutation (map (λ (z : FiredEvent). z.event) fired) events x.event (IsPermutation-sym events (map (λ (z : FiredEvent). z.event) fired) once)
      (among_mapped (λ (z : FiredEvent). z.event) fired x among) in
      subst (Contains (map (fired_event_in fired) events)) (found_fired among.0 x (at_place fired x among)) (among_mapped (fired_event_in fired) events x.event event)

  pub answered_are_fired : (y : FiredEvent) → Contains (map (fired_event_in fired) events) y → Contains fired y
  answered_are_fired y among =
      let e = mapped (fired_event_in fired) events among.0 y (at_place (map (fired_event_in fired) events) y among) in
      let event = Contains-permutation events (map (λ (z : FiredEvent). z.event) fired) e.0 once (among_them events among.0 e.0 e.1) in
      let x = mapped (λ (z : FiredEvent). z.event) fired event.0 e.0 (at_place (map (λ (z : FiredEvent). z.event) fired) e.0 event) in
      let same : x.0 ≡ y = sym (found_fired event.0 x.0 x.1) ∙ (ap (fired_event_in fired) x.2 ∙ e.2) in
      subst (Contains fired) same (among_them fired event.0 x.0 x.1)
