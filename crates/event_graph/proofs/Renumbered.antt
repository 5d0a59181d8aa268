-- The weave of events under other numbers.
use Rattle.std.proofs.Common.{sum_by, ◌≡◌, ◌+◌, ◌<◌, ◌==◌, ℕ, suc, Bool, true, List, [], ◌∷◌, map, length, inl, inr, Option, Some, None, sym, ◌∙◌, ap, subst, refl, arith}
use Rattle.std.specs.Prelude.{IsTrue, slice_get}
use Rattle.std.specs.List.{Contains}
use Rattle.std.specs.Option.{option_map}
use Rattle.std.proofs.lemmas.Bool.{eqb-true}
use Rattle.std.proofs.lemmas.List.Sums.{sum_by-cons}
use Rattle.component.specs.declared.kind.Kind.{Kind}
use Rattle.event_graph.specs.declared.event.Event.{Event}
use Rattle.event_graph.specs.declared.event.Parent.{Parent}
use Rattle.event_graph.specs.ComponentOrders.{ServesItsEvents}
use Rattle.event_graph.specs.Fits.{EventFits, GraphFits}
use Rattle.event_graph.specs.Numbered.{IsNumbered}
use Rattle.event_graph.specs.OneListWeave.{FiredEvent, after_parent, comps_after, fired_event_in, fired_or_unfired, finish_in, finish_or_zero, start_of, weave, woven}
use Rattle.event_graph.specs.Renumbering.{AreAlikeAtTies, AreRenumbered, HaveTheTimesOf, renumbered, renumbered_fired, renumbered_parent}
use Rattle.event_graph.specs.ServedEvents.{after_serving, of_component}
use Rattle.event_graph.specs.TimingSolution.{IsSolution, ServesInTurn}
use Rattle.event_graph.proofs.BetweenFirings.{IsLawful}
use Rattle.event_graph.proofs.ByComponent.{AreApart, Before, Climbs, apart_from, filter_apart, from_sorted, in_sorted, sorted_climbs, sorted_of, sum_sorted, climbs_pairs, filter_climbs, is_solution, numbers_are, pairs_climb, same_climb}
use Rattle.event_graph.proofs.FindFired.{IsOneEach, find_from_in}
use Rattle.event_graph.proofs.Fitting.{own_events}
use Rattle.event_graph.proofs.Lists.{In, contains_in, from_filter, from_map, get_some, get_within, in_at, at_in, in_contains, in_filter, in_map, map_itself, map_map}
use Rattle.event_graph.proofs.Order.{before_by_number, before_by_start, before_cases}
use Rattle.event_graph.proofs.Solves.{solves, solves-sorted}
use Rattle.event_graph.proofs.Theorem.{served_from}
use Rattle.event_graph.proofs.Unique.{is_woven}

abbrev is_of : (number : ℕ) → FiredEvent → Bool
is_of number x = x.event.component == number

pub get_ext : {X : Type 0} (xs ys : List X) → ((i : ℕ) → slice_get xs i ≡ slice_get ys i) → xs ≡ ys
get_ext [] [] h = refl
get_ext [] (y ∷ ys) h = absurd (let e : None ≡ Some y = h 0 in cc)
get_ext (x ∷ xs) [] h = absurd (let e : Some x ≡ None = h 0 in cc)
get_ext (x ∷ xs) (y ∷ ys) h =
    let head : Some x ≡ Some y = h 0 in
    let tail : xs ≡ ys = get_ext xs ys (λ i. h (suc i)) in
    cc

-- ---- lists under other numbers

module _ (to : ℕ → ℕ) where
  climbs_map : (xs : List FiredEvent) → Climbs xs → ((x y : FiredEvent) → In x xs → In y xs → Before x y → Before (renumbered_fired to x) (renumbered_fired to y)) → Climbs (map (renumbered_fired to) xs)
  climbs_map [] h keeps = tt
  climbs_map (x ∷ xs) h keeps = (
    λ z m.
        let r : (y : FiredEvent) × (In y xs × (renumbered_fired to y ≡ z)) = from_map (renumbered_fired to) z xs m in
        subst (λ k. Before (renumbered_fired to x) k) r.1.1 (keeps x r.0 (inl refl) (inr r.1.0) (h.0 r.0 r.1.0)),
    climbs_map xs h.1 (λ y z m n. keeps y z (inr m) (inr n)),
  )

  module _ {C : Type 0} (stepped : C → Kind → ℕ → C × ℕ) where
    turns_map : (c : C) (xs : List FiredEvent) → ServesInTurn stepped c xs → ServesInTurn stepped c (map (renumbered_fired to) xs)
    turns_map c [] h = tt
    turns_map c (x ∷ xs) h = (h.0, turns_map (stepped c x.event.kind x.start).0 xs h.1)

    after_map : (c : C) (xs : List FiredEvent) → after_serving stepped c (map (renumbered_fired to) xs) ≡ after_serving stepped c xs
    after_map c [] = refl
    after_map c (x ∷ xs) = after_map (stepped c x.event.kind x.start).0 xs

sum_map : (to : ℕ → ℕ) (weight : FiredEvent → ℕ) → ((x : FiredEvent) → weight (renumbered_fired to x) ≡ weight x) → (xs : List FiredEvent) → sum_by weight (map (renumbered_fired to) xs) ≡ sum_by weight xs
sum_map to weight same [] = refl
sum_map to weight same (x ∷ xs) =
    sum_by-cons weight (renumbered_fired to x) (map (renumbered_fired to) xs)
    ∙ (ap (λ n. n + sum_by weight (map (renumbered_fired to) xs)) (same x)
    ∙ (ap (λ n. weight x + n) (sum_map to weight same xs) ∙ sym (sum_by-cons weight x xs)))

module _ {C : Type 0} (serves : C → Kind → Bool) (floor : C → Kind → ℕ) (stepped : C → Kind → ℕ → C × ℕ) (lawful : IsLawful serves stepped)
    (floor_stays : (c : C) (kind : Kind) (start : ℕ) (other : Kind) → IsTrue (serves c kind) → floor (stepped c kind start).0 other ≡ floor c other)
    (to : ℕ → ℕ) (events others : List Event) (comps : List C) (numbered : IsNumbered events) (other_numbers : IsNumbered others)
    (fits : GraphFits serves floor events comps) (re : AreRenumbered to events others) (ties : AreAlikeAtTies to (woven stepped events comps)) where
  abbrev first_timed : List FiredEvent
  first_timed = woven stepped events comps

  abbrev sol : IsSolution stepped events comps first_timed
  sol = solves serves stepped events comps lawful numbered (served_from serves floor stepped events comps fits)

  -- the other events fit, too
  others_fit : GraphFits serves floor others comps
  others_fit i o at =
      let e : (e : Event) × (Contains events e × (o ≡ renumbered to e)) = re.no_other o (contains_in o others (at_in o others i at)) in
      let k : (j : ℕ) × (slice_get events j ≡ Some e.0) = in_at e.0 events (in_contains e.0 events e.1.0) in
      let f : EventFits serves floor comps e.0 = fits k.0 e.0 k.1 in
      subst (λ t. EventFits serves floor comps t) (sym e.1.1) (record { component = f.component; there = f.there; served = f.served; floor_is = f.floor_is })

  of_event : (e : Event) → In e events → (x : FiredEvent) × (In x first_timed × (x.event ≡ e))
  of_event e m = from_map (λ (z : FiredEvent). z.event) e first_timed (subst (λ es. In e es) (sym sol.events_are) m)

  event_of : (x : FiredEvent) → In x first_timed → In x.event events
  event_of x m = subst (λ es. In x.event es) sol.events_are (in_map (λ (z : FiredEvent). z.event) x first_timed m)

  below : (e : Event) → In e events → e.number < length events
  below e m = let a : (i : ℕ) × (slice_get events i ≡ Some e) = in_at e events m in omega (arith, get_within events a.0 e a.1, numbered.number a.0 e a.1)

  one_each : IsOneEach first_timed
  one_each x y mx my q =
      let a : (i : ℕ) × (slice_get first_timed i ≡ Some x) = in_at x first_timed mx in
      let b : (i : ℕ) × (slice_get first_timed i ≡ Some y) = in_at y first_timed my in
      let same : a.0 ≡ b.0 = sym (numbers_are events first_timed numbered sol.events_are a.0 x a.1) ∙ (q ∙ numbers_are events first_timed numbered sol.events_are b.0 y b.1) in
      let k : slice_get first_timed b.0 ≡ Some x = subst (λ i. slice_get first_timed i ≡ Some x) same a.1 in
      let l : slice_get first_timed b.0 ≡ Some y = b.1 in
      cc

  same_numbers : (x y : FiredEvent) → In x first_timed → In y first_timed → to x.event.number ≡ to y.event.number → x ≡ y
  same_numbers x y mx my q =
      one_each x y mx my (re.apart x.event.number y.event.number (below x.event (event_of x mx)) (below y.event (event_of y my)) q)

  abbrev renamed : List FiredEvent
  renamed = map (renumbered_fired to) first_timed

  renamed_each : IsOneEach renamed
  renamed_each x y mx my q =
      let a : (z : FiredEvent) × (In z first_timed × (renumbered_fired to z ≡ x)) = from_map (renumbered_fired to) x first_timed mx in
      let b : (z : FiredEvent) × (In z first_timed × (renumbered_fired to z ≡ y)) = from_map (renumbered_fired to) y first_timed my in
      let number : to a.0.event.number ≡ to b.0.event.number = ap (λ (z : FiredEvent). z.event.number) a.1.1 ∙ (q ∙ ap (λ (z : FiredEvent). z.event.number) (sym b.1.1)) in
      sym a.1.1 ∙ (ap (renumbered_fired to) (same_numbers a.0 b.0 a.1.0 b.1.0 number) ∙ b.1.1)

  abbrev answer : Event → FiredEvent
  answer o = fired_event_in renamed o

  answers : (x : FiredEvent) (o : Event) → In x first_timed → o ≡ renumbered to x.event → answer o ≡ renumbered_fired to x
  answers x o m is =
      ap (λ t. fired_or_unfired o t) (find_from_in renamed renamed_each (renumbered_fired to x) o.number (in_map (renumbered_fired to) x first_timed m) (ap (λ (e : Event). e.number) (sym is)))

  found : (o : Event) → In o others → (x : FiredEvent) × (In x first_timed × (o ≡ renumbered to x.event))
  found o m =
      let e : (e : Event) × (Contains events e × (o ≡ renumbered to e)) = re.no_other o (contains_in o others m) in
      let x : (x : FiredEvent) × (In x first_timed × (x.event ≡ e.0)) = of_event e.0 (in_contains e.0 events e.1.0) in
      (x.0, (x.1.0, e.1.1 ∙ ap (renumbered to) (sym x.1.1)))

  abbrev other_timed : List FiredEvent
  other_timed = map answer others

  from_other : (z : FiredEvent) → In z other_timed → (x : FiredEvent) × (In x first_timed × (z ≡ renumbered_fired to x))
  from_other z m =
      let o : (o : Event) × (In o others × (answer o ≡ z)) = from_map answer z others m in
      let x : (x : FiredEvent) × (In x first_timed × (o.0 ≡ renumbered to x.event)) = found o.0 o.1.0 in
      (x.0, (x.1.0, sym o.1.1 ∙ answers x.0 o.0 x.1.0 x.1.1))

  to_other : (x : FiredEvent) → In x first_timed → In (renumbered_fired to x) other_timed
  to_other x m =
      let o : In (renumbered to x.event) others = in_contains (renumbered to x.event) others (re.there x.event (contains_in x.event events (event_of x m))) in
      subst (λ z. In z other_timed) (answers x (renumbered to x.event) m refl) (in_map answer (renumbered to x.event) others o)

  other_events : map (λ (x : FiredEvent). x.event) other_timed ≡ others
  other_events =
      map_map answer (λ (x : FiredEvent). x.event) others
      ∙ map_itself (λ o. (answer o).event) others
      (λ o m.
      let x : (x : FiredEvent) × (In x first_timed × (o ≡ renumbered to x.event)) = found o m in
      ap (λ (z : FiredEvent). z.event) (answers x.0 o x.1.0 x.1.1) ∙ sym x.1.1)

  other_each : IsOneEach other_timed
  other_each x y mx my q =
      let a : (z : FiredEvent) × (In z first_timed × (x ≡ renumbered_fired to z)) = from_other x mx in
      let b : (z : FiredEvent) × (In z first_timed × (y ≡ renumbered_fired to z)) = from_other y my in
      let number : to a.0.event.number ≡ to b.0.event.number = ap (λ (z : FiredEvent). z.event.number) (sym a.1.1) ∙ (q ∙ ap (λ (z : FiredEvent). z.event.number) b.1.1) in
      a.1.1 ∙ (ap (renumbered_fired to) (same_numbers a.0 b.0 a.1.0 b.1.0 number) ∙ sym b.1.1)

  finish_same : (n : ℕ) → n < length events → finish_in other_timed (to n) ≡ finish_in first_timed n
  finish_same n within =
      let e : (e : Event) × (slice_get events n ≡ Some e) = get_some events n within in
      let number : e.0.number ≡ n = numbered.number n e.0 e.1 in
      let x : (x : FiredEvent) × (In x first_timed × (x.event ≡ e.0)) = of_event e.0 (at_in e.0 events n e.1) in
      let is : x.0.event.number ≡ n = ap (λ (z : Event). z.number) x.1.1 ∙ number in
      ap finish_or_zero (find_from_in other_timed other_each (renumbered_fired to x.0) (to n) (to_other x.0 x.1.0) (ap to is))
      ∙ sym (ap finish_or_zero (find_from_in first_timed one_each x.0 n x.1.0 is))

  parent_same : (o : Option Parent) → ((p : Parent) → o ≡ Some p → p.number < length events) → after_parent (finish_in other_timed) (renumbered_parent to o) ≡ after_parent (finish_in first_timed) o
  parent_same None h = refl
  parent_same (Some p) h = ap (λ n. n + p.delay) (finish_same p.number (h p refl))

  start_same : (e : Event) → In e events → start_of (finish_in other_timed) (renumbered to e) ≡ start_of (finish_in first_timed) e
  start_same e m =
      let at : (i : ℕ) × (slice_get events i ≡ Some e) = in_at e events m in
      let within : at.0 < length events = get_within events at.0 e at.1 in
      let a : after_parent (finish_in other_timed) (renumbered_parent to e.first) ≡ after_parent (finish_in first_timed) e.first =
      parent_same e.first (λ p is. omega (arith, within, numbered.first at.0 e p at.1 is))
      in
      let b : after_parent (finish_in other_timed) (renumbered_parent to e.second) ≡ after_parent (finish_in first_timed) e.second =
      parent_same e.second (λ p is. omega (arith, within, numbered.second at.0 e p at.1 is))
      in
      cc

  other_starts : (x : FiredEvent) → Contains other_timed x → x.start ≡ start_of (finish_in other_timed) x.event
  other_starts x m =
      let y : (y : FiredEvent) × (In y first_timed × (x ≡ renumbered_fired to y)) = from_other x (in_contains x other_timed m) in
      subst (λ (z : FiredEvent). z.start ≡ start_of (finish_in other_timed) z.event) (sym y.1.1)
      (sol.starts y.0 (contains_in y.0 first_timed y.1.0) ∙ sym (start_same y.0.event (event_of y.0 y.1.0)))

  -- the events of a component in order of (start, number), and under their other numbers
  abbrev own : (number : ℕ) → List FiredEvent
  own number = of_component number sol.sorted

  own_climb : (number : ℕ) → Climbs (own number)
  own_climb number = filter_climbs (is_of number) sol.sorted (pairs_climb sol.sorted sol.in_order)

  from_own : (number : ℕ) (x : FiredEvent) → In x (own number) → In x first_timed × (is_of number x ≡ true)
  from_own number x m =
      let r : In x sol.sorted × (is_of number x ≡ true) = from_filter (is_of number) x sol.sorted m in
      (in_contains x first_timed ((sol.same x).0 (contains_in x sol.sorted r.0)), r.1)

  in_own : (number : ℕ) (x : FiredEvent) → In x first_timed → is_of number x ≡ true → In x (own number)
  in_own number x m is = in_filter (is_of number) x sol.sorted (in_contains x sol.sorted ((sol.same x).1 (contains_in x first_timed m))) is

  keeps_order : (number : ℕ) (x y : FiredEvent) → In x (own number) → In y (own number) → Before x y → Before (renumbered_fired to x) (renumbered_fired to y)
  keeps_order number x y mx my b =
      let a : In x first_timed × (is_of number x ≡ true) = from_own number x mx in
      let d : In y first_timed × (is_of number y ≡ true) = from_own number y my in
      let one : x.event.component ≡ y.event.component = eqb-true x.event.component number a.1 ∙ sym (eqb-true y.event.component number d.1) in
      elim (before_cases x.event x.start y.event y.start b) [
        | inl earlier ↦ before_by_start (renumbered to x.event) x.start (renumbered to y.event) y.start earlier
        | inr tie ↦
            before_by_number (renumbered to x.event) x.start (renumbered to y.event) y.start tie.0
            (ties x y (contains_in x first_timed a.0) (contains_in y first_timed d.0) one tie.0 tie.1)
      ]

  abbrev renumbered_own : (number : ℕ) → List FiredEvent
  renumbered_own number = map (renumbered_fired to) (own number)

  renumbered_climb : (number : ℕ) → Climbs (renumbered_own number)
  renumbered_climb number = climbs_map to (own number) (own_climb number) (keeps_order number)

  own_to : (number : ℕ) (z : FiredEvent) → In z (renumbered_own number) → In z other_timed × (is_of number z ≡ true)
  own_to number z m =
      let x : (x : FiredEvent) × (In x (own number) × (renumbered_fired to x ≡ z)) = from_map (renumbered_fired to) z (own number) m in
      let r : In x.0 first_timed × (is_of number x.0 ≡ true) = from_own number x.0 x.1.0 in
      subst (λ t. In t other_timed × (is_of number t ≡ true)) x.1.1 (to_other x.0 r.0, r.1)

  own_from : (number : ℕ) (z : FiredEvent) → In z other_timed → is_of number z ≡ true → In z (renumbered_own number)
  own_from number z m is =
      let x : (x : FiredEvent) × (In x first_timed × (z ≡ renumbered_fired to x)) = from_other z m in
      subst (λ t. In t (renumbered_own number)) (sym x.1.1)
      (in_map (renumbered_fired to) x.0 (own number) (in_own number x.0 x.1.0 (ap (is_of number) (sym x.1.1) ∙ is)))

  other_serves : (number : ℕ) (c : C) → slice_get comps number ≡ Some c → ServesItsEvents stepped c number other_timed
  other_serves number c there = record {
    sorted = renumbered_own number;
    in_order = climbs_pairs (renumbered_own number) (renumbered_climb number);
    same = λ z. (
      λ m. let r : In z other_timed × (is_of number z ≡ true) = own_to number z (in_contains z (renumbered_own number) m) in contains_in z (of_component number other_timed) (in_filter (is_of number) z other_timed r.0 r.1),
      λ m. let r : In z other_timed × (is_of number z ≡ true) = from_filter (is_of number) z other_timed (in_contains z (of_component number other_timed) m) in contains_in z (renumbered_own number) (own_from number z r.0 r.1),
    );
    finishes = turns_map to stepped c (own number) (sol.finishes number c there);
  }

  other_solution : IsSolution stepped others comps other_timed
  other_solution = is_solution stepped others comps other_numbers other_timed (record { events_are = other_events; starts = other_starts; serves = other_serves })

  other_woven : other_timed ≡ woven stepped others comps
  other_woven = is_woven serves stepped others comps lawful other_numbers (served_from serves floor stepped others comps others_fit) other_timed other_solution

  -- the weave of the others, on one component
  abbrev other_sol : IsSolution stepped others comps (woven stepped others comps)
  other_sol = solves serves stepped others comps lawful other_numbers (served_from serves floor stepped others comps others_fit)

  pub times_are : HaveTheTimesOf to first_timed (woven stepped others comps)
  times_are i x at =
      let m : In x first_timed = at_in x first_timed i at in
      let k : (n : ℕ) × (slice_get (woven stepped others comps) n ≡ Some (renumbered_fired to x)) =
      in_at (renumbered_fired to x) (woven stepped others comps) (subst (λ xs. In (renumbered_fired to x) xs) other_woven (to_other x m))
      in
      let number : to x.event.number ≡ k.0 = numbers_are others (woven stepped others comps) other_numbers other_sol.events_are k.0 (renumbered_fired to x) k.1 in
      let first : x.event.number ≡ i = numbers_are events first_timed numbered sol.events_are i x at in
      subst (λ n. slice_get (woven stepped others comps) n ≡ Some (renumbered_fired to x)) (sym number ∙ ap to first) k.1

  other_own : (number : ℕ) → of_component number other_sol.sorted ≡ renumbered_own number
  other_own number =
      same_climb (of_component number other_sol.sorted) (renumbered_own number) (filter_climbs (is_of number) other_sol.sorted (pairs_climb other_sol.sorted other_sol.in_order)) (renumbered_climb number)
      (λ z m.
      let r : In z other_sol.sorted × (is_of number z ≡ true) = from_filter (is_of number) z other_sol.sorted m in
      own_from number z (subst (λ xs. In z xs) (sym other_woven) (in_contains z (woven stepped others comps) ((other_sol.same z).0 (contains_in z other_sol.sorted r.0)))) r.1)
      (λ z m.
      let r : In z other_timed × (is_of number z ≡ true) = own_to number z m in
      in_filter (is_of number) z other_sol.sorted
      (in_contains z other_sol.sorted ((other_sol.same z).1 (contains_in z (woven stepped others comps) (subst (λ xs. In z xs) other_woven r.0)))) r.1)

  left_same : (number : ℕ) (o : Option C)
      → option_map (λ c. after_serving stepped c (of_component number (weave stepped others comps).fired)) o ≡ option_map (λ c. after_serving stepped c (of_component number (weave stepped events comps).fired)) o
  left_same number None = refl
  left_same number (Some c) =
      let now : of_component number other_sol.sorted ≡ of_component number (weave stepped others comps).fired =
      ap (of_component number) (solves-sorted serves stepped others comps lawful other_numbers (served_from serves floor stepped others comps others_fit))
      in
      let first : own number ≡ of_component number (weave stepped events comps).fired =
      ap (of_component number) (solves-sorted serves stepped events comps lawful numbered (served_from serves floor stepped events comps fits))
      in
      ap (λ xs. Some (after_serving stepped c xs)) (sym now ∙ other_own number)
      ∙ (ap Some (after_map to stepped c (own number)) ∙ ap (λ xs. Some (after_serving stepped c xs)) first)

  pub comps_are : comps_after stepped others comps ≡ comps_after stepped events comps
  comps_are =
      get_ext (comps_after stepped others comps) (comps_after stepped events comps)
      (λ number.
      own_events serves floor stepped lawful floor_stays others comps other_numbers others_fit (length others) number
      ∙ (left_same number (slice_get comps number)
      ∙ sym (own_events serves floor stepped lawful floor_stays events comps numbered fits (length events) number)))

  -- a sum over the events of a component is the same
  moved_own : (number : ℕ) → sorted_of (of_component number (woven stepped others comps)) ≡ renumbered_own number
  moved_own number =
      let xs : List FiredEvent = of_component number (woven stepped others comps) in
      let numbers : AreApart (woven stepped others comps) = apart_from (woven stepped others comps) 0 (λ i x at. omega (arith, numbers_are others (woven stepped others comps) other_numbers other_sol.events_are i x at)) in
      same_climb (sorted_of xs) (renumbered_own number) (sorted_climbs xs (filter_apart (is_of number) (woven stepped others comps) numbers)) (renumbered_climb number)
      (λ z m.
      let r : In z (woven stepped others comps) × (is_of number z ≡ true) = from_filter (is_of number) z (woven stepped others comps) (from_sorted xs z m) in
      own_from number z (subst (λ ws. In z ws) (sym other_woven) r.0) r.1)
      (λ z m.
      let r : In z other_timed × (is_of number z ≡ true) = own_to number z m in
      in_sorted xs z (in_filter (is_of number) z (woven stepped others comps) (subst (λ ws. In z ws) other_woven r.0) r.1))

  first_own : (number : ℕ) → sorted_of (of_component number first_timed) ≡ own number
  first_own number =
      let xs : List FiredEvent = of_component number first_timed in
      let numbers : AreApart first_timed = apart_from first_timed 0 (λ i x at. omega (arith, numbers_are events first_timed numbered sol.events_are i x at)) in
      same_climb (sorted_of xs) (own number) (sorted_climbs xs (filter_apart (is_of number) first_timed numbers)) (own_climb number)
      (λ z m. let r : In z first_timed × (is_of number z ≡ true) = from_filter (is_of number) z first_timed (from_sorted xs z m) in in_own number z r.0 r.1)
      (λ z m. let r : In z first_timed × (is_of number z ≡ true) = from_own number z m in in_sorted xs z (in_filter (is_of number) z first_timed r.0 r.1))

  pub sums_are : (weight : FiredEvent → ℕ) → ((x : FiredEvent) → weight (renumbered_fired to x) ≡ weight x) → (number : ℕ)
      → sum_by weight (of_component number (woven stepped others comps)) ≡ sum_by weight (of_component number (woven stepped events comps))
  sums_are weight same number =
      sum_sorted weight (of_component number (woven stepped others comps))
      ∙ (ap (sum_by weight) (moved_own number)
      ∙ (sum_map to weight same (own number)
      ∙ (ap (sum_by weight) (sym (first_own number)) ∙ sym (sum_sorted weight (of_component number first_timed)))))
