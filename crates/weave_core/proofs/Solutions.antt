-- Every solution of the timing rules has the weave's events in the weave's order, with the weave's cycles.
use Rattle.std.proofs.Common.{◌≡◌, ◌↔◌, ℕ, suc, true, List, [], ◌∷◌, map, Option, Some, None, is_some, slice_get, sym, ◌∙◌, ap, subst, refl, inl, inr, arith}
use Rattle.std.proofs.lemmas.Bool.{false≢true}
use Rattle.std.proofs.lemmas.Bool.Decides.{nat_tests}
use Rattle.std.proofs.lemmas.Option.{get_or_from_slice_get}
use Rattle.std.specs.List.{Contains}
use Rattle.zs_num.specs.declared.time.Word.{Word}
use Rattle.zs_num.specs.declared.time.Word.TheVariants.{Bound, Exact}
use Rattle.component.specs.declared.kind.Kind.{Kind}
use Rattle.event_graph.specs.declared.event.Event.{Event}
use Rattle.event_graph.specs.OneListWeave.{FiredEvent, find_fired, finish_in, finish_or_zero, fired_or_unfired, is_event_before, fired_event_in, weave, woven}
use Rattle.event_graph.specs.TimingSolution.{IsInOrder}
use Rattle.domain_map.specs.declared.crossing.Crossing.{Crossing}
use Rattle.domain_map.specs.Domains.{Partition}
use Rattle.weave_core.specs.DomainMachine.{DomainState}
use Rattle.weave_core.specs.Soundness.{AreSoundBounds, AreSoundWords, IsSoundFloor, IsSoundWord, start_in, start_or_zero}
use Rattle.weave_core.proofs.Lists.{In, at_in, get_below, contained, contains, in_at, in_map}
use Rattle.weave_core.proofs.Firing.{IsOrder, all_known, finding, found, one_place}

from_map : {X Y : Type 0} (f : X → Y) (y : Y) (xs : List X) → In y (map f xs) → (x : X) × (In x xs × (f x ≡ y))
from_map f y [] h = absurd h
from_map {X} f y (x ∷ xs) h =
    elim h [
      | inl e ↦ (x, (inl refl, e))
      | inr m ↦ let r : (z : X) × (In z xs × (f z ≡ y)) = from_map f y xs m in (r.0, (inr r.1.0, r.1.1))
    ]

-- lists in one order with the same firings

abbrev IsOrdered : List FiredEvent → Type 0
IsOrdered [] = Unit {0}
IsOrdered (x ∷ xs) = ((y : FiredEvent) → In y xs → is_event_before x.event x.start y.event y.start ≡ true) × IsOrdered xs

ordered : (xs : List FiredEvent) → IsInOrder xs → IsOrdered xs
ordered [] h = tt
ordered (x ∷ xs) h = (
  λ y m.
      let at : (i : ℕ) × (slice_get xs i ≡ Some y) = in_at y xs m in
      subst (λ (z : FiredEvent). is_event_before x.event x.start z.event z.start ≡ true) (get_or_from_slice_get xs at.0 y y at.1)
      (h 0 (suc at.0) y (omega arith) (omega (arith, get_below xs at.0 y at.1))),
  ordered xs (λ i j d l b. h (suc i) (suc j) d (omega (arith, l)) (omega (arith, b))),
)

never_itself : (x : FiredEvent) → is_event_before x.event x.start x.event x.start ≡ true → ⊥
never_itself x h = grind (arith, nat_tests)

never_back : (x y : FiredEvent) → is_event_before x.event x.start y.event y.start ≡ true → is_event_before y.event y.start x.event x.start ≡ true → ⊥
never_back x y h k = grind (arith, nat_tests)

same_order : (xs ys : List FiredEvent) → IsOrdered xs → IsOrdered ys → ((x : FiredEvent) → In x xs → In x ys) → ((x : FiredEvent) → In x ys → In x xs) → xs ≡ ys
same_order [] [] a b f g = refl
same_order [] (y ∷ ys) a b f g = absurd (g y (inl refl))
same_order (x ∷ xs) [] a b f g = absurd (f x (inl refl))
same_order (x ∷ xs) (y ∷ ys) a b f g =
    let head : y ≡ x =
    elim (f x (inl refl)) [
      | inl e ↦ e
      | inr m ↦
          elim (g y (inl refl)) [
            | inl e ↦ sym e
            | inr n ↦ absurd (never_back x y (a.0 y n) (b.0 x m))
          ]
    ]
    in
    let into : (z : FiredEvent) → In z xs → In z ys =
    λ z m. elim (f z (inr m)) [
      | inr n ↦ n
      | inl e ↦ absurd (never_itself z (subst (λ (w : FiredEvent). is_event_before w.event w.start z.event z.start ≡ true) (sym head ∙ e) (a.0 z m)))
    ]
    in
    let back : (z : FiredEvent) → In z ys → In z xs =
    λ z m. elim (g z (inr m)) [
      | inr n ↦ n
      | inl e ↦ absurd (never_itself z (subst (λ (w : FiredEvent). is_event_before w.event w.start z.event z.start ≡ true) (head ∙ e) (b.0 z m)))
    ]
    in
    ap (λ (z : FiredEvent). z ∷ xs) (sym head) ∙ ap (λ (zs : List FiredEvent). y ∷ zs) (same_order xs ys a.1 b.1 into back)

-- a domain's words for a solution, and for the weave

sound_for : (timed all : List FiredEvent) (x : Crossing) (w : Word) → finish_in timed x.parent ≡ finish_in all x.parent → IsSoundWord timed x w → IsSoundWord all x w
sound_for timed all x (Bound b) e h = omega (arith, e, h)
sound_for timed all x (Exact f) e h = h ∙ e

module _ {C : Type 0} (stepped : C → Kind → ℕ → C × ℕ) (events : List Event) (comps : List C) (o : IsOrder events (weave stepped events comps).fired)
    (timed : List FiredEvent) (is : timed ≡ woven stepped events comps) where
  abbrev all : List FiredEvent
  all = (weave stepped events comps).fired

  into_weave : (x : FiredEvent) → In x timed → In x all
  unfolding woven
  into_weave x h =
      let r : (e : Event) × (In e events × (fired_event_in all e ≡ x)) = from_map (fired_event_in all) x events (subst (λ (xs : List FiredEvent). In x xs) is h) in
      let i : (i : ℕ) × (slice_get events i ≡ Some r.0) = in_at r.0 events r.1.0 in
      let w : (k : ℕ) × (y : FiredEvent) × (slice_get all k ≡ Some y) × (y.event ≡ r.0) = o.each r.0 (ap (slice_get events) (o.numbered i.0 r.0 i.1) ∙ i.1) in
      let known : find_fired all r.0.number ≡ Some w.1 = ap (λ (e : Event). find_fired all e.number) (sym w.3) ∙ all_known events all o w.0 w.1 w.2 in
      let same : w.1 ≡ x = sym (ap (fired_or_unfired r.0) known) ∙ r.1.1 in
      subst (λ (z : FiredEvent). In z all) same (at_in w.1 all w.0 w.2)

  from_weave : (x : FiredEvent) → In x all → In x timed
  unfolding woven
  from_weave x h =
      let at : (k : ℕ) × (slice_get all k ≡ Some x) = in_at x all h in
      let there : In (fired_event_in all x.event) (map (fired_event_in all) events) =
      in_map (fired_event_in all) x.event events (at_in x.event events x.event.number (o.event at.0 x at.1))
      in
      subst (λ (xs : List FiredEvent). In x xs) (sym is)
      (subst (λ (z : FiredEvent). In z (map (fired_event_in all) events)) (ap (fired_or_unfired x.event) (all_known events all o at.0 x at.1)) there)

  pub found_alike : (n : ℕ) → find_fired timed n ≡ find_fired all n
  found_alike n = by_option (find_fired timed n) refl (find_fired all n) refl
    where
      by_option : (s : Option FiredEvent) → find_fired timed n ≡ s → (t : Option FiredEvent) → find_fired all n ≡ t → s ≡ t
      by_option None a None b = refl
      by_option (Some x) a None b =
          let r = finding timed n (ap is_some a) in
          absurd (false≢true (sym (ap is_some b) ∙ found all r.0 n (into_weave r.0 r.1.1.0) r.1.1.1))
      by_option None a (Some y) b =
          let r = finding all n (ap is_some b) in
          absurd (false≢true (sym (ap is_some a) ∙ found timed r.0 n (from_weave r.0 r.1.1.0) r.1.1.1))
      by_option (Some x) a (Some y) b =
          let r = finding timed n (ap is_some a) in
          let q = finding all n (ap is_some b) in
          let i = in_at r.0 all (into_weave r.0 r.1.1.0) in
          let j = in_at q.0 all q.1.1.0 in
          let same : r.0 ≡ q.0 = one_place events all o i.0 j.0 r.0 q.0 i.1 j.1 (r.1.1.1 ∙ sym q.1.1.1) in
          sym a ∙ (r.1.0 ∙ (ap (λ (z : FiredEvent). Some z) same ∙ (sym q.1.0 ∙ b)))

  pub finish_alike : (n : ℕ) → finish_in timed n ≡ finish_in all n
  finish_alike n = ap finish_or_zero (found_alike n)

  pub start_alike : (n : ℕ) → start_in timed n ≡ start_in all n
  start_alike n = ap start_or_zero (found_alike n)

  pub words_alike : (p : Partition) (words : List Word) → AreSoundWords timed p words → AreSoundWords all p words
  words_alike p words h = record { each = λ number x there. sound_for timed all x _ (finish_alike x.parent) (h.each number x there) }

  pub floor_alike : (p : Partition) (domain : ℕ) (own : DomainState) → IsSoundFloor timed p domain own → IsSoundFloor all p domain own
  floor_alike p domain own h = record { each = λ number x there target unknown. omega (arith, h.each number x there target unknown, start_alike x.parent) }

  pub bounds_alike : (p : Partition) (domain : ℕ) (own : DomainState) → AreSoundBounds events timed p domain own → AreSoundBounds events all p domain own
  bounds_alike p domain own h = record { each = λ number x there target unknown. omega (arith, h.each number x there target unknown, finish_alike x.parent) }

  pub bounds_back : (p : Partition) (domain : ℕ) (own : DomainState) → AreSoundBounds events all p domain own → AreSoundBounds events timed p domain own
  bounds_back p domain own h = record { each = λ number x there target unknown. omega (arith, h.each number x there target unknown, finish_alike x.parent) }

  pub order_alike : (sorted : List FiredEvent) → IsInOrder sorted → ((x : FiredEvent) → Contains sorted x ↔ Contains timed x) → IsInOrder all → sorted ≡ all
  order_alike sorted s same w =
      same_order sorted all (ordered sorted s) (ordered all w)
      (λ x m.
      let at = in_at x sorted m in
      let c = contained timed x ((same x).0 (contains sorted at.0 x at.1)) in
      into_weave x (at_in x timed c.0 c.1))
      (λ x m.
      let at = in_at x timed (from_weave x m) in
      let c = contained sorted x ((same x).1 (contains timed at.0 x at.1)) in
      at_in x sorted c.0 c.1)
