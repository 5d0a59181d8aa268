-- An order of the events of each component is enough: together they have one, too.
use Rattle.std.proofs.Common.{sum_by, ◌≡◌, ◌+◌, ◌==◌, ℕ, zero, suc, Bool, true, cond, List, [], ◌∷◌, map, ◌⊎◌, inl, inr, get_or, Some, sym, ◌∙◌, subst, refl, arith}
use Rattle.std.specs.Prelude.{IsTrue, slice_get}
use Rattle.std.specs.List.{filter}
use Rattle.std.proofs.lemmas.Bool.{cond_both, false≢true}
use Rattle.std.proofs.lemmas.List.Sums.{sum_by-cons}
use Rattle.component.specs.declared.kind.Kind.{Kind}
use Rattle.event_graph.specs.declared.event.Event.{Event}
use Rattle.event_graph.specs.ComponentOrders.{IsSolutionByComponents, ServesItsEvents}
use Rattle.event_graph.specs.Numbered.{IsNumbered}
use Rattle.event_graph.specs.OneListWeave.{FiredEvent, is_event_before}
use Rattle.event_graph.specs.ServedEvents.{of_component}
use Rattle.event_graph.specs.TimingSolution.{IsInOrder, IsSolution, ServesInTurn}
use Rattle.event_graph.proofs.Lists.{In, contains_in, from_filter, get-map, in_at, in_contains, in_filter, in_get, pairs_from}
use Rattle.event_graph.proofs.Order.{before_from_not, before_not_after, before_trans, not_before_itself}

abbrev pub Before : FiredEvent → FiredEvent → Type 0
Before x y = IsTrue (is_event_before x.event x.start y.event y.start)

-- each comes before those after it
abbrev pub Climbs : List FiredEvent → Type 0
Climbs [] = Unit {0}
Climbs (x ∷ xs) = ((y : FiredEvent) → In y xs → Before x y) × Climbs xs

pub climbs_pairs : (xs : List FiredEvent) → Climbs xs → IsInOrder xs
climbs_pairs [] h i j d a b = absurd (omega (arith, b))
climbs_pairs (x ∷ xs) h zero zero d a b = absurd (omega (arith, a))
climbs_pairs (x ∷ xs) h zero (suc j) d a b = h.0 (get_or xs j d) (in_get xs j d (omega (arith, b)))
climbs_pairs (x ∷ xs) h (suc i) zero d a b = absurd (omega (arith, a))
climbs_pairs (x ∷ xs) h (suc i) (suc j) d a b = climbs_pairs xs h.1 i j d (omega (arith, a)) (omega (arith, b))

pub pairs_climb : (xs : List FiredEvent) → IsInOrder xs → Climbs xs
pairs_climb [] h = tt
pairs_climb (x ∷ xs) h = (
  λ y m. pairs_from Before [] x y xs h m,
  pairs_climb xs (λ i j d a b. h (suc i) (suc j) d (omega (arith, a)) (omega (arith, b))),
)

pub filter_climbs : (p : FiredEvent → Bool) (xs : List FiredEvent) → Climbs xs → Climbs (filter p xs)
filter_climbs p [] h = tt
filter_climbs p (x ∷ xs) h =
    let rest : Climbs (filter p xs) = filter_climbs p xs h.1 in
    cond_both (p x) (x ∷ filter p xs) (filter p xs) (λ zs. Climbs zs)
    (λ _. (λ y m. h.0 y (from_filter p y xs m).0, rest))
    (λ _. rest)

never_itself : (x : FiredEvent) → Before x x → ⊥
never_itself x b = false≢true (sym (not_before_itself x.event x.start) ∙ b)

-- two lists in order that have the same are one
pub same_climb : (xs ys : List FiredEvent) → Climbs xs → Climbs ys → ((z : FiredEvent) → In z xs → In z ys) → ((z : FiredEvent) → In z ys → In z xs) → xs ≡ ys
same_climb [] [] h k to from = refl
same_climb [] (y ∷ ys) h k to from = absurd (from y (inl refl))
same_climb (x ∷ xs) [] h k to from = absurd (to x (inl refl))
same_climb (x ∷ xs) (y ∷ ys) h k to from =
    let head : x ≡ y =
    elim (to x (inl refl)) [
      | inl e ↦ sym e
      | inr m ↦ elim (from y (inl refl)) [
        | inl e ↦ e
        | inr n ↦ absurd (before_not_after x.event x.start y.event y.start (h.0 y n) (k.0 x m))
      ]
    ]
    in
    let tail : xs ≡ ys =
    same_climb xs ys h.1 k.1
    (λ z m. elim (to z (inr m)) [ inl e ↦ absurd (never_itself x (subst (λ t. Before x t) (sym e ∙ sym head) (h.0 z m))) | inr n ↦ n ])
    (λ z m. elim (from z (inr m)) [ inl e ↦ absurd (never_itself y (subst (λ t. Before y t) (sym e ∙ head) (k.0 z m))) | inr n ↦ n ])
    in
    cc

-- ---- sorting

abbrev put : FiredEvent → List FiredEvent → List FiredEvent
put x [] = x ∷ []
put x (y ∷ ys) = cond (is_event_before x.event x.start y.event y.start) (x ∷ y ∷ ys) (y ∷ put x ys)

abbrev pub sorted_of : List FiredEvent → List FiredEvent
sorted_of [] = []
sorted_of (x ∷ xs) = put x (sorted_of xs)

from_put : (x z : FiredEvent) (ys : List FiredEvent) → In z (put x ys) → (x ≡ z) ⊎ In z ys
from_put x z [] m = elim m [ inl e ↦ inl e | inr n ↦ absurd n ]
from_put x z (y ∷ ys) m =
    cond_both (is_event_before x.event x.start y.event y.start) (x ∷ y ∷ ys) (y ∷ put x ys) (λ zs. In z zs → (x ≡ z) ⊎ In z (y ∷ ys))
    (λ _ k. elim k [ inl e ↦ inl e | inr n ↦ inr n ])
    (λ _ k. elim k [ inl e ↦ inr (inl e) | inr n ↦ elim (from_put x z ys n) [ inl e ↦ inl e | inr o ↦ inr (inr o) ] ])
    m

in_put : (x z : FiredEvent) (ys : List FiredEvent) → (x ≡ z) ⊎ In z ys → In z (put x ys)
in_put x z [] h = elim h [ inl e ↦ inl e | inr n ↦ absurd n ]
in_put x z (y ∷ ys) h =
    cond_both (is_event_before x.event x.start y.event y.start) (x ∷ y ∷ ys) (y ∷ put x ys) (λ zs. In z zs)
    (λ _. elim h [ inl e ↦ inl e | inr n ↦ inr n ])
    (λ _. elim h [ inl e ↦ inr (in_put x z ys (inl e)) | inr n ↦ elim n [ inl e ↦ inl e | inr o ↦ inr (in_put x z ys (inr o)) ] ])

put_climbs : (x : FiredEvent) (ys : List FiredEvent) → Climbs ys → ((y : FiredEvent) → In y ys → x.event.number ≡ y.event.number → ⊥) → Climbs (put x ys)
put_climbs x [] h apart = (λ y m. absurd m, tt)
put_climbs x (y ∷ ys) h apart =
    cond_both (is_event_before x.event x.start y.event y.start) (x ∷ y ∷ ys) (y ∷ put x ys) (λ zs. Climbs zs)
    (λ t. (
      λ z m. elim m [
        | inl e ↦ subst (λ k. Before x k) e t
        | inr n ↦ before_trans x.event x.start y.event y.start z.event z.start t (h.0 z n)
      ],
      h,
    ))
    (λ f. (
      λ z m. elim (from_put x z ys m) [
        | inl e ↦ subst (λ k. Before y k) e (before_from_not y.event y.start x.event x.start f (λ q. apart y (inl refl) (sym q)))
        | inr n ↦ h.0 z n
      ],
      put_climbs x ys h.1 (λ z m. apart z (inr m)),
    ))

-- no two have one number
abbrev pub AreApart : List FiredEvent → Type 0
AreApart [] = Unit {0}
AreApart (x ∷ xs) = ((y : FiredEvent) → In y xs → x.event.number ≡ y.event.number → ⊥) × AreApart xs

pub apart_from : (xs : List FiredEvent) (first : ℕ) → ((i : ℕ) (x : FiredEvent) → slice_get xs i ≡ Some x → x.event.number ≡ first + i) → AreApart xs
apart_from [] first h = tt
apart_from (x ∷ xs) first h = (
  λ y m q. let a : (i : ℕ) × (slice_get xs i ≡ Some y) = in_at y xs m in absurd (omega (arith, h 0 x refl, h (suc a.0) y a.1, q)),
  apart_from xs (first + 1) (λ i y at. omega (arith, h (suc i) y at)),
)

pub from_sorted : (xs : List FiredEvent) (z : FiredEvent) → In z (sorted_of xs) → In z xs
from_sorted [] z m = m
from_sorted (x ∷ xs) z m = elim (from_put x z (sorted_of xs) m) [ inl e ↦ inl e | inr n ↦ inr (from_sorted xs z n) ]

pub in_sorted : (xs : List FiredEvent) (z : FiredEvent) → In z xs → In z (sorted_of xs)
in_sorted [] z m = m
in_sorted (x ∷ xs) z m = elim m [ inl e ↦ in_put x z (sorted_of xs) (inl e) | inr n ↦ in_put x z (sorted_of xs) (inr (in_sorted xs z n)) ]

pub sorted_climbs : (xs : List FiredEvent) → AreApart xs → Climbs (sorted_of xs)
sorted_climbs [] h = tt
sorted_climbs (x ∷ xs) h = put_climbs x (sorted_of xs) (sorted_climbs xs h.1) (λ y m. h.0 y (from_sorted xs y m))

pub filter_apart : (p : FiredEvent → Bool) (xs : List FiredEvent) → AreApart xs → AreApart (filter p xs)
filter_apart p [] h = tt
filter_apart p (x ∷ xs) h =
    let rest : AreApart (filter p xs) = filter_apart p xs h.1 in
    cond_both (p x) (x ∷ filter p xs) (filter p xs) (λ zs. AreApart zs) (λ _. (λ y m. h.0 y (from_filter p y xs m).0, rest)) (λ _. rest)

sum_put : (weight : FiredEvent → ℕ) (x : FiredEvent) (ys : List FiredEvent) → sum_by weight (put x ys) ≡ weight x + sum_by weight ys
sum_put weight x [] = sum_by-cons weight x []
sum_put weight x (y ∷ ys) =
    cond_both (is_event_before x.event x.start y.event y.start) (x ∷ y ∷ ys) (y ∷ put x ys) (λ zs. sum_by weight zs ≡ weight x + sum_by weight (y ∷ ys))
    (λ _. sum_by-cons weight x (y ∷ ys))
    (λ _. omega (arith, sum_by-cons weight y (put x ys), sum_put weight x ys, sum_by-cons weight y ys))

-- sorting changes no sum
pub sum_sorted : (weight : FiredEvent → ℕ) (xs : List FiredEvent) → sum_by weight xs ≡ sum_by weight (sorted_of xs)
sum_sorted weight [] = refl
sum_sorted weight (x ∷ xs) = omega (arith, sum_by-cons weight x xs, sum_sorted weight xs, sum_put weight x (sorted_of xs))

-- ---- the law

abbrev is_of : (number : ℕ) → FiredEvent → Bool
is_of number x = x.event.component == number

pub numbers_are : (events : List Event) (timed : List FiredEvent) → IsNumbered events → map (λ (x : FiredEvent). x.event) timed ≡ events → (i : ℕ) (x : FiredEvent) → slice_get timed i ≡ Some x → x.event.number ≡ i
numbers_are events timed numbered are i x at =
    numbered.number i x.event (subst (λ es. slice_get es i ≡ Some x.event) are (get-map (λ (z : FiredEvent). z.event) x timed i at))

module _ {C : Type 0} (stepped : C → Kind → ℕ → C × ℕ) (events : List Event) (comps : List C) (numbered : IsNumbered events)
    (timed : List FiredEvent) (sol : IsSolutionByComponents stepped events comps timed) where
  climbs : Climbs (sorted_of timed)
  climbs = sorted_climbs timed (apart_from timed 0 (λ i x at. omega (arith, numbers_are events timed numbered sol.events_are i x at)))

  finishes : (number : ℕ) (c : C) → slice_get comps number ≡ Some c → ServesInTurn stepped c (of_component number (sorted_of timed))
  finishes number c there =
      let s : ServesItsEvents stepped c number timed = sol.serves number c there in
      let to : (z : FiredEvent) → In z s.sorted → In z (of_component number (sorted_of timed)) =
      λ z m.
      let r : In z timed × (is_of number z ≡ true) = from_filter (is_of number) z timed (in_contains z (of_component number timed) ((s.same z).0 (contains_in z s.sorted m))) in
      in_filter (is_of number) z (sorted_of timed) (in_sorted timed z r.0) r.1
      in
      let from : (z : FiredEvent) → In z (of_component number (sorted_of timed)) → In z s.sorted =
      λ z m.
      let r : In z (sorted_of timed) × (is_of number z ≡ true) = from_filter (is_of number) z (sorted_of timed) m in
      in_contains z s.sorted ((s.same z).1 (contains_in z (of_component number timed) (in_filter (is_of number) z timed (from_sorted timed z r.0) r.1)))
      in
      let same : s.sorted ≡ of_component number (sorted_of timed) =
      same_climb s.sorted (of_component number (sorted_of timed)) (pairs_climb s.sorted s.in_order) (filter_climbs (is_of number) (sorted_of timed) climbs) to from
      in
      subst (λ xs. ServesInTurn stepped c xs) same s.finishes

  pub is_solution : IsSolution stepped events comps timed
  is_solution = record {
    events_are = sol.events_are;
    starts = sol.starts;
    sorted = sorted_of timed;
    in_order = climbs_pairs (sorted_of timed) climbs;
    same = λ z. (
      λ m. contains_in z timed (from_sorted timed z (in_contains z (sorted_of timed) m)),
      λ m. contains_in z (sorted_of timed) (in_sorted timed z (in_contains z timed m)),
    );
    finishes = finishes;
  }
