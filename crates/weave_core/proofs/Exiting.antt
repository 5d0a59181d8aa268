-- The crossings out of a domain up to one, and the search among them.
use Rattle.std.proofs.Common.{◌≡◌, ◌+◌, ◌<◌, ◌≤◌, ℕ, List, [], ◌∷◌, ◌++◌, length, get_or, Result, Ok, Err, Some, slice_get, sym, ◌∙◌, ap, subst, refl, inl, inr, arith}
use Rattle.std.proofs.lemmas.Bool.{cases_lt}
use Rattle.std.proofs.lemmas.List.{length_push}
use Rattle.std.proofs.lemmas.List.Sorted.{searched}
use Rattle.std.proofs.lemmas.Option.{same_Some, none-some, get_or_from_slice_get, slice_get-get_or}
use Rattle.std.specs.List.Sorted.{IsBinarySearchResult}
use Rattle.std.specs.Ordering.{nat_cmp}
use Rattle.std.specs.Result.{MatchResult}
use Rattle.event_graph.specs.declared.event.Event.{Event}
use Rattle.domain_map.specs.declared.crossing.Crossing.{Crossing}
use Rattle.weave_core.specs.Beginning.{HasPlace}
use Rattle.weave_core.specs.Exits.{AreExits, AreRising, IsExit}
use Rattle.weave_core.proofs.Lists.{get_below, last_at}
use Rattle.weave_core.proofs.OwnPlaces.{get_push}
use Rattle.weave_core.proofs.Stubbing.{pushed_at}

pub no_exits : (here : List Event) (crossings : List Crossing) (domain : ℕ) → AreExits here crossings domain 0 [] []
no_exits here crossings domain = record {
  sizes = refl;
  each = λ i number h. absurd (none-some number h);
  covers = λ number x below there own. absurd (omega (arith, below));
  rising = λ i j m n l a b. absurd (none-some m a);
}

module _ (here : List Event) (crossings : List Crossing) (domain upto : ℕ) (numbers parents : List ℕ) (are : AreExits here crossings domain upto numbers parents) (x : Crossing)
    (there : slice_get crossings upto ≡ Some x) where
  pub exits_skip : (x.source ≡ domain → ⊥) → AreExits here crossings domain (upto + 1) numbers parents
  exits_skip apart = record {
    sizes = are.sizes;
    each = λ i number h. let r = are.each i number h in (omega (arith, r.0), r.1);
    covers = λ number y below h source.
        elim (cases_lt number upto) [
          | inl l ↦ are.covers number y l h source
          | inr m ↦
              let same : number ≡ upto = omega (arith, m, below) in
              let is : x ≡ y = same_Some x y (sym there ∙ (ap (slice_get crossings) (sym same) ∙ h)) in
              absurd (apart (ap (λ (z : Crossing). z.source) is ∙ source))
        ];
    rising = are.rising;
  }

  pub exits_next : (place : ℕ) → x.source ≡ domain → HasPlace here x.parent place → AreExits here crossings domain (upto + 1) (numbers ++ upto ∷ []) (parents ++ place ∷ [])
  exits_next place source parent = record {
    sizes = omega (arith, length_push numbers upto, length_push parents place, are.sizes);
    each = λ i number h.
        elim (pushed_at numbers upto number i h) [
          | inl old ↦
              let r = are.each i number old.1 in
              (omega (arith, r.0), (r.1.0, (get_push parents place i (omega (arith, old.0, are.sizes)) ∙ r.1.1.0, r.1.1.1)))
          | inr new ↦
              let at : i ≡ length parents = omega (arith, new.0, are.sizes) in (
                omega (arith, new.1),
                (
                  place,
                  (
                    ap (slice_get (parents ++ place ∷ [])) at ∙ last_at parents place,
                    subst (λ n. IsExit here crossings domain n place) new.1 (record { crossing = x; there = there; source = source; parent = parent }),
                  ),
                ),
              )
        ];
    covers = λ number y below h own.
        elim (cases_lt number upto) [
          | inl l ↦ let c = are.covers number y l h own in (c.0, get_push numbers upto c.0 (get_below numbers c.0 number c.1) ∙ c.1)
          | inr m ↦
              let same : upto ≡ number = omega (arith, m, below) in
              (length numbers, last_at numbers upto ∙ ap (λ n. Some n) same)
        ];
    rising = λ i j m n l a b.
        elim (pushed_at numbers upto n j b) [
          | inl old ↦
              elim (pushed_at numbers upto m i a) [
                | inl old_m ↦ are.rising i j m n l old_m.1 old.1
                | inr new_m ↦ absurd (omega (arith, l, old.0, new_m.0))
              ]
          | inr new ↦
              elim (pushed_at numbers upto m i a) [
                | inl old_m ↦ omega (arith, (are.each i m old_m.1).0, new.1)
                | inr new_m ↦ absurd (omega (arith, l, new.0, new_m.0))
              ]
        ];
  }

-- the parent of one of them
pub parent_here : (here : List Event) (crossings : List Crossing) (domain upto : ℕ) (numbers parents : List ℕ) → AreExits here crossings domain upto numbers parents → (number place : ℕ)
    → (i : ℕ) × ((slice_get numbers i ≡ Some number) × (slice_get parents i ≡ Some place)) → (x : Crossing) → slice_get crossings number ≡ Some x → HasPlace here x.parent place
parent_here here crossings domain upto numbers parents are number place at x there =
    let e = are.each at.0 number at.1.0 in
    let same : e.1.0 ≡ place = same_Some e.1.0 place (sym e.1.1.0 ∙ at.1.1) in
    let is : e.1.1.1.crossing ≡ x = same_Some e.1.1.1.crossing x (sym e.1.1.1.there ∙ there) in
    subst (λ n. HasPlace here x.parent n) same (subst (λ (z : Crossing). HasPlace here z.parent e.1.0) is e.1.1.1.parent)

-- the search

rises : (numbers : List ℕ) → AreRising numbers → (i j : ℕ) → i ≤ j → j < length numbers → get_or numbers i 0 ≤ get_or numbers j 0
rises numbers up i j l below =
    elim (cases_lt i j) [
      | inl less ↦
          let r : get_or numbers i 0 < get_or numbers j 0 =
          up i j (get_or numbers i 0) (get_or numbers j 0) less (slice_get-get_or numbers i 0 (omega (arith, less, below))) (slice_get-get_or numbers j 0 below)
          in
          omega (arith, r)
      | inr m ↦ let same : i ≡ j = omega (arith, l, m) in omega (arith, ap (λ n. get_or numbers n 0) same)
    ]

abbrev or_zero : Result ℕ ℕ → ℕ
or_zero (Ok a) = a
or_zero (Err b) = 0

pub same_Ok : (r : Result ℕ ℕ) (a b : ℕ) → r ≡ Ok a → r ≡ Ok b → a ≡ b
same_Ok r a b e f = ap or_zero (sym e ∙ f)

-- a number that is there is found
pub is_found : (numbers : List ℕ) (x : ℕ) (r : Result ℕ ℕ) → IsBinarySearchResult (λ y. nat_cmp y x) numbers r → AreRising numbers → (i : ℕ) × (slice_get numbers i ≡ Some x)
    → (place : ℕ) × ((r ≡ Ok place) × (slice_get numbers place ≡ Some x))
is_found numbers x r s up there = by_result r refl (searched numbers x r s (rises numbers up))
  where
    by_result : (q : Result ℕ ℕ) → r ≡ q
        → MatchResult q (λ i. (i < length numbers) × (get_or numbers i 0 ≡ x)) (λ i. (i ≤ length numbers) × ((k : ℕ) → k < i → get_or numbers k 0 < x) × ((k : ℕ) → i ≤ k → k < length numbers → x < get_or numbers k 0))
        → (place : ℕ) × ((r ≡ Ok place) × (slice_get numbers place ≡ Some x))
    by_result (Ok i) e m = (i, (e, slice_get-get_or numbers i 0 m.0 ∙ ap (λ n. Some n) m.1))
    by_result (Err i) e m =
        let at : get_or numbers there.0 0 ≡ x = get_or_from_slice_get numbers there.0 x 0 there.1 in
        elim (cases_lt there.0 i) [
          | inl l ↦ absurd (omega (arith, m.1 there.0 l, at))
          | inr o ↦ absurd (omega (arith, m.2 there.0 o (get_below numbers there.0 x there.1), at))
        ]
