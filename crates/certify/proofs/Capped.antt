-- Components that are left as they are once they are busy until 2^60: they tell as well which finishes are right, and
-- where all are, they are where they are to be.
use Rattle.std.proofs.Common.{◌≡◌, ◌<◌, ◌≤◌, ◌+◌, ◌==◌, ◌^◌, ℕ, zero, suc, nat_lt, if◌then◌else◌, Bool, true, false, ◌⊎◌, inl, inr, List, [], ◌∷◌, ◌++◌, length, take, Option, Some, refl, ap, sym, ◌∙◌, subst, arith}
use Rattle.std.specs.Prelude.{slice_get}
use Rattle.std.specs.Option.{option_map, option_map_or}
use Rattle.std.proofs.lemmas.Bool.{cases_eq, eqb-true, ltb-false, ltb-true, lt-ltb, ne_eqb}
use Rattle.component.specs.declared.comp.Comp.{Comp}
use Rattle.component.specs.declared.comp.Comp.TheVariants.{Bank as ABank, Controller as AController, Link as ALink, Rows as ARows}
use Rattle.component.specs.declared.kind.Kind.{Kind}
use Rattle.component.specs.declared.kind.Kind.TheVariants.{Lookup, Remote, Fill, Read, Write, Hop, RowRead}
use Rattle.component.specs.ComponentStep.{comp_step, free_of}
use Rattle.event_graph.specs.OneListWeave.{FiredEvent}
use Rattle.event_graph.specs.ServedEvents.{after_serving, of_component}
use Rattle.certify.specs.Records.{AreRecords}
use Rattle.certify.specs.ShortTimes.{capped_step}
use Rattle.certify.specs.Verdict.{finish_by, finish_on, has_right_finish, in_order, served_before}
use Rattle.certify.proofs.InOrder.{served_earlier}
use Rattle.certify.proofs.Places.{event_there, noted_finish, stands_at}
use Rattle.certify.proofs.Lists.{after_one_more, other_more, own_more, take_on}
use Rattle.certify.proofs.Sorting.{in_order_keys, place_of}

-- when such a component finishes an event
abbrev pub capped_on : Comp → List FiredEvent → FiredEvent → ℕ
capped_on c timed x = (capped_step (after_serving capped_step c (served_before timed x)) x.event.kind x.start).1

abbrev pub capped_by : List Comp → List FiredEvent → FiredEvent → Option ℕ
capped_by comps timed x = option_map (λ c. capped_on c timed x) (slice_get comps x.event.component)

-- ---- a step

-- it finishes nothing before it is free
not_before_free : (c : Comp) (kind : Kind) (start : ℕ) → free_of c ≤ (comp_step c kind start).1
not_before_free (ABank b) kind start = omega arith
not_before_free (AController c) kind start = omega arith
not_before_free (ALink l) kind start = omega arith
not_before_free (ARows r) Lookup start = omega arith
not_before_free (ARows r) Remote start = omega arith
not_before_free (ARows r) Fill start = omega arith
not_before_free (ARows r) Read start = omega arith
not_before_free (ARows r) Write start = omega arith
not_before_free (ARows r) Hop start = omega arith
not_before_free (ARows r) (RowRead bank row) start = omega arith

no_earlier : (c : Comp) (kind : Kind) (start : ℕ) → free_of c ≤ free_of (comp_step c kind start).0
no_earlier (ABank b) kind start = omega arith
no_earlier (AController c) kind start = omega arith
no_earlier (ALink l) kind start = omega arith
no_earlier (ARows r) Lookup start = omega arith
no_earlier (ARows r) Remote start = omega arith
no_earlier (ARows r) Fill start = omega arith
no_earlier (ARows r) Read start = omega arith
no_earlier (ARows r) Write start = omega arith
no_earlier (ARows r) Hop start = omega arith
no_earlier (ARows r) (RowRead bank row) start = omega arith

steps_on : (c : Comp) (kind : Kind) (start : ℕ) → free_of c < 2 ^ 60 → capped_step c kind start ≡ comp_step c kind start
steps_on c kind start free = rw (lt-ltb (free_of c) (2 ^ 60) free) refl

-- the same component, or both are busy until 2^60
abbrev pub AreAlike : Comp → Comp → Type 0
AreAlike c d = (c ≡ d) ⊎ ((2 ^ 60 ≤ free_of c) × (2 ^ 60 ≤ free_of d))

-- the same finish, or both are no finish of a file
abbrev pub AreAlikeFinishes : ℕ → ℕ → Type 0
AreAlikeFinishes m n = (m ≡ n) ⊎ ((2 ^ 60 ≤ m) × (2 ^ 60 ≤ n))

alike_step : (c d : Comp) (kind : Kind) (start : ℕ) → AreAlike c d
    → AreAlike (capped_step c kind start).0 (comp_step d kind start).0 × AreAlikeFinishes (capped_step c kind start).1 (comp_step d kind start).1
alike_step c d kind start alike = by_test (nat_lt (free_of c) (2 ^ 60)) refl alike
  where
    by_test : (t : Bool) → nat_lt (free_of c) (2 ^ 60) ≡ t → AreAlike c d
        → AreAlike (if t then comp_step c kind start else (c, 2 ^ 60)).0 (comp_step d kind start).0 × AreAlikeFinishes (if t then comp_step c kind start else (c, 2 ^ 60)).1 (comp_step d kind start).1
    by_test true free (inl same) = (inl (ap (λ e. (comp_step e kind start).0) same), inl (ap (λ e. (comp_step e kind start).1) same))
    by_test true free (inr late) = absurd (omega (arith, ltb-true (free_of c) (2 ^ 60) free, late.0))
    by_test false busy (inl same) =
        let late : 2 ^ 60 ≤ free_of d = subst (λ e. 2 ^ 60 ≤ free_of e) same (ltb-false (free_of c) (2 ^ 60) busy) in
        (inr (ltb-false (free_of c) (2 ^ 60) busy, omega (arith, late, no_earlier d kind start)), inr (omega arith, omega (arith, late, not_before_free d kind start)))
    by_test false busy (inr late) =
        (inr (late.0, omega (arith, late.1, no_earlier d kind start)), inr (omega arith, omega (arith, late.1, not_before_free d kind start)))

alike_after : (c d : Comp) (xs : List FiredEvent) → AreAlike c d → AreAlike (after_serving capped_step c xs) (after_serving comp_step d xs)
alike_after c d [] alike = alike
alike_after c d (x ∷ xs) alike =
    alike_after (capped_step c x.event.kind x.start).0 (comp_step d x.event.kind x.start).0 xs (alike_step c d x.event.kind x.start alike).0

-- ---- which finishes are right

same_test : (noted m n : ℕ) → noted < 2 ^ 60 → AreAlikeFinishes m n → (noted == n) ≡ (noted == m)
same_test noted m n low (inl same) = ap (λ k. noted == k) (sym same)
same_test noted m n low (inr late) =
    ne_eqb noted n (λ same. absurd (omega (arith, same, low, late.1))) ∙ sym (ne_eqb noted m (λ same. absurd (omega (arith, same, low, late.0))))

pub finish_tells : (comps : List Comp) (timed : List FiredEvent) (x : FiredEvent) → x.finish < 2 ^ 60
    → (o : Option ℕ) → o ≡ capped_by comps timed x → (c : Comp) → slice_get comps x.event.component ≡ Some c
    → (finish : ℕ) × (o ≡ Some finish) × (has_right_finish comps timed x ≡ (x.finish == finish))
finish_tells comps timed x low o is c there =
    let finish = capped_on c timed x in
    let found : finish_by comps timed x ≡ Some (finish_on c timed x) = ap (option_map (λ d. finish_on d timed x)) there in
    let before = alike_after c c (served_before timed x) (inl refl) in
    let alike = (alike_step (after_serving capped_step c (served_before timed x)) (after_serving comp_step c (served_before timed x)) x.event.kind x.start before).1 in (
      finish,
      is ∙ ap (option_map (λ d. capped_on d timed x)) there,
      ap (λ f. option_map_or (λ m. x.finish == m) f false) found ∙ same_test x.finish finish (finish_on c timed x) low alike,
    )

-- ---- where all are

module _ (comps : List Comp) (timed : List FiredEvent) (records : List ℕ) (are : AreRecords comps timed records)
    (right : (place : ℕ) (x : FiredEvent) → slice_get timed place ≡ Some x → has_right_finish comps timed x ≡ true) where
  -- a component is free in time for the event whose turn it is
  free_in_time : (c : Comp) (k : ℕ) (x : FiredEvent) → slice_get (in_order timed) k ≡ Some x → slice_get comps x.event.component ≡ Some c
      → free_of (after_serving comp_step c (of_component x.event.component (take k (in_order timed)))) < 2 ^ 60
  free_in_time c k x turn there =
      let place = place_of comps timed records are k x turn in
      let before = after_serving comp_step c (of_component x.event.component (take k (in_order timed))) in
      let low : x.finish < 2 ^ 60 = omega (arith, noted_finish comps timed records x.event.number x are place, (stands_at comps timed records x.event.number x are place).meaning.finish) in
      let found : finish_by comps timed x ≡ Some (finish_on c timed x) = ap (option_map (λ d. finish_on d timed x)) there in
      let same : x.finish ≡ finish_on c timed x = eqb-true x.finish (finish_on c timed x) (sym (ap (λ f. option_map_or (λ m. x.finish == m) f false) found) ∙ right x.event.number x place) in
      let ends : finish_on c timed x ≡ (comp_step before x.event.kind x.start).1 =
      ap (λ ys. (comp_step (after_serving comp_step c ys) x.event.kind x.start).1) (served_earlier x.event.component (in_order timed) k x (in_order_keys comps timed records are) turn) in
      omega (arith, low, same, ends, not_before_free before x.event.kind x.start)

  pub same_so_far : (number : ℕ) (c : Comp) → slice_get comps number ≡ Some c → (k : ℕ) → k ≤ length (in_order timed)
      → after_serving capped_step c (of_component number (take k (in_order timed))) ≡ after_serving comp_step c (of_component number (take k (in_order timed)))
  same_so_far number c there zero within = refl
  same_so_far number c there (suc k) within =
      let x = event_there (in_order timed) k (omega (arith, within)) in
      let before = same_so_far number c there k (omega (arith, within)) in
      let more : take (suc k) (in_order timed) ≡ take k (in_order timed) ++ x.0 ∷ [] = ap (λ n. take n (in_order timed)) (let one : suc k ≡ k + 1 = omega arith in one) ∙ take_on (in_order timed) k x.0 x.1 in
      rw more (elim (cases_eq x.0.event.component number) [
        | inl own ↦
            let free : free_of (after_serving comp_step c (of_component number (take k (in_order timed)))) < 2 ^ 60 =
            subst (λ n. free_of (after_serving comp_step c (of_component n (take k (in_order timed)))) < 2 ^ 60) own (free_in_time c k x.0 x.1 (ap (slice_get comps) own ∙ there)) in
            ap (after_serving capped_step c) (own_more number (take k (in_order timed)) x.0 own)
            ∙ (after_one_more capped_step c (of_component number (take k (in_order timed))) x.0
            ∙ (ap (λ d. (capped_step d x.0.event.kind x.0.start).0) before
            ∙ (ap (λ p. p.0) (steps_on (after_serving comp_step c (of_component number (take k (in_order timed)))) x.0.event.kind x.0.start free)
            ∙ (sym (after_one_more comp_step c (of_component number (take k (in_order timed))) x.0)
            ∙ sym (ap (after_serving comp_step c) (own_more number (take k (in_order timed)) x.0 own))))))
        | inr other ↦
            ap (after_serving capped_step c) (other_more number (take k (in_order timed)) x.0 other)
            ∙ (before ∙ sym (ap (after_serving comp_step c) (other_more number (take k (in_order timed)) x.0 other)))
      ])
