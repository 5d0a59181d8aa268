-- The first event of an interval that is wrong, in order of number.
use Rattle.std.proofs.Common.{◌≡◌, ◌<◌, ◌≤◌, ◌+◌, ◌==◌, ◌||◌, ℕ, zero, suc, Bool, true, false, not, if◌then◌else◌, List, [], ◌∷◌, length, Some, None, refl, ap, sym, ◌∙◌, subst, inl, inr, arith}
use Rattle.std.specs.Prelude.{slice_get}
use Rattle.std.specs.List.{find}
use Rattle.std.specs.Option.{option_map}
use Rattle.std.proofs.lemmas.Bool.{cases_eq, eq-eqb, ne_eqb}
use Rattle.std.proofs.lemmas.Option.{slice_get_within}
use Rattle.component.specs.declared.comp.Comp.{Comp}
use Rattle.event_graph.specs.OneListWeave.{FiredEvent, finish_in, start_of}
use Rattle.certify.specs.declared.verdict.Verdict.TheVariants.{Finish, Start}
use Rattle.certify.specs.Records.{AreFinishes, AreRecords, parents_let, record_at}
use Rattle.certify.specs.Verdict.{has_right_finish, has_right_start, is_wrong, wrong_as}
use Rattle.certify.proofs.Places.{event_there, let_start, noted_finish, number_at, stands_at}

-- ---- the first of a list that passes a test

find_first : (p : FiredEvent → Bool) (xs : List FiredEvent) (k : ℕ) (x : FiredEvent) → slice_get xs k ≡ Some x → p x ≡ true
    → ((j : ℕ) (y : FiredEvent) → j < k → slice_get xs j ≡ Some y → p y ≡ false) → find p xs ≡ Some x
find_first p [] k x is passes others = cc
find_first p (y ∷ ys) zero x is passes others =
    let same : y ≡ x = cc in
    rw (ap p same ∙ passes) is
find_first p (y ∷ ys) (suc k) x is passes others =
    rw (others 0 y (omega arith) refl) (find_first p ys k x is passes (λ j z below there. others (suc j) z (omega (arith, below)) there))

pub find_none : (p : FiredEvent → Bool) (xs : List FiredEvent) → ((j : ℕ) (y : FiredEvent) → slice_get xs j ≡ Some y → p y ≡ false) → find p xs ≡ None
find_none p [] others = refl
find_none p (y ∷ ys) others = rw (others 0 y refl) (find_none p ys (λ j z there. others (suc j) z there))

-- where none passes, the first does not, and none of the rest
none_of_both : (p : FiredEvent → Bool) (y : FiredEvent) (ys : List FiredEvent) → find p (y ∷ ys) ≡ None → (p y ≡ false) × (find p ys ≡ None)
none_of_both p y ys none = by_test (p y) refl none
  where
    by_test : (t : Bool) → p y ≡ t → (if t then Some y else find p ys) ≡ None → (p y ≡ false) × (find p ys ≡ None)
    by_test true passes found = cc
    by_test false fails rest = (fails, rest)

pub none_found : (p : FiredEvent → Bool) (xs : List FiredEvent) (k : ℕ) (x : FiredEvent) → find p xs ≡ None → slice_get xs k ≡ Some x → p x ≡ false
none_found p [] k x none is = cc
none_found p (y ∷ ys) zero x none is = (let same : y ≡ x = cc in subst (λ z. p z ≡ false) same (none_of_both p y ys none).0)
none_found p (y ∷ ys) (suc k) x none is = none_found p ys k x (none_of_both p y ys none).1 is

pub right_of : (a b : Bool) → (not a || not b) ≡ false → (a ≡ true) × (b ≡ true)
right_of true true is = (refl, refl)
right_of true false is = cc
right_of false b is = cc

-- ---- the first that is wrong

-- no event below a number is wrong
abbrev pub NoneIsWrong : List Comp → List FiredEvent → (number : ℕ) → Type 0
NoneIsWrong comps timed number = (k : ℕ) (x : FiredEvent) → k < number → slice_get timed k ≡ Some x → is_wrong comps timed x ≡ false

module _ (comps : List Comp) (timed : List FiredEvent) (records : List ℕ) (interval : ℕ) (finishes : List ℕ)
    (are : AreRecords comps timed records) (known : AreFinishes comps timed finishes) (k : ℕ) (none : NoneIsWrong comps timed k) where
  -- whether the start is right, by the records
  start_is : (x : FiredEvent) → slice_get timed k ≡ Some x → (x.start ≡ (record_at records k).start) × (start_of (finish_in timed) x.event ≡ parents_let records (record_at records k))
  start_is x is = (ap (λ (y : FiredEvent). y.start) (sym (stands_at comps timed records k x are is).is), sym (let_start comps timed records k x are is).is)

  right_start : (x : FiredEvent) → slice_get timed k ≡ Some x → (record_at records k).start ≡ parents_let records (record_at records k) → has_right_start timed x ≡ true
  right_start x is same = (let s = start_is x is in eq-eqb x.start (start_of (finish_in timed) x.event) (s.0 ∙ (same ∙ sym s.1)))

  not_right_start : (x : FiredEvent) → slice_get timed k ≡ Some x → ((record_at records k).start ≡ parents_let records (record_at records k) → ⊥) → has_right_start timed x ≡ false
  not_right_start x is other = (let s = start_is x is in ne_eqb x.start (start_of (finish_in timed) x.event) (λ same. other (sym s.0 ∙ (same ∙ s.1))))

  finish_is : (x : FiredEvent) (finish : ℕ) → slice_get timed k ≡ Some x → slice_get finishes k ≡ Some finish → has_right_finish comps timed x ≡ (x.finish == finish)
  finish_is x finish is there =
      let told = known k x is in
      let same : told.0 ≡ finish = (let both : Some told.0 ≡ Some finish = sym told.1 ∙ there in cc) in
      told.2 ∙ ap (λ f. x.finish == f) same

  finish_noted : (x : FiredEvent) → slice_get timed k ≡ Some x → x.finish ≡ (record_at records k).finish
  finish_noted x is = sym (noted_finish comps timed records k x are is)

  pub wrong_start : k < length timed → ((record_at records k).start ≡ parents_let records (record_at records k) → ⊥)
      → Some (Start interval k) ≡ option_map (wrong_as timed interval) (find (is_wrong comps timed) timed)
  wrong_start within other =
      let x = event_there timed k within in
      let right = not_right_start x.0 x.1 other in
      let wrong : is_wrong comps timed x.0 ≡ true = rw right refl in
      let said : wrong_as timed interval x.0 ≡ Start interval k = rw right (ap (Start interval) (number_at comps timed records k x.0 are x.1)) in
      sym (ap (option_map (wrong_as timed interval)) (find_first (is_wrong comps timed) timed k x.0 x.1 wrong none) ∙ ap Some said)

  pub wrong_finish : (finish : ℕ) → k < length timed → (record_at records k).start ≡ parents_let records (record_at records k) → slice_get finishes k ≡ Some finish
      → ((record_at records k).finish ≡ finish → ⊥) → Some (Finish interval k) ≡ option_map (wrong_as timed interval) (find (is_wrong comps timed) timed)
  wrong_finish finish within same there other =
      let x = event_there timed k within in
      let right = right_start x.0 x.1 same in
      let late : has_right_finish comps timed x.0 ≡ false = finish_is x.0 finish x.1 there ∙ ne_eqb x.0.finish finish (λ is. other (sym (finish_noted x.0 x.1) ∙ is)) in
      let wrong : is_wrong comps timed x.0 ≡ true = rw (right, late) refl in
      let said : wrong_as timed interval x.0 ≡ Finish interval k = rw right (ap (Finish interval) (number_at comps timed records k x.0 are x.1)) in
      sym (ap (option_map (wrong_as timed interval)) (find_first (is_wrong comps timed) timed k x.0 x.1 wrong none) ∙ ap Some said)

  pub still_none : (finish : ℕ) → (record_at records k).start ≡ parents_let records (record_at records k) → slice_get finishes k ≡ Some finish
      → (record_at records k).finish ≡ finish → NoneIsWrong comps timed (k + 1)
  still_none finish same there ends j y below is =
      elim (cases_eq j k) [
        | inl here ↦
            let at : slice_get timed k ≡ Some y = sym (ap (slice_get timed) here) ∙ is in
            let right = right_start y at same in
            let on_time : has_right_finish comps timed y ≡ true = finish_is y finish at there ∙ eq-eqb y.finish finish (finish_noted y at ∙ ends) in
            rw (right, on_time) refl
        | inr other ↦ none j y (omega (arith, below, other)) is
      ]

  pub all_right : length timed ≤ k → None ≡ option_map (wrong_as timed interval) (find (is_wrong comps timed) timed)
  all_right all =
      sym (ap (option_map (wrong_as timed interval)) (find_none (is_wrong comps timed) timed (λ j y is. none j y (omega (arith, all, slice_get_within timed j y is)) is)))
