-- All events of an interval were served.
use Rattle.std.proofs.Common.{◌≡◌, ◌≤◌, ℕ, suc, true, List, [], ◌∷◌, length, map, take, Option, Some, None, refl, ap, sym, ◌∙◌, subst, inl, inr, arith}
use Rattle.std.specs.Prelude.{slice_get}
use Rattle.std.specs.List.{find}
use Rattle.std.specs.Option.{option_map}
use Rattle.std.proofs.lemmas.List.{length-map, take_all}
use Rattle.std.proofs.lemmas.List.Sorted.{length_permutation}
use Rattle.std.proofs.lemmas.Bool.{cases_lt}
use Rattle.std.proofs.lemmas.Option.{slice_get_past, slice_get_within}
use Rattle.component.specs.declared.comp.Comp.{Comp}
use Rattle.component.specs.ComponentStep.{comp_step}
use Rattle.event_graph.specs.OneListWeave.{FiredEvent}
use Rattle.event_graph.specs.ServedEvents.{after_serving, of_component}
use Rattle.zs_num.specs.declared.time.Key.{Key}
use Rattle.certify.specs.Records.{AreFinishes, AreRecords, key_of}
use Rattle.certify.specs.ShortTimes.{capped_step}
use Rattle.certify.specs.Verdict.{after_all, has_right_finish, has_right_start, in_order, is_wrong}
use Rattle.certify.proofs.Capped.{capped_by, finish_tells, same_so_far}
use Rattle.certify.proofs.FirstWrong.{none_found, right_of}
use Rattle.certify.proofs.InOrder.{order_moves}
use Rattle.certify.proofs.Intervals.{after_is}
use Rattle.certify.proofs.Places.{event_there, noted_finish, number_at, stands_at}
use Rattle.certify.proofs.Serving.{HaveServed}
use Rattle.certify.proofs.Sorting.{turn_of}

pub same_by_get : {A : Type 0} (xs ys : List A) → ((i : ℕ) → slice_get xs i ≡ slice_get ys i) → xs ≡ ys
same_by_get [] [] same = refl
same_by_get [] (y ∷ ys) same = (let none : None ≡ Some y = same 0 in cc)
same_by_get (x ∷ xs) [] same = (let none : Some x ≡ None = same 0 in cc)
same_by_get (x ∷ xs) (y ∷ ys) same =
    let first : Some x ≡ Some y = same 0 in
    let heads : x ≡ y = cc in
    ap (λ z. z ∷ xs) heads ∙ ap (λ zs. y ∷ zs) (same_by_get xs ys (λ i. same (suc i)))

as_many : (timed : List FiredEvent) (keys : List Key) → keys ≡ map key_of (in_order timed) → length keys ≡ length (in_order timed)
as_many timed keys are = ap length are ∙ length-map (in_order timed) key_of

-- where all finishes are right
pub comps_after_all : (served : List Comp) (timed : List FiredEvent) (records : List ℕ) (comps : List Comp) (finishes : List ℕ) (keys : List Key) (count : ℕ) → AreRecords served timed records
    → keys ≡ map key_of (in_order timed) → length keys ≤ count → HaveServed served timed comps finishes count
    → find (is_wrong served timed) timed ≡ None → comps ≡ after_all served timed
comps_after_all served timed records comps finishes keys count are keys_are all have none =
    let whole : take count (in_order timed) ≡ in_order timed = take_all count (in_order timed) (omega (arith, all, as_many timed keys keys_are)) in
    let end : take (length (in_order timed)) (in_order timed) ≡ in_order timed = take_all (length (in_order timed)) (in_order timed) (omega arith) in
    same_by_get comps (after_all served timed) (λ i.
    have.comps_are i ∙ (ap (λ xs. option_map (λ c. after_serving capped_step c (of_component i xs)) (slice_get served i)) whole
    ∙ (alike_or_none i end (slice_get served i) refl ∙ sym (after_is served timed i))))
  where
    right : (place : ℕ) (x : FiredEvent) → slice_get timed place ≡ Some x → has_right_finish served timed x ≡ true
    right place x is = (right_of (has_right_start timed x) (has_right_finish served timed x) (none_found (is_wrong served timed) timed place x none is)).1

    alike_or_none : (i : ℕ) → take (length (in_order timed)) (in_order timed) ≡ in_order timed → (o : Option Comp) → slice_get served i ≡ o
        → option_map (λ c. after_serving capped_step c (of_component i (in_order timed))) o ≡ option_map (λ c. after_serving comp_step c (of_component i (in_order timed))) o
    alike_or_none i end None there = refl
    alike_or_none i end (Some c) there =
        ap Some (subst (λ xs. after_serving capped_step c (of_component i xs) ≡ after_serving comp_step c (of_component i xs)) end
        (same_so_far served timed records are right i c there (length (in_order timed)) (omega arith)))

pub finishes_after_all : (served : List Comp) (timed : List FiredEvent) (records : List ℕ) (comps : List Comp) (finishes : List ℕ) (keys : List Key) (count : ℕ) → AreRecords served timed records
    → keys ≡ map key_of (in_order timed) → length keys ≤ count → HaveServed served timed comps finishes count → AreFinishes served timed finishes
finishes_after_all served timed records comps finishes keys count are keys_are all have place x is =
    let turn = turn_of served timed records are place x is in
    let below = slice_get_within (in_order timed) turn.0 x turn.1 in
    let here : slice_get finishes place ≡ capped_by served timed x =
    subst (λ n. slice_get finishes n ≡ capped_by served timed x) (number_at served timed records place x are is)
    (have.finishes_are turn.0 x (omega (arith, below, all, as_many timed keys keys_are)) turn.1) in
    let stands = stands_at served timed records place x are is in
    finish_tells served timed x (omega (arith, noted_finish served timed records place x are is, stands.meaning.finish)) (slice_get finishes place) here stands.component
    (ap (slice_get served) (sym (ap (λ (y : FiredEvent). y.event.component) stands.is)) ∙ stands.there)

-- records are of one list of events
pub one_timed : (comps : List Comp) (timed others : List FiredEvent) (records : List ℕ) → AreRecords comps timed records → AreRecords comps others records → timed ≡ others
one_timed comps timed others records are also = same_by_get timed others (λ place.
    elim (cases_lt place (length timed)) [
      | inl within ↦
          let x = event_there timed place within in
          let y = event_there others place (omega (arith, within, are.long, also.long)) in
          x.1 ∙ (sym (are.each place x.0 x.1) ∙ (also.each place y.0 y.1 ∙ sym y.1))
      | inr past ↦ slice_get_past timed place past ∙ sym (slice_get_past others place (omega (arith, past, are.long, also.long)))
    ])

-- there are as many keys as events
pub keys_count : (timed : List FiredEvent) (keys : List Key) → keys ≡ map key_of (in_order timed) → length keys ≡ length timed
keys_count timed keys are = as_many timed keys are ∙ length_permutation timed (in_order timed) (order_moves timed)
