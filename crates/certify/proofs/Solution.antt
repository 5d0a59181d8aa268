-- Timed events of which none is wrong solve the timing rules.
use Rattle.std.proofs.Common.{◌≡◌, ◌==◌, ℕ, zero, suc, true, false, List, [], ◌∷◌, ◌++◌, All, map, take, drop, Some, None, refl, ap, sym, ◌∙◌, subst, inl, inr, arith, add-one}
use Rattle.std.specs.Prelude.{IsTrue, slice_get}
use Rattle.std.specs.List.{find}
use Rattle.std.specs.Option.{option_map, option_map_or}
use Rattle.std.proofs.lemmas.Bool.{cases_eq, eq-eqb, eqb-true, ne_eqb}
use Rattle.std.proofs.lemmas.List.Elements.{All-cons, All-nil}
use Rattle.std.proofs.lemmas.List.Kept.{AllPairs-cons}
use Rattle.std.proofs.lemmas.List.Sorted.{Contains-permutation, IsPermutation-sym}
use Rattle.std.proofs.lemmas.Option.{slice_get-get_or}
use Rattle.component.specs.declared.comp.Comp.{Comp}
use Rattle.component.specs.ComponentStep.{comp_step}
use Rattle.event_graph.specs.OneListWeave.{FiredEvent, finish_in, is_event_before, start_of}
use Rattle.event_graph.specs.ServedEvents.{after_serving, of_component}
use Rattle.event_graph.specs.TimingSolution.{IsInOrder, IsSolution, ServesInTurn}
use Rattle.certify.specs.Records.{AreRecords, key_of}
use Rattle.certify.specs.Verdict.{finish_by, finish_on, has_right_finish, has_right_start, in_order, is_wrong}
use Rattle.certify.proofs.FirstWrong.{none_found, right_of}
use Rattle.certify.proofs.InOrder.{order_moves, served_earlier}
use Rattle.certify.proofs.KeyOrder.{AreInOrder, IsFirst}
use Rattle.certify.proofs.Lists.{after_one_more, other_more, own_more, take_on}
use Rattle.certify.proofs.Sorting.{in_order_keys, place_of}

-- ---- lists

-- what stands at a place, and behind it
next_of : {A : Type 0} (xs : List A) (k : ℕ) (x : A) (ys : List A) → drop k xs ≡ x ∷ ys → (slice_get xs k ≡ Some x) × (drop (suc k) xs ≡ ys)
next_of [] zero x ys is = cc
next_of [] (suc k) x ys is = cc
next_of (z ∷ zs) zero x ys is = (cc, cc)
next_of (z ∷ zs) (suc k) x ys is = next_of zs k x ys is

-- ---- in order

all_later : (x : FiredEvent) (ys : List FiredEvent) → IsFirst (key_of x) (map key_of ys) → All (λ y. IsTrue (is_event_before x.event x.start y.event y.start)) ys
all_later x [] first = All-nil (λ y. IsTrue (is_event_before x.event x.start y.event y.start))
all_later x (y ∷ ys) first = All-cons (λ z. IsTrue (is_event_before x.event x.start z.event z.start)) y ys first.0 (all_later x ys first.1)

pub all_in_order : (xs : List FiredEvent) → AreInOrder (map key_of xs) → IsInOrder xs
all_in_order [] order = λ i j d below within. absurd (omega (arith, within))
all_in_order (x ∷ xs) order = AllPairs-cons (λ a b. IsTrue (is_event_before a.event a.start b.event b.start)) x xs (all_later x xs order.0) (all_in_order xs order.1)

-- ---- a component serves its events in turn

module _ (c : Comp) (number : ℕ) (xs : List FiredEvent)
    (right : (k : ℕ) (x : FiredEvent) → slice_get xs k ≡ Some x → x.event.component ≡ number
    → x.finish ≡ (comp_step (after_serving comp_step c (of_component number (take k xs))) x.event.kind x.start).1) where
  turns_from : (rest : List FiredEvent) (k : ℕ) → drop k xs ≡ rest → ServesInTurn comp_step (after_serving comp_step c (of_component number (take k xs))) (of_component number rest)
  turns_from [] k is = tt
  turns_from (x ∷ ys) k is =
      let next = next_of xs k x ys is in
      let more : take (suc k) xs ≡ take k xs ++ x ∷ [] = ap (λ n. take n xs) (sym (add-one k)) ∙ take_on xs k x next.0 in
      let others = turns_from ys (suc k) next.1 in
      elim (cases_eq x.event.component number) as (λ _. ServesInTurn comp_step (after_serving comp_step c (of_component number (take k xs))) (of_component number (x ∷ ys))) [
        | inl own ↦
            let stepped : after_serving comp_step c (of_component number (take (suc k) xs)) ≡ (comp_step (after_serving comp_step c (of_component number (take k xs))) x.event.kind x.start).0 =
            ap (λ zs. after_serving comp_step c (of_component number zs)) more ∙ (ap (after_serving comp_step c) (own_more number (take k xs) x own) ∙ after_one_more comp_step c (of_component number (take k xs)) x) in
            rw (eq-eqb x.event.component number own) (right k x next.0 own, subst (λ d. ServesInTurn comp_step d (of_component number ys)) stepped others)
        | inr other ↦
            let stays : after_serving comp_step c (of_component number (take (suc k) xs)) ≡ after_serving comp_step c (of_component number (take k xs)) =
            ap (λ zs. after_serving comp_step c (of_component number zs)) more ∙ ap (after_serving comp_step c) (other_more number (take k xs) x other) in
            rw (ne_eqb x.event.component number other) (subst (λ d. ServesInTurn comp_step d (of_component number ys)) stays others)
      ]

  pub in_turn : ServesInTurn comp_step c (of_component number xs)
  in_turn = turns_from xs 0 refl

-- ---- none is wrong

finish_right : (comps : List Comp) (timed : List FiredEvent) (x : FiredEvent) (c : Comp) → has_right_finish comps timed x ≡ true → slice_get comps x.event.component ≡ Some c → x.finish ≡ finish_on c timed x
finish_right comps timed x c is there =
    let found : finish_by comps timed x ≡ Some (finish_on c timed x) = ap (option_map (λ d. finish_on d timed x)) there in
    eqb-true x.finish (finish_on c timed x) (sym (ap (λ o. option_map_or (λ finish. x.finish == finish) o false) found) ∙ is)

pub solved : (comps : List Comp) (timed : List FiredEvent) (records : List ℕ) → AreRecords comps timed records → find (is_wrong comps timed) timed ≡ None
    → IsSolution comp_step (map (λ x. x.event) timed) comps timed
solved comps timed records are none =
    let order = in_order_keys comps timed records are in
    let right : (k : ℕ) (x : FiredEvent) → slice_get timed k ≡ Some x → (has_right_start timed x ≡ true) × (has_right_finish comps timed x ≡ true) =
    λ k x is. right_of (has_right_start timed x) (has_right_finish comps timed x) (none_found (is_wrong comps timed) timed k x none is) in
    record {
      events_are = refl;
      starts = λ x among.
          let is : slice_get timed among.0 ≡ Some x = slice_get-get_or timed among.0 x among.1 ∙ ap Some among.2 in
          eqb-true x.start (start_of (finish_in timed) x.event) (right among.0 x is).0;
      sorted = in_order timed;
      in_order = all_in_order (in_order timed) order;
      same = λ x. (
        Contains-permutation (in_order timed) timed x (IsPermutation-sym timed (in_order timed) (order_moves timed)),
        Contains-permutation timed (in_order timed) x (order_moves timed),
      );
      finishes = λ number c there. in_turn c number (in_order timed) (λ k x is own.
          let at = place_of comps timed records are k x is in
          finish_right comps timed x c (right x.event.number x at).1 (ap (slice_get comps) own ∙ there)
          ∙ ap (λ zs. (comp_step (after_serving comp_step c zs) x.event.kind x.start).1)
          (served_earlier x.event.component (in_order timed) k x order is ∙ ap (λ n. of_component n (take k (in_order timed))) own));
    }
