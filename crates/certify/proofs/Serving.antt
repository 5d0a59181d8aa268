-- Components that serve the events of an interval in order: where they are, and the finishes so far.
use Rattle.std.proofs.Common.{◌≡◌, ◌<◌, ◌+◌, ℕ, inl, inr, List, [], ◌∷◌, ◌++◌, length, map, take, get_or, Option, Some, None, refl, ap, sym, ◌∙◌, subst, arith, length-set}
use Rattle.std.specs.Prelude.{slice_get, slice_set}
use Rattle.std.specs.Option.{option_map}
use Rattle.std.proofs.lemmas.Bool.{cases_eq}
use Rattle.std.proofs.lemmas.Option.{slice_get-get_or}
use Rattle.component.specs.declared.comp.Comp.{Comp}
use Rattle.event_graph.specs.OneListWeave.{FiredEvent}
use Rattle.event_graph.specs.ServedEvents.{after_serving, of_component}
use Rattle.certify.specs.Records.{key_of}
use Rattle.certify.specs.ShortTimes.{capped_step}
use Rattle.certify.specs.Verdict.{in_order}
use Rattle.certify.proofs.Capped.{capped_by, capped_on}
use Rattle.certify.proofs.InOrder.{served_earlier}
use Rattle.certify.proofs.KeyOrder.{AreInOrder}
use Rattle.certify.proofs.Lists.{after_one_more, get_set, get_set_other, other_more, own_more, take_on}

-- ---- the first events in order were served

-- the component of this number after it served its own of some
abbrev pub after_own : List Comp → (number : ℕ) → List FiredEvent → Option Comp
after_own served number xs = option_map (λ c. after_serving capped_step c (of_component number xs)) (slice_get served number)

pub record HaveServed (served : List Comp) (timed : List FiredEvent) (comps : List Comp) (finishes : List ℕ) (count : ℕ) : Type 0 where
  pub comps_are : (number : ℕ) → slice_get comps number ≡ after_own served number (take count (in_order timed))
  pub finishes_are : (k : ℕ) (x : FiredEvent) → k < count → slice_get (in_order timed) k ≡ Some x → slice_get finishes x.event.number ≡ capped_by served timed x
  pub long : length finishes ≡ length timed
  pub many : length comps ≡ length served

pub none_served : (served : List Comp) (timed : List FiredEvent) (finishes : List ℕ) → length finishes ≡ length timed → HaveServed served timed served finishes 0
none_served served timed finishes long = record {
  comps_are = λ number. itself (slice_get served number);
  finishes_are = λ k x below is. absurd (omega (arith, below));
  long = long;
  many = refl;
}
  where
    itself : (o : Option Comp) → o ≡ option_map (λ c. after_serving capped_step c []) o
    itself None = refl
    itself (Some c) = refl

-- the next event is served
module _ (served : List Comp) (timed : List FiredEvent) (comps : List Comp) (finishes : List ℕ) (k : ℕ) (x : FiredEvent) (c : Comp)
    (have : HaveServed served timed comps finishes k) (order : AreInOrder (map key_of (in_order timed))) (turn : slice_get (in_order timed) k ≡ Some x)
    (numbers : (j : ℕ) (y : FiredEvent) → slice_get (in_order timed) j ≡ Some y → y.event.number < length timed)
    (apart : (j : ℕ) (y : FiredEvent) → slice_get (in_order timed) j ≡ Some y → y.event.number ≡ x.event.number → y ≡ x)
    (there : slice_get comps x.event.component ≡ Some c) where
  abbrev pub after : List Comp
  after = slice_set comps x.event.component (capped_step c x.event.kind x.start).0

  more_is : take (k + 1) (in_order timed) ≡ take k (in_order timed) ++ x ∷ []
  more_is = take_on (in_order timed) k x turn

  -- the component before it, of those at the start
  was : (o : Option Comp) (xs : List FiredEvent) → Some c ≡ option_map (λ d. after_serving capped_step d xs) o → (d : Comp) × (o ≡ Some d) × (c ≡ after_serving capped_step d xs)
  was None xs is = cc
  was (Some d) xs is = (d, refl, cc)

  before : (d : Comp) × (slice_get served x.event.component ≡ Some d) × (c ≡ after_serving capped_step d (of_component x.event.component (take k (in_order timed))))
  before = was (slice_get served x.event.component) (of_component x.event.component (take k (in_order timed))) (sym there ∙ have.comps_are x.event.component)

  comp_at : (number : ℕ) → slice_get after number ≡ after_own served number (take (k + 1) (in_order timed))
  comp_at number =
      elim (cases_eq x.event.component number) [
        | inl own ↦
            let stepped : Comp = (capped_step c x.event.kind x.start).0 in
            let here : slice_get (slice_set comps x.event.component stepped) number ≡ Some stepped = ap (slice_get (slice_set comps x.event.component stepped)) (sym own) ∙ get_set comps x.event.component c stepped there in
            let whole : of_component number (take (k + 1) (in_order timed)) ≡ of_component x.event.component (take k (in_order timed)) ++ x ∷ [] =
            ap (of_component number) more_is ∙ (own_more number (take k (in_order timed)) x own ∙ ap (λ n. of_component n (take k (in_order timed)) ++ x ∷ []) (sym own)) in
            let first : slice_get served number ≡ Some before.0 = ap (slice_get served) (sym own) ∙ before.1 in
            here ∙ (ap Some (ap (λ d. (capped_step d x.event.kind x.start).0) before.2 ∙ (sym (after_one_more capped_step before.0 (of_component x.event.component (take k (in_order timed))) x)
            ∙ ap (after_serving capped_step before.0) (sym whole))) ∙ sym (ap (option_map (λ d. after_serving capped_step d (of_component number (take (k + 1) (in_order timed))))) first))
        | inr other ↦
            get_set_other comps x.event.component number (capped_step c x.event.kind x.start).0 other
            ∙ (have.comps_are number
            ∙ ap (λ xs. option_map (λ d. after_serving capped_step d xs) (slice_get served number)) (sym (ap (of_component number) more_is ∙ other_more number (take k (in_order timed)) x other)))
      ]

  -- its finish is what is to be
  finish_is : Some (capped_step c x.event.kind x.start).1 ≡ capped_by served timed x
  finish_is =
      ap Some (ap (λ d. (capped_step d x.event.kind x.start).1) (before.2 ∙ ap (after_serving capped_step before.0) (sym (served_earlier x.event.component (in_order timed) k x order turn))))
      ∙ sym (ap (option_map (λ d. capped_on d timed x)) before.1)

  within : x.event.number < length finishes
  within = omega (arith, numbers k x turn, have.long)

  finish_at : (j : ℕ) (y : FiredEvent) → j < k + 1 → slice_get (in_order timed) j ≡ Some y
      → slice_get (slice_set finishes x.event.number (capped_step c x.event.kind x.start).1) y.event.number ≡ capped_by served timed y
  finish_at j y below is =
      let old : slice_get finishes x.event.number ≡ Some (get_or finishes x.event.number 0) = slice_get-get_or finishes x.event.number 0 within in
      elim (cases_eq x.event.number y.event.number) [
        | inl same ↦
            let one : y ≡ x = apart j y is (sym same) in
            subst (λ z. slice_get (slice_set finishes x.event.number (capped_step c x.event.kind x.start).1) z.event.number ≡ capped_by served timed z) (sym one)
            (get_set finishes x.event.number (get_or finishes x.event.number 0) (capped_step c x.event.kind x.start).1 old ∙ finish_is)
        | inr other ↦
            let earlier : j < k = elim (cases_eq j k) [
              | inl same ↦
                  let one : x ≡ y = (let at : slice_get (in_order timed) k ≡ Some y = sym (ap (slice_get (in_order timed)) same) ∙ is in cc) in
                  absurd (other (ap (λ z. z.event.number) one))
              | inr apart_places ↦ omega (arith, below, apart_places)
            ] in
            get_set_other finishes x.event.number y.event.number (capped_step c x.event.kind x.start).1 other ∙ have.finishes_are j y earlier is
      ]

  pub one_more_served : HaveServed served timed after (slice_set finishes x.event.number (capped_step c x.event.kind x.start).1) (k + 1)
  one_more_served = record {
    comps_are = comp_at;
    finishes_are = finish_at;
    long = length-set finishes x.event.number (capped_step c x.event.kind x.start).1 ∙ have.long;
    many = length-set comps x.event.component (capped_step c x.event.kind x.start).0 ∙ have.many;
  }
