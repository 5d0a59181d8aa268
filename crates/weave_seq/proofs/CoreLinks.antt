-- One event more is linked to the next one of its core.
use Rattle.std.proofs.Common.{◌≡◌, ◌<◌, ◌≤◌, ◌+◌, ℕ, List, length, get_or, set, replicate, inl, inr, All, Option, Some, None, sym, ◌∙◌, ap, subst, refl, arith, length-set}
use Rattle.std.specs.Prelude.{slice_get, slice_index, slice_index_or}
use Rattle.std.proofs.lemmas.Bool.{cases_eq}
use Rattle.std.proofs.lemmas.List.{get_or-replicate, get_or-set_other, get_or-set_same}
use Rattle.event_graph.specs.declared.event.Event.{Event}
use Rattle.event_graph.specs.Numbered.{IsNumbered}
use Rattle.event_graph.proofs.Lists.{at_in, get_read, get_within}
use Rattle.weave_seq.specs.ByCore.{AreFirstFrom, AreFollowedFrom, IsFirstFrom, IsFollowedBy, IsOfCore}
use Rattle.weave_seq.proofs.Firing.{by_all}

-- 0 for none
abbrev pub next_of : Option ℕ → ℕ
next_of None = 0
next_of (Some number) = number

pub all_linked : (events : List Event) (following : List ℕ) → AreFollowedFrom events (length events) following
all_linked events following number e at from = absurd (omega (arith, from, get_within events number e at))

none_behind : (events : List Event) (core : ℕ) (o : Option ℕ) → o ≡ None → IsFirstFrom events (length events) core o
none_behind events core None is = λ k of. get_within events k of.event of.there
none_behind events core (Some n) is = absurd (cc)

pub none_first : (events : List Event) (firsts : List (Option ℕ)) → firsts ≡ replicate (length firsts) None → AreFirstFrom events (length events) firsts
none_first events firsts is core l =
    none_behind events core (slice_index_or firsts core None) (ap (λ xs. slice_index_or xs core None) is ∙ get_or-replicate (length firsts) core None None l)

module _ (events : List Event) (numbered : IsNumbered events) (old from : ℕ) (old_is : old ≡ from + 1) (within : from < length events) (d : Event) (firsts : List (Option ℕ)) (cores : All (λ e. e.core < length firsts) events)
    (first : AreFirstFrom events old firsts) where
  there : slice_get events from ≡ Some (get_or events from d)
  there = get_read events from d within

  pub number : (get_or events from d).number ≡ from
  number = numbered.number from (get_or events from d) there

  pub core_within : (get_or events from d).core < length firsts
  core_within = by_all (λ e. e.core < length firsts) events cores (get_or events from d) (at_in (get_or events from d) events from there)

  here : IsOfCore events from (get_or events from d).core
  here = record { event = get_or events from d; there = there; of = refl }

  followed : (o : Option ℕ) → IsFirstFrom events old (get_or events from d).core o → IsFollowedBy events from (get_or events from d).core (next_of o)
  followed None h = record {
    behind = λ z. absurd (omega (arith, z));
    of_core = λ z. absurd (omega (arith, z));
    nearest = λ k of l. absurd (omega (arith, h k of, l, old_is));
  }
  followed (Some n) h = record {
    behind = λ z. omega (arith, h.0, old_is);
    of_core = λ z. h.1.0;
    nearest = λ k of l. (omega (arith, h.0, old_is), h.1.1 k of (omega (arith, l, old_is)));
  }

  module _ (following : List ℕ) (size : length following ≡ length events) (links : AreFollowedFrom events old following) where
    pub one_linked : (o : Option ℕ) → slice_index_or firsts (get_or events from d).core None ≡ o → (following' : List ℕ) → following' ≡ set following from (next_of o) → AreFollowedFrom events from following'
    one_linked o is following' following_is n e at l =
        elim (cases_eq n from) [
          | inl same ↦
              let e_is : get_or events from d ≡ e = (let a : slice_get events from ≡ Some e = subst (λ z. slice_get events z ≡ Some e) same at in let b : slice_get events from ≡ Some (get_or events from d) = there in cc) in
              let next_is : slice_index following' n ≡ next_of o =
              ap (λ xs. slice_index xs n) following_is ∙ (ap (λ z. slice_index (set following from (next_of o)) z) same ∙ get_or-set_same following from (next_of o) 0 (omega (arith, within, size)))
              in
              let f : IsFollowedBy events from (get_or events from d).core (next_of o) = followed o (subst (λ q. IsFirstFrom events old (get_or events from d).core q) is (first (get_or events from d).core core_within)) in
              subst (λ z. IsFollowedBy events n e.core z) (sym next_is)
              (subst (λ (z : Event). IsFollowedBy events n z.core (next_of o)) e_is (subst (λ z. IsFollowedBy events z (get_or events from d).core (next_of o)) (sym same) f))
          | inr ne ↦
              let next_is : slice_index following' n ≡ slice_index following n = ap (λ xs. slice_index xs n) following_is ∙ get_or-set_other following from n (next_of o) 0 ne in
              subst (λ z. IsFollowedBy events n e.core z) (sym next_is) (links n e at (omega (arith, l, ne, old_is)))
        ]

  still_first : (core : ℕ) → (core ≡ (get_or events from d).core → ⊥) → (o : Option ℕ) → IsFirstFrom events old core o → IsFirstFrom events from core o
  still_first core ne None h =
      λ k of.
      elim (cases_eq k from) [
        | inl same ↦
            let at : slice_get events from ≡ Some of.event = subst (λ z. slice_get events z ≡ Some of.event) same of.there in
            let e_is : get_or events from d ≡ of.event = (let b : slice_get events from ≡ Some (get_or events from d) = there in cc) in
            absurd (ne (sym of.of ∙ ap (λ (z : Event). z.core) (sym e_is)))
        | inr other ↦ omega (arith, h k of, other, old_is)
      ]
  still_first core ne (Some n) h =
      let nearest : (k : ℕ) → IsOfCore events k core → from ≤ k → n ≤ k =
      λ k of l.
      elim (cases_eq k from) [
        | inl same ↦
            let at : slice_get events from ≡ Some of.event = subst (λ z. slice_get events z ≡ Some of.event) same of.there in
            let e_is : get_or events from d ≡ of.event = (let b : slice_get events from ≡ Some (get_or events from d) = there in cc) in
            absurd (ne (sym of.of ∙ ap (λ (z : Event). z.core) (sym e_is)))
        | inr other ↦ h.1.1 k of (omega (arith, l, other, old_is))
      ]
      in
      (omega (arith, h.0, old_is), (h.1.0, nearest))

  pub one_first : (firsts' : List (Option ℕ)) (n core : ℕ) → n ≡ (get_or events from d).number → core ≡ (get_or events from d).core → firsts' ≡ set firsts core (Some n) → AreFirstFrom events from firsts'
  one_first firsts' n at n_is at_is firsts_is core l =
      elim (cases_eq core (get_or events from d).core) [
        | inl same ↦
            let is : slice_index_or firsts' core None ≡ Some n =
            ap (λ xs. slice_index_or xs core None) firsts_is ∙ (ap (λ z. slice_index_or (set firsts at (Some n)) z None) (same ∙ sym at_is) ∙ get_or-set_same firsts at (Some n) None (omega (arith, core_within, at_is)))
            in
            let n_from : from ≡ n = sym number ∙ sym n_is in
            let now : IsFirstFrom events from core (Some from) = (omega arith, (subst (λ z. IsOfCore events from z) (sym same) here, λ k of le. le)) in
            subst (λ o. IsFirstFrom events from core o) (sym is) (subst (λ z. IsFirstFrom events from core (Some z)) n_from now)
        | inr ne ↦
            let is : slice_index_or firsts' core None ≡ slice_index_or firsts core None =
            ap (λ xs. slice_index_or xs core None) firsts_is ∙ get_or-set_other firsts at core (Some n) None (λ q. ne (q ∙ at_is))
            in
            let size : length firsts' ≡ length firsts = ap length firsts_is ∙ length-set firsts at (Some n) in
            subst (λ o. IsFirstFrom events from core o) (sym is) (still_first core ne (slice_index_or firsts core None) (first core (omega (arith, l, size))))
      ]
