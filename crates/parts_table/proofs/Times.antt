-- Times of parts never fall, and no access is past its core's L1.
use Rattle.std.proofs.Common.{◌≡◌, ℕ, ◌+◌, ◌≤◌, Bool, true, false, List, [], ◌∷◌, All, refl, sym, ◌∙◌, ap, subst, arith, inl, inr}
use Rattle.std.specs.Prelude.{◌&&◌, not, nat_eq}
use Rattle.std.specs.Set.{is_member}
use Rattle.std.proofs.lemmas.Bool.{cases_Bool, cases_eq, cases_lt, ne_eqb}
use Rattle.std.proofs.lemmas.List.Elements.{All-cons}
use Rattle.parts_table.specs.declared.part.TimedPart.{TimedPart}
use Rattle.parts_table.specs.declared.view.Made.{Made}
use Rattle.parts_table.specs.TurnOrder.{by_core}
use Rattle.parts_table.specs.World.{AreRight, IsRight, World, after, bank_for, bank_of_made, is_alone, lived, touches}
use Rattle.parts_table.proofs.ByCore.{other_first, own_first}
use Rattle.parts_table.proofs.Locality.{alone_touched, in_homes, in_l1s, other_after, own_touched, time_moved, touched_after}

module _ (cores banks : ℕ) (w : World) (a : Made) where
  -- what the core's own L1 serves alone touches that and nothing else
  pub only_own : is_alone cores banks w a ≡ true → (k : ℕ) → touches cores banks w a k ≡ true → k ≡ a.entry.core
  only_own alone k is =
      elim (cases_lt k cores) as (λ _. k ≡ a.entry.core) [
        | inl within ↦
            let one : is_member nat_eq (a.entry.core ∷ []) k ≡ true =
            ap (λ (cs : List ℕ). is_member nat_eq cs k) (sym (alone_touched (bank_for cores banks w a) a.entry.core a.entry.request alone)) ∙ (sym (in_l1s cores banks w a k within) ∙ is) in
            elim (cases_eq k a.entry.core) as (λ _. k ≡ a.entry.core) [
              | inl same ↦ same
              | inr other ↦ absurd (let no : is_member nat_eq (a.entry.core ∷ []) k ≡ false = rw (ne_eqb k a.entry.core other) refl in let bad : true ≡ false = sym one ∙ no in cc)
            ]
        | inr past ↦ absurd (
            let at : (nat_eq k (cores + bank_of_made cores banks a) && not (is_alone cores banks w a)) ≡ true = sym (in_homes cores banks w a k past) ∙ is in
            let no : (nat_eq k (cores + bank_of_made cores banks a) && not (is_alone cores banks w a)) ≡ false = rw alone (none (nat_eq k (cores + bank_of_made cores banks a))) in
            let bad : true ≡ false = sym at ∙ no in cc)
      ]
    where
      none : (b : Bool) → (b && false) ≡ false
      none true = refl
      none false = refl

  module _ (right : IsRight cores banks w a) where
    pub own_time : (after cores banks w a a.entry.core).time ≡ a.time
    own_time =
        ap (λ (x : TimedPart). x.time) (touched_after cores banks w a a.entry.core (own_touched cores banks w a right.known))
        ∙ time_moved cores banks w a a.entry.core

    shared_is : (b : Bool) → is_alone cores banks w a ≡ b → a.shared ≡ not b
    shared_is b is = right.shared ∙ ap not is

    pub never_falls : (k : ℕ) → (w k).time ≤ (after cores banks w a k).time
    never_falls k =
        elim (cases_Bool (touches cores banks w a k)) as (λ _. (w k).time ≤ (after cores banks w a k).time) [
          | inl is ↦
              let time : (after cores banks w a k).time ≡ a.time = ap (λ (x : TimedPart). x.time) (touched_after cores banks w a k is) ∙ time_moved cores banks w a k in
              elim (cases_Bool (is_alone cores banks w a)) as (λ _. (w k).time ≤ (after cores banks w a k).time) [
                | inl alone ↦
                    let own : k ≡ a.entry.core = only_own alone k is in
                    let was : a.time ≡ (w a.entry.core).time = right.alone (shared_is true alone) in
                    let here : (w k).time ≡ (w a.entry.core).time = ap (λ (n : ℕ). (w n).time) own in
                    omega (arith, time, was, here)
                | inr shared ↦ let later = right.later (shared_is false shared) k is in omega (arith, time, later)
              ]
          | inr is ↦ let same = ap (λ (x : TimedPart). x.time) (other_after cores banks w a k is) in omega (arith, same)
        ]

pub never_fall : (cores banks : ℕ) (w : World) (list : List Made) → AreRight cores banks w list → (k : ℕ) → (w k).time ≤ (lived cores banks w list k).time
never_fall cores banks w [] right k = omega arith
never_fall cores banks w (a ∷ list) right k =
    let one = never_falls cores banks w a right.0 k in
    let others = never_fall cores banks (after cores banks w a) list right.1 k in
    omega (arith, one, others)

-- no access of a core is past its L1
pub own_risen : (cores banks : ℕ) (w : World) (list : List Made) → AreRight cores banks w list → (core : ℕ) → All (λ a. a.time ≤ (lived cores banks w list core).time) (by_core core list)
own_risen cores banks w [] right core = λ k d lt. absurd (omega (arith, lt))
own_risen cores banks w (a ∷ list) right core =
    let P : Made → Type 0 = λ x. x.time ≤ (lived cores banks (after cores banks w a) list core).time in
    let rest = own_risen cores banks (after cores banks w a) list right.1 core in
    elim (cases_eq a.entry.core core) as (λ _. All P (by_core core (a ∷ list))) [
      | inl own ↦
          let time = own_time cores banks w a right.0 in
          let here : (after cores banks w a a.entry.core).time ≡ (after cores banks w a core).time = ap (λ (n : ℕ). (after cores banks w a n).time) own in
          let later = never_fall cores banks (after cores banks w a) list right.1 core in
          subst (All P) (sym (own_first core a list own)) (All-cons P a (by_core core list) (omega (arith, time, here, later)) rest)
      | inr other ↦ subst (All P) (sym (other_first core a list other)) rest
    ]
