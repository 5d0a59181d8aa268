-- The chain of an event's children, from one child to the next.
use Rattle.std.proofs.Common.{◌≡◌, ◌+◌, ◌-◌, ◌≤◌, ◌<◌, ℕ, true, false, max, List, length, set, get_or, inl, inr, Option, Some, None, sym, ◌∙◌, ap, subst, arith}
use Rattle.std.specs.Prelude.{slice_get, slice_index}
use Rattle.std.proofs.lemmas.Bool.{cases_eq, cases_lt}
use Rattle.std.proofs.lemmas.List.{get_or_past, length-map}
use Rattle.event_graph.specs.declared.event.Event.{Event}
use Rattle.event_graph.specs.declared.event.Parent.{Parent}
use Rattle.event_graph.specs.declared.fired.Fired.{Fired}
use Rattle.event_graph.specs.Numbered.{IsNumbered}
use Rattle.event_graph.proofs.Lists.{get-map, get_some, get_within, read_is}
use Rattle.weave_seq.specs.declared.children.ParentSlot.{ParentSlot}
use Rattle.weave_seq.specs.declared.children.ParentSlot.TheVariants.{First, Second}
use Rattle.weave_seq.specs.Chains.{AreChains, IsParent, parent_in, parents_in}
use Rattle.weave_seq.specs.Known.{told_to}
use Rattle.weave_seq.specs.SoFar.{SoFar}
use Rattle.weave_seq.proofs.Telling.{IsAt, all_at, not_a_child, others, told_now}

pub is_parent : (slot : ParentSlot) (events : List Event) (c : ℕ) (e : Event) (p : Parent) → slice_get events c ≡ Some e → parent_in slot e ≡ Some p → IsParent (parents_in slot events) c p
is_parent slot events c e p at is = read_is (parents_in slot events) c None (parent_in slot e) (get-map (parent_in slot) e events c at) ∙ is

pub parent_below : (slot : ParentSlot) (events : List Event) → IsNumbered events → (c : ℕ) (e : Event) (p : Parent) → slice_get events c ≡ Some e → parent_in slot e ≡ Some p → p.number < c
parent_below First events numbered c e p at is = numbered.first c e p at is
parent_below Second events numbered c e p at is = numbered.second c e p at is

-- the event that is a child
pub record IsChild (slot : ParentSlot) (events : List Event) (of c : ℕ) (p : Parent) : Type 0 where
  pub event : Event
  pub there : slice_get events c ≡ Some event
  pub parent : parent_in slot event ≡ Some p
  pub of_it : p.number ≡ of

pub child_from : (slot : ParentSlot) (events : List Event) (of c : ℕ) (q : (p : Parent) × (IsParent (parents_in slot events) c p × (p.number ≡ of))) → IsChild slot events of c q.0
child_from slot events of c q =
    elim (cases_lt c (length events)) [
      | inl l ↦
          let e : (e : Event) × (slice_get events c ≡ Some e) = get_some events c l in
          record {
            event = e.0;
            there = e.1;
            parent = sym (read_is (parents_in slot events) c None (parent_in slot e.0) (get-map (parent_in slot) e.0 events c e.1)) ∙ q.1.0;
            of_it = q.1.1;
          }
      | inr l ↦
          let none : get_or (parents_in slot events) c None ≡ None = get_or_past (parents_in slot events) c None (omega (arith, l, length-map events (parent_in slot))) in
          let some : get_or (parents_in slot events) c None ≡ Some q.0 = q.1.0 in
          absurd (cc)
    ]

-- as the program reads it
pub child_read : (slot : ParentSlot) (events : List Event) (of c : ℕ) → (p : Parent) × (IsParent (parents_in slot events) c p × (p.number ≡ of)) → (d : Event) (r : Option Parent) (p : Parent) → r ≡ parent_in slot (get_or events c d) → r ≡ Some p → IsChild slot events of c p
child_read slot events of c q d r p read is =
    let k : IsChild slot events of c q.0 = child_from slot events of c q in
    let here : parent_in slot (get_or events c d) ≡ Some q.0 = ap (parent_in slot) (read_is events c d k.event k.there) ∙ k.parent in
    let same : q.0 ≡ p = cc in
    subst (λ z. IsChild slot events of c z) same k

module _ (events : List Event) (numbered : IsNumbered events) (slot : ParentSlot) (last before : List ℕ) (chains : AreChains (parents_in slot events) last before (length events)) (of : ℕ) (F : ℕ → ℕ) (after : 0 < F of) where
  -- no child stands behind the last
  pub told_at_first : (s : SoFar) → s ≡ told_to slot false of F events → (next : ℕ) → next ≡ slice_index last of → (j : ℕ) (e : Event) → slice_get events j ≡ Some e → next < j → IsAt of F after slot true s.times s.waits j e
  told_at_first s is next next_is j e at l =
      not_a_child of F after slot s.times s.waits j e
      (λ p parent n.
      let k : IsParent (parents_in slot events) j p = is_parent slot events j e p at parent in
      let covers : j ≤ slice_index last p.number = chains.last_covers j p (get_within events j e at) k in
      omega (arith, covers, ap (λ m. slice_index last m) n, next_is, l))
      (all_at of F after slot false events s is j e at)

  module _ (child next : ℕ) (p : Parent) (k : IsChild slot events of child p) (positive : 0 < child) (next_is : next ≡ slice_index before child) where
    pub goes_down : next < child
    goes_down =
        elim (cases_eq next 0) [
          | inl none ↦ omega (arith, none, positive)
          | inr some ↦ omega (arith, chains.before_below child (omega (arith, next_is, some)), next_is)
        ]

    pub next_is_child : 0 < next → (q : Parent) × (IsParent (parents_in slot events) next q × (q.number ≡ of))
    next_is_child some =
        let r : (q : Parent) × (IsParent (parents_in slot events) next q × (q.number ≡ p.number)) =
        chains.before_is child next p (is_parent slot events child k.event p k.there k.parent) some (sym next_is)
        in
        (r.0, (r.1.0, r.1.1 ∙ k.of_it))

    module _ (times times' : List Fired) (waits waits' : List ℕ) (d : Fired) (at : ℕ)
        (times_are : times' ≡ set times child (record (get_or times child d) { start = max (get_or times child d).start at })) (waits_are : waits' ≡ set waits child (get_or waits child 0 - 1))
        (unfired : F child ≡ 0) (at_is : at ≡ F of + p.delay)
        (told : (j : ℕ) (e : Event) → slice_get events j ≡ Some e → child < j → IsAt of F after slot true times waits j e)
        (untold : (j : ℕ) (e : Event) → slice_get events j ≡ Some e → j ≤ child → IsAt of F after slot false times waits j e) where
      pub still_untold : (j : ℕ) (e : Event) → slice_get events j ≡ Some e → j ≤ next → IsAt of F after slot false times' waits' j e
      still_untold j e there l =
          others of F after slot times times' waits waits' child d at times_are waits_are false j e (λ q. omega (arith, q, l, goes_down)) (untold j e there (omega (arith, l, goes_down)))

      pub more_told : (j : ℕ) (e : Event) → slice_get events j ≡ Some e → next < j → IsAt of F after slot true times' waits' j e
      more_told j e there l =
          elim (cases_eq j child) [
            | inl same ↦
                let e_there : slice_get events child ≡ Some e = subst (λ n. slice_get events n ≡ Some e) same there in
                let e_is : k.event ≡ e = (let z : slice_get events child ≡ Some k.event = k.there in cc) in
                let number : F e.number ≡ 0 = ap F (numbered.number child e e_there) ∙ unfired in
                let now : IsAt of F after slot true times' waits' child e =
                told_now of F after slot times times' waits waits' child d at times_are waits_are e p (subst (λ z. parent_in slot z ≡ Some p) e_is k.parent) k.of_it number at_is (untold child e e_there (omega arith))
                in
                subst (λ n. IsAt of F after slot true times' waits' n e) (sym same) now
            | inr ne ↦
                others of F after slot times times' waits waits' child d at times_are waits_are true j e ne
                (elim (cases_lt j child) [
                  | inl less ↦
                      not_a_child of F after slot times waits j e
                      (λ q parent n.
                      let covers : j ≤ slice_index before child =
                      chains.before_covers j child q p less (get_within events child k.event k.there) (is_parent slot events j e q there parent) (is_parent slot events child k.event p k.there k.parent) (n ∙ sym k.of_it)
                      in
                      omega (arith, covers, next_is, l))
                      (untold j e there (omega (arith, less)))
                  | inr more ↦ told j e there (omega (arith, more, ne))
                ])
          ]

  -- event 0 has no parent
  pub told_at_last : (s : SoFar) → ((j : ℕ) (e : Event) → slice_get events j ≡ Some e → 0 < j → IsAt of F after slot true s.times s.waits j e)
      → ((j : ℕ) (e : Event) → slice_get events j ≡ Some e → j ≤ 0 → IsAt of F after slot false s.times s.waits j e)
      → (j : ℕ) (e : Event) → slice_get events j ≡ Some e → IsAt of F after slot true s.times s.waits j e
  told_at_last s told untold j e at =
      elim (cases_eq j 0) [
        | inl none ↦ not_a_child of F after slot s.times s.waits j e (λ p parent n. omega (arith, parent_below slot events numbered j e p at parent, none)) (untold j e at (omega (arith, none)))
        | inr some ↦ told j e at (omega (arith, some))
      ]
