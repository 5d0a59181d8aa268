-- A crossing stands for a parent and a child in different domains, and each such pair has one.
use Rattle.std.proofs.Common.{◌≡◌, ℕ, Bool, true, false, cond, eqb, List, [], ◌∷◌, ◌⊎◌, Option, Some, None, slice_get, sym, subst, refl, inl, inr}
use Rattle.event_graph.specs.declared.event.Event.{Event}
use Rattle.event_graph.specs.declared.event.Parent.{Parent}
use Rattle.domain_map.specs.declared.crossing.Crossing.{Crossing}
use Rattle.domain_map.specs.Domains.{crossing_from, crossings_into, crossings_into_all, crossings_of, domain_of_event, domain_of_number}
use Rattle.weave_core.proofs.Lists.{In, at_in, from_flat_map, in_at, in_cases, in_flat_map, in_left, in_right}

-- the crossing from a parent to a child
abbrev pub crossing_of : List ℕ → List Event → Event → Parent → Crossing
crossing_of places events e q = record {
  parent = q.number;
  child = e.number;
  source = domain_of_number places events q.number;
  target = domain_of_event places e;
  delay = q.delay;
}

-- it stands for the event and one of its parents
pub record Joins (places : List ℕ) (events : List Event) (x : Crossing) : Type 0 where
  pub child : Event
  pub parent : Parent
  pub number : ℕ
  pub there : slice_get events number ≡ Some child
  pub slot : (child.first ≡ Some parent) ⊎ (child.second ≡ Some parent)
  pub is : crossing_of places events child parent ≡ x
  pub apart : eqb (domain_of_number places events parent.number) (domain_of_event places child) ≡ false

module _ (places : List ℕ) (events : List Event) where
  -- the parent of a crossing is of another domain
  record IsFrom (e : Event) (p : Option Parent) (x : Crossing) : Type 0 where
    parent : Parent
    slot : p ≡ Some parent
    is : crossing_of places events e parent ≡ x
    apart : eqb (domain_of_number places events parent.number) (domain_of_event places e) ≡ false

  from_slot : (e : Event) (p : Option Parent) (x : Crossing) → In x (crossing_from places events e p) → IsFrom e p x
  from_slot e None x h = absurd h
  from_slot e (Some q) x h = by_test (eqb (domain_of_number places events q.number) (domain_of_event places e)) refl h
    where
      by_test : (t : Bool) → eqb (domain_of_number places events q.number) (domain_of_event places e) ≡ t → In x (cond t [] (crossing_of places events e q ∷ [])) → IsFrom e (Some q) x
      by_test true v m = absurd m
      by_test false v m = elim m [ inl s ↦ record { parent = q; slot = refl; is = s; apart = v } | inr n ↦ absurd n ]

  to_slot : (e : Event) (q : Parent) → eqb (domain_of_number places events q.number) (domain_of_event places e) ≡ false
      → In (crossing_of places events e q) (crossing_from places events e (Some q))
  to_slot e q h = subst (λ (t : Bool). In (crossing_of places events e q) (cond t [] (crossing_of places events e q ∷ []))) (sym h) (inl refl)

  pub joins : (number : ℕ) (x : Crossing) → slice_get (crossings_of places events) number ≡ Some x → Joins places events x
  unfolding crossings_into_all
  joins number x h =
      let r : (e : Event) × (In e events × In x (crossings_into places events e)) = from_flat_map (crossings_into places events) events x (at_in x (crossings_of places events) number h) in
      let at : (i : ℕ) × (slice_get events i ≡ Some r.0) = in_at r.0 events r.1.0 in
      elim (in_cases x (crossing_from places events r.0 r.0.first) (crossing_from places events r.0 r.0.second) r.1.1) [
        | inl m ↦
            let s : IsFrom r.0 r.0.first x = from_slot r.0 r.0.first x m in
            record { child = r.0; parent = s.parent; number = at.0; there = at.1; slot = inl s.slot; is = s.is; apart = s.apart }
        | inr m ↦
            let s : IsFrom r.0 r.0.second x = from_slot r.0 r.0.second x m in
            record { child = r.0; parent = s.parent; number = at.0; there = at.1; slot = inr s.slot; is = s.is; apart = s.apart }
      ]

  pub crossing_at : (i : ℕ) (e : Event) (q : Parent) → slice_get events i ≡ Some e → ((e.first ≡ Some q) ⊎ (e.second ≡ Some q))
      → eqb (domain_of_number places events q.number) (domain_of_event places e) ≡ false
      → (number : ℕ) × (slice_get (crossings_of places events) number ≡ Some (crossing_of places events e q))
  unfolding crossings_into_all
  crossing_at i e q h slot apart =
      let m : In (crossing_of places events e q) (crossings_into places events e) =
      elim slot [
        | inl s ↦
            in_left (crossing_of places events e q) (crossing_from places events e e.first) (crossing_from places events e e.second)
            (subst (λ (p : Option Parent). In (crossing_of places events e q) (crossing_from places events e p)) (sym s) (to_slot e q apart))
        | inr s ↦
            in_right (crossing_of places events e q) (crossing_from places events e e.first) (crossing_from places events e e.second)
            (subst (λ (p : Option Parent). In (crossing_of places events e q) (crossing_from places events e p)) (sym s) (to_slot e q apart))
      ]
      in
      in_at (crossing_of places events e q) (crossings_of places events)
      (in_flat_map (crossings_into places events) events e (crossing_of places events e q) (at_in e events i h) m)
