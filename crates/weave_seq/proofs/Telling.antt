-- What the children of an event know before and after they are told that it fired.
use Rattle.std.proofs.Common.{◌≡◌, ◌+◌, ◌-◌, ◌<◌, ◌==◌, ℕ, zero, suc, Bool, true, false, cond, max, List, [], ◌∷◌, map, length, set, get_or, Option, Some, None, sym, ◌∙◌, ap, refl, arith}
use Rattle.std.specs.Prelude.{slice_get}
use Rattle.std.proofs.lemmas.Bool.{cond-true, cond-false, eq-eqb, ne_eqb}
use Rattle.event_graph.specs.declared.event.Event.{Event}
use Rattle.event_graph.specs.declared.event.Parent.{Parent}
use Rattle.event_graph.specs.declared.fired.Fired.{Fired}
use Rattle.event_graph.specs.OneListWeave.{after_parent}
use Rattle.event_graph.proofs.Lists.{get-map, get-set_other, get-set_same, read_is}
use Rattle.weave_seq.specs.declared.children.ParentSlot.{ParentSlot}
use Rattle.weave_seq.specs.declared.children.ParentSlot.TheVariants.{First, Second}
use Rattle.weave_seq.specs.Chains.{parent_in}
use Rattle.weave_seq.specs.Known.{before_firing, known_time, known_to_first, known_to_second, known_waits, told_to, unfired_parent}
use Rattle.weave_seq.specs.SoFar.{SoFar}

-- lists by their elements
pub same_as_map : {X Y : Type 0} (f : X → Y) (xs : List X) (ys : List Y) → length ys ≡ length xs → ((j : ℕ) (x : X) → slice_get xs j ≡ Some x → slice_get ys j ≡ Some (f x)) → ys ≡ map f xs
same_as_map f [] [] size h = refl
same_as_map f [] (y ∷ ys) size h = absurd (omega (arith, size))
same_as_map f (x ∷ xs) [] size h = absurd (omega (arith, size))
same_as_map f (x ∷ xs) (y ∷ ys) size h =
    let first : Some y ≡ Some (f x) = h zero x refl in
    let here : y ≡ f x = cc in
    let rest : ys ≡ map f xs = same_as_map f xs ys (omega (arith, size)) (λ j z at. h (suc j) z at) in
    ap (λ z. z ∷ ys) here ∙ ap (λ zs. f x ∷ zs) rest

abbrev with_start : Fired → ℕ → Fired
with_start t n = record { number = t.number; start = n; finish = t.finish }

abbrev pub so_far : List Fired → List ℕ → SoFar
so_far times waits = record { times = times; waits = waits }

module _ (of : ℕ) (F : ℕ → ℕ) (after : 0 < F of) where
  without_here : (n : ℕ) → n ≡ of → before_firing of F n ≡ 0
  without_here n h = cond-true (n == of) 0 (F n) (eq-eqb n of h)

  without_other : (n : ℕ) → (n ≡ of → ⊥) → before_firing of F n ≡ F n
  without_other n h = cond-false (n == of) 0 (F n) (ne_eqb n of h)

  abbrev IsOther : Option Parent → Type 0
  IsOther o = (p : Parent) → o ≡ Some p → p.number ≡ of → ⊥

  other_start : (o : Option Parent) → IsOther o → after_parent (before_firing of F) o ≡ after_parent F o
  other_start None h = refl
  other_start (Some p) h = ap (λ n. n + p.delay) (without_other p.number (h p refl))

  other_waits : (o : Option Parent) → IsOther o → unfired_parent (before_firing of F) o ≡ unfired_parent F o
  other_waits None h = refl
  other_waits (Some p) h = ap (λ n. cond (n == 0) 1 0) (without_other p.number (h p refl))

  child_start_before : (o : Option Parent) (p : Parent) → o ≡ Some p → p.number ≡ of → after_parent (before_firing of F) o ≡ p.delay
  child_start_before o p is n = ap (λ q. after_parent (before_firing of F) q) is ∙ omega (arith, without_here p.number n)

  child_start_after : (o : Option Parent) (p : Parent) → o ≡ Some p → p.number ≡ of → after_parent F o ≡ F of + p.delay
  child_start_after o p is n = ap (λ q. after_parent F q) is ∙ ap (λ k. F k + p.delay) n

  child_waits_before : (o : Option Parent) (p : Parent) → o ≡ Some p → p.number ≡ of → unfired_parent (before_firing of F) o ≡ 1
  child_waits_before o p is n = ap (λ q. unfired_parent (before_firing of F) q) is ∙ ap (λ k. cond (k == 0) 1 0) (without_here p.number n)

  child_waits_after : (o : Option Parent) (p : Parent) → o ≡ Some p → p.number ≡ of → unfired_parent F o ≡ 0
  child_waits_after o p is n = ap (λ q. unfired_parent F q) is ∙ (ap (λ k. cond (F k == 0) 1 0) n ∙ ap (λ b. cond b 1 0) (ne_eqb (F of) 0 (λ z. omega (arith, z, after))))

  abbrev time_of : ParentSlot → Bool → Event → Fired
  time_of slot told e = known_time (known_to_first slot told of F) (known_to_second slot told of F) F e

  abbrev waits_of : ParentSlot → Bool → Event → ℕ
  waits_of slot told e = known_waits (known_to_first slot told of F) (known_to_second slot told of F) F e

  other_time : (slot : ParentSlot) (e : Event) → IsOther (parent_in slot e) → time_of slot false e ≡ time_of slot true e
  other_time First e h = ap (λ n. record { number = e.number; start = max e.min_start (max n (after_parent (before_firing of F) e.second)); finish = F e.number }) (other_start e.first h)
  other_time Second e h = ap (λ n. record { number = e.number; start = max e.min_start (max (after_parent F e.first) n); finish = F e.number }) (other_start e.second h)

  other_waits_same : (slot : ParentSlot) (e : Event) → IsOther (parent_in slot e) → waits_of slot false e ≡ waits_of slot true e
  other_waits_same First e h = ap (λ n. cond (F e.number == 0) (n + unfired_parent (before_firing of F) e.second) 255) (other_waits e.first h)
  other_waits_same Second e h = ap (λ n. cond (F e.number == 0) (unfired_parent F e.first + n) 255) (other_waits e.second h)

  child_start : (slot : ParentSlot) (e : Event) (p : Parent) → parent_in slot e ≡ Some p → p.number ≡ of → max (time_of slot false e).start (F of + p.delay) ≡ (time_of slot true e).start
  child_start First e p is n = omega (arith, child_start_before e.first p is n, child_start_after e.first p is n)
  child_start Second e p is n = omega (arith, child_start_before e.second p is n, child_start_after e.second p is n)

  waits_unfired : (slot : ParentSlot) (told : Bool) (e : Event) → F e.number ≡ 0
      → waits_of slot told e ≡ unfired_parent (known_to_first slot told of F) e.first + unfired_parent (known_to_second slot told of F) e.second
  waits_unfired slot told e h =
      cond-true (F e.number == 0) (unfired_parent (known_to_first slot told of F) e.first + unfired_parent (known_to_second slot told of F) e.second) 255 (eq-eqb (F e.number) 0 h)

  pub child_waits : (slot : ParentSlot) (e : Event) (p : Parent) → parent_in slot e ≡ Some p → p.number ≡ of → F e.number ≡ 0 → waits_of slot false e ≡ waits_of slot true e + 1
  child_waits First e p is n h =
      omega (arith, waits_unfired First false e h, waits_unfired First true e h, child_waits_before e.first p is n, child_waits_after e.first p is n)
  child_waits Second e p is n h =
      omega (arith, waits_unfired Second false e h, waits_unfired Second true e h, child_waits_before e.second p is n, child_waits_after e.second p is n)

  -- the event at this index is known so far
  abbrev pub IsAt : ParentSlot → Bool → List Fired → List ℕ → ℕ → Event → Type 0
  IsAt slot told times waits j e = (slice_get times j ≡ Some (time_of slot told e)) × (slice_get waits j ≡ Some (waits_of slot told e))

  pub all_at : (slot : ParentSlot) (told : Bool) (events : List Event) (s : SoFar) → s ≡ told_to slot told of F events → (j : ℕ) (e : Event) → slice_get events j ≡ Some e → IsAt slot told s.times s.waits j e
  all_at slot told events s is j e at = (
    ap (λ v. slice_get v.times j) is ∙ get-map (λ z. time_of slot told z) e events j at,
    ap (λ v. slice_get v.waits j) is ∙ get-map (λ z. waits_of slot told z) e events j at,
  )

  pub from_all : (slot : ParentSlot) (told : Bool) (events : List Event) (s : SoFar) → length s.times ≡ length events → length s.waits ≡ length events
      → ((j : ℕ) (e : Event) → slice_get events j ≡ Some e → IsAt slot told s.times s.waits j e) → s ≡ told_to slot told of F events
  from_all slot told events s size size' h =
      ap (λ ts. so_far ts s.waits) (same_as_map (λ z. time_of slot told z) events s.times size (λ j e at. (h j e at).0))
      ∙ ap (λ ws. so_far (map (λ z. time_of slot told z) events) ws) (same_as_map (λ z. waits_of slot told z) events s.waits size' (λ j e at. (h j e at).1))

  pub not_a_child : (slot : ParentSlot) (times : List Fired) (waits : List ℕ) (j : ℕ) (e : Event) → IsOther (parent_in slot e) → IsAt slot false times waits j e → IsAt slot true times waits j e
  not_a_child slot times waits j e h at = (at.0 ∙ ap (λ t. Some t) (other_time slot e h), at.1 ∙ ap (λ w. Some w) (other_waits_same slot e h))

  -- one child is told
  module _ (slot : ParentSlot) (times times' : List Fired) (waits waits' : List ℕ) (c : ℕ) (d : Fired) (at : ℕ)
      (times_are : times' ≡ set times c (record (get_or times c d) { start = max (get_or times c d).start at })) (waits_are : waits' ≡ set waits c (get_or waits c 0 - 1)) where
    pub others : (told : Bool) (j : ℕ) (e : Event) → (j ≡ c → ⊥) → IsAt slot told times waits j e → IsAt slot told times' waits' j e
    others told j e ne h = (
      ap (λ ts. slice_get ts j) times_are ∙ (get-set_other times c j (record (get_or times c d) { start = max (get_or times c d).start at }) (λ q. ne (sym q)) ∙ h.0),
      ap (λ ws. slice_get ws j) waits_are ∙ (get-set_other waits c j (get_or waits c 0 - 1) (λ q. ne (sym q)) ∙ h.1),
    )

    pub told_now : (e : Event) (p : Parent) → parent_in slot e ≡ Some p → p.number ≡ of → F e.number ≡ 0 → at ≡ F of + p.delay → IsAt slot false times waits c e → IsAt slot true times' waits' c e
    told_now e p is n unfired at_is h =
        let was : get_or times c d ≡ time_of slot false e = read_is times c d (time_of slot false e) h.0 in
        let waited : get_or waits c 0 ≡ waits_of slot false e = read_is waits c 0 (waits_of slot false e) h.1 in
        let start : max (get_or times c d).start at ≡ (time_of slot true e).start =
        ap (λ (t : Fired). max t.start at) was ∙ (ap (λ n. max (time_of slot false e).start n) at_is ∙ child_start slot e p is n)
        in
        let now : record (get_or times c d) { start = max (get_or times c d).start at } ≡ time_of slot true e =
        ap (λ (t : Fired). with_start t (max (get_or times c d).start at)) was ∙ ap (λ n. with_start (time_of slot false e) n) start
        in
        let left : get_or waits c 0 - 1 ≡ waits_of slot true e = omega (arith, waited, child_waits slot e p is n unfired) in (
          ap (λ ts. slice_get ts c) times_are ∙ (get-set_same times c (time_of slot false e) (record (get_or times c d) { start = max (get_or times c d).start at }) h.0 ∙ ap (λ t. Some t) now),
          ap (λ ws. slice_get ws c) waits_are ∙ (get-set_same waits c (waits_of slot false e) (get_or waits c 0 - 1) h.1 ∙ ap (λ w. Some w) left),
        )
