-- The words of crossings, and what the parent of a crossing is.
use Rattle.std.proofs.Common.{◌≡◌, ◌+◌, ◌<◌, ◌≤◌, ℕ, true, eqb, ltb, max, List, ◌⊎◌, Option, Some, slice_get, sym, ◌∙◌, ap, subst, arith}
use Rattle.std.proofs.lemmas.Bool.{false≢true}
use Rattle.std.proofs.lemmas.Bool.Decides.{nat_tests}
use Rattle.std.proofs.lemmas.Option.{same_Some}
use Rattle.std.specs.Option.{option_map_or}
use Rattle.zs_num.specs.declared.time.Word.{Word}
use Rattle.zs_num.specs.declared.time.Word.TheVariants.{Bound, Exact}
use Rattle.event_graph.specs.declared.event.Event.{Event}
use Rattle.event_graph.specs.OneListWeave.{FiredEvent, finish_in}
use Rattle.domain_map.specs.declared.crossing.Crossing.{Crossing}
use Rattle.domain_map.specs.Domains.{Partition, IsPartition, domain_of_event, domain_of_number}
use Rattle.weave_core.specs.DomainMachine.{DomainState, cycle_of, is_exact, latency_at, latency_of, word_at}
use Rattle.weave_core.specs.Soundness.{AreSoundBounds, AreSoundWords, IsSoundFloor, IsSoundWord, start_in}
use Rattle.weave_core.proofs.Crossings.{Joins, joins}
use Rattle.weave_core.proofs.Firing.{IsOrder, finish_is, parent_at, start_is}

-- words

pub sound_cycle : (all : List FiredEvent) (x : Crossing) (w : Word) → IsSoundWord all x w → cycle_of w ≤ finish_in all x.parent
sound_cycle all x (Bound b) h = h
sound_cycle all x (Exact f) h = omega (arith, h)

pub exact_cycle : (all : List FiredEvent) (x : Crossing) (w : Word) → IsSoundWord all x w → is_exact w ≡ true → cycle_of w ≡ finish_in all x.parent
exact_cycle all x (Bound b) h e = absurd (false≢true e)
exact_cycle all x (Exact f) h e = h

pub eq_test : (a b : ℕ) → a ≡ b → eqb a b ≡ true
eq_test a b e = grind (arith, nat_tests)

pub test_eq : (a b : ℕ) → eqb a b ≡ true → a ≡ b
test_eq a b e = grind (arith, nat_tests)

pub less_is : (a b : ℕ) → ltb a b ≡ true → a < b
less_is a b h = grind (arith, nat_tests)

pub at_event : (events : List Event) (places : List ℕ) (number : ℕ) (e : Event) → slice_get events number ≡ Some e → domain_of_number places events number ≡ domain_of_event places e
at_event events places number e h = ap (λ (z : Option Event). option_map_or (domain_of_event places) z 0) h

pub latency_there : (events : List Event) (number : ℕ) (e : Event) → slice_get events number ≡ Some e → latency_at events number ≡ latency_of e
latency_there events number e h = ap (λ (z : Option Event). option_map_or latency_of z 0) h

module _ (events : List Event) (p : Partition) (all : List FiredEvent) (o : IsOrder events all) (div : IsPartition events p) where
  pub joined : (number : ℕ) (x : Crossing) → slice_get p.crossings number ≡ Some x → Joins p.places events x
  joined number x h = joins p.places events number x (subst (λ (xs : List Crossing). slice_get xs number ≡ Some x) div.crossings h)

  -- the event of a number is one
  pub same_event : (k : ℕ) (y : FiredEvent) (i : ℕ) (e : Event) → slice_get all k ≡ Some y → slice_get events i ≡ Some e → y.event.number ≡ e.number → y.event ≡ e
  same_event k y i e a h n =
      let i_is : e.number ≡ i = o.numbered i e h in
      same_Some y.event e (sym (o.event k y a) ∙ (ap (slice_get events) (n ∙ i_is) ∙ h))

  -- the child of a crossing, and its slot
  pub child_slot : (number : ℕ) (x : Crossing) (j : Joins p.places events x) (k : ℕ) (y : FiredEvent) → slice_get all k ≡ Some y → y.event.number ≡ x.child
      → y.event ≡ j.child
  child_slot number x j k y a n =
      same_event k y j.number j.child a j.there (n ∙ sym (ap (λ (z : Crossing). z.child) j.is))

  -- What a crossing's parent is.
  pub parent_of_crossing : (number : ℕ) (x : Crossing) → slice_get p.crossings number ≡ Some x
      → (k : ℕ) × ((w : FiredEvent) × ((slice_get all k ≡ Some w) × ((w.event.number ≡ x.parent) × (x.source ≡ domain_of_event p.places w.event))))
  parent_of_crossing number x h =
      let j : Joins p.places events x = joined number x h in
      let e_at : slice_get events j.child.number ≡ Some j.child = ap (slice_get events) (o.numbered j.number j.child j.there) ∙ j.there in
      let at : (k : ℕ) × (y : FiredEvent) × (slice_get all k ≡ Some y) × (y.event ≡ j.child) = o.each j.child e_at in
      let slot : (at.1.event.first ≡ Some j.parent) ⊎ (at.1.event.second ≡ Some j.parent) =
      subst (λ (e : Event). (e.first ≡ Some j.parent) ⊎ (e.second ≡ Some j.parent)) (sym at.3) j.slot
      in
      let q : (i : ℕ) × ((y : FiredEvent) × ((i < at.0) × ((slice_get all i ≡ Some y) × (y.event.number ≡ j.parent.number)))) =
      parent_at events all o at.0 at.1 j.parent at.2 slot
      in
      let n : j.parent.number ≡ x.parent = ap (λ (z : Crossing). z.parent) j.is in
      let s : domain_of_number p.places events j.parent.number ≡ x.source = ap (λ (z : Crossing). z.source) j.is in
      let d : domain_of_number p.places events j.parent.number ≡ domain_of_event p.places q.1.0.event =
      ap (domain_of_number p.places events) (sym q.1.1.1.1) ∙ at_event events p.places q.1.0.event.number q.1.0.event (o.event q.0 q.1.0 q.1.1.1.0)
      in
      (q.0, (q.1.0, (q.1.1.1.0, (q.1.1.1.1 ∙ n, sym s ∙ d))))

  -- it stands before the child
  pub parent_before : (number : ℕ) (c : Crossing) → slice_get p.crossings number ≡ Some c → (k : ℕ) (x : FiredEvent) → slice_get all k ≡ Some x → x.event.number ≡ c.child
      → (i : ℕ) × ((w : FiredEvent) × ((i < k) × ((slice_get all i ≡ Some w) × ((w.event.number ≡ c.parent) × (c.source ≡ domain_of_event p.places w.event)))))
  parent_before number c there k x a n =
      let j : Joins p.places events c = joined number c there in
      let e : x.event ≡ j.child = child_slot number c j k x a n in
      let slot : (x.event.first ≡ Some j.parent) ⊎ (x.event.second ≡ Some j.parent) =
      subst (λ (z : Event). (z.first ≡ Some j.parent) ⊎ (z.second ≡ Some j.parent)) (sym e) j.slot
      in
      let q : (i : ℕ) × ((w : FiredEvent) × ((i < k) × ((slice_get all i ≡ Some w) × (w.event.number ≡ j.parent.number)))) = parent_at events all o k x j.parent a slot in
      let s : domain_of_number p.places events j.parent.number ≡ c.source = ap (λ (z : Crossing). z.source) j.is in
      let d : domain_of_number p.places events j.parent.number ≡ domain_of_event p.places q.1.0.event =
      ap (domain_of_number p.places events) (sym q.1.1.1.1) ∙ at_event events p.places q.1.0.event.number q.1.0.event (o.event q.0 q.1.0 q.1.1.1.0)
      in
      (q.0, (q.1.0, (q.1.1.0, (q.1.1.1.0, (q.1.1.1.1 ∙ ap (λ (z : Crossing). z.parent) j.is, sym s ∙ d)))))

  -- sound words and a sound floor make sound bounds
  pub sound_bounds : (domain : ℕ) (own : DomainState) → AreSoundWords all p own.known → IsSoundFloor all p domain own → AreSoundBounds events all p domain own
  sound_bounds domain own known floor = record {
    each = λ number x h target unknown.
        let q : (k : ℕ) × ((w : FiredEvent) × ((slice_get all k ≡ Some w) × ((w.event.number ≡ x.parent) × (x.source ≡ domain_of_event p.places w.event)))) = parent_of_crossing number x h in
        let finish : finish_in all x.parent ≡ q.1.0.finish = ap (finish_in all) (sym q.1.1.1.0) ∙ finish_is events all o q.0 q.1.0 q.1.1.0 in
        let start : start_in all x.parent ≡ q.1.0.start = ap (start_in all) (sym q.1.1.1.0) ∙ start_is events all o q.0 q.1.0 q.1.1.0 in
        let latency : latency_at events x.parent ≡ latency_of q.1.0.event =
        ap (latency_at events) (sym q.1.1.1.0) ∙ latency_there events q.1.0.event.number q.1.0.event (o.event q.0 q.1.0 q.1.1.0)
        in
        let time : q.1.0.start + latency_of q.1.0.event ≤ q.1.0.finish = o.time q.0 q.1.0 q.1.1.0 in
        let word : cycle_of (word_at own.known number) ≤ finish_in all x.parent = sound_cycle all x (word_at own.known number) (known.each number x h) in
        let from : own.floor ≤ start_in all x.parent = floor.each number x h target unknown in
        bounded (cycle_of (word_at own.known number)) own.floor (latency_at events x.parent) (finish_in all x.parent) word (omega (arith, from, start, latency, time, finish));
  }
    where
      bounded : (c f l g : ℕ) → c ≤ g → f + l ≤ g → max c (f + l) ≤ g
      bounded c f l g a b = omega arith
