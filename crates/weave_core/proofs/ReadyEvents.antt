-- A domain's ready events, as the weave has them.
use Rattle.std.proofs.Common.{◌≡◌, ◌+◌, ◌<◌, ◌≤◌, ℕ, Bool, true, false, not, ◌&&◌, ◌||◌, cond, eqb, max, List, take, ◌⊎◌, Option, Some, None, is_some, slice_get, sym, ◌∙◌, ap, subst, refl, inl, inr, arith}
use Rattle.std.proofs.lemmas.Bool.{false≢true, cases_lt}
use Rattle.std.specs.List.{find, enumerate_from}
use Rattle.std.specs.Option.{option_map_or}
use Rattle.event_graph.specs.declared.event.Event.{Event}
use Rattle.event_graph.specs.declared.event.Parent.{Parent}
use Rattle.event_graph.specs.OneListWeave.{FiredEvent, after_parent, find_fired, finish_in, finish_or_zero, is_fired, start_of}
use Rattle.domain_map.specs.declared.crossing.Crossing.{Crossing}
use Rattle.domain_map.specs.Domains.{Partition, IsPartition, crossings_of, domain_of_event, domain_of_number}
use Rattle.weave_core.specs.DomainMachine.{DomainState, arrival_of, bound_of, cycle_of, is_exact, is_own_parent_fired, is_ready_in, known_finish, told_finish, word_at}
use Rattle.weave_core.specs.Soundness.{AreSoundBounds, AreSoundWords}
use Rattle.weave_core.specs.Interleavings.{of_domain}
use Rattle.weave_core.proofs.Lists.{In, all_in, and_true, both, either, find_in, find_some, from_enum, in_at, in_enum, not_true, some_at}
use Rattle.weave_core.proofs.Crossings.{Joins, crossing_at, crossing_of}
use Rattle.weave_core.proofs.Firing.{IsOrder, all_known, finding, fired_before, from_domain, parent_at, start_after_parent, start_by_all}
use Rattle.weave_core.proofs.Joined.{child_slot, eq_test, exact_cycle, joined, test_eq}

module _ (events : List Event) (p : Partition) (all : List FiredEvent) (o : IsOrder events all) (div : IsPartition events p) where
  module _ (domain cut : ℕ) (own : DomainState) (fired_is : own.fired ≡ of_domain p.places domain (take cut all))
      (known : AreSoundWords all p own.known) (bounds : AreSoundBounds events all p domain own) where
    -- an unresolved crossing into an event lets it start no later than it does
    pub sound_arrival : (number : ℕ) (x : Crossing) → slice_get p.crossings number ≡ Some x → x.target ≡ domain → is_exact (word_at own.known number) ≡ false
        → (k : ℕ) (y : FiredEvent) → slice_get all k ≡ Some y → y.event.number ≡ x.child → arrival_of events p own number x ≤ y.start
    sound_arrival number x h target unknown k y a n =
        let j : Joins p.places events x = joined events p all o div number x h in
        let e : y.event ≡ j.child = child_slot events p all o div number x j k y a n in
        let slot : (y.event.first ≡ Some j.parent) ⊎ (y.event.second ≡ Some j.parent) =
        subst (λ (z : Event). (z.first ≡ Some j.parent) ⊎ (z.second ≡ Some j.parent)) (sym e) j.slot
        in
        let q : (i : ℕ) × ((w : FiredEvent) × ((i < k) × ((slice_get all i ≡ Some w) × (w.event.number ≡ j.parent.number)))) = parent_at events all o k y j.parent a slot in
        let number_is : q.1.0.event.number ≡ x.parent = q.1.1.1.1 ∙ ap (λ (z : Crossing). z.parent) j.is in
        let delay_is : j.parent.delay ≡ x.delay = ap (λ (z : Crossing). z.delay) j.is in
        let after : finish_in all j.parent.number + j.parent.delay ≤ y.start = start_after_parent events all o k y j.parent a slot in
        let same : finish_in all j.parent.number ≡ finish_in all x.parent = ap (λ (z : Crossing). finish_in all z.parent) j.is in
        let bound : bound_of events p own number x ≤ finish_in all x.parent = bounds.each number x h target unknown in
        omega (arith, bound, after, same, delay_is)

    -- a ready event

    pub record IsReady (e : Event) : Type 0 where
      pub here : domain_of_event p.places e ≡ domain
      pub unfired : is_fired own.fired e.number ≡ false
      pub first : is_own_parent_fired events p domain own e.first ≡ true
      pub second : is_own_parent_fired events p domain own e.second ≡ true
      pub crossings : (number : ℕ) (x : Crossing) → slice_get p.crossings number ≡ Some x → x.child ≡ e.number → is_exact (word_at own.known number) ≡ true

    pub is_ready : (e : Event) → is_ready_in events p domain own e ≡ true → IsReady e
    is_ready e h =
        let a = both (eqb (domain_of_event p.places e) domain) _ h in
        let b = both (not (is_fired own.fired e.number)) _ a.1 in
        let c = both (is_own_parent_fired events p domain own e.first && is_own_parent_fired events p domain own e.second) _ b.1 in
        let d = both (is_own_parent_fired events p domain own e.first) _ c.0 in
        record {
          here = test_eq (domain_of_event p.places e) domain a.0;
          unfired = not_true (is_fired own.fired e.number) b.0;
          first = d.0;
          second = d.1;
          crossings = λ number x there is.
              let t : (not (eqb x.child e.number) || is_exact (word_at own.known number)) ≡ true =
              all_in (λ (at : ℕ × Crossing). not (eqb at.1.child e.number) || is_exact (word_at own.known at.0)) (enumerate_from 0 p.crossings) (number, x) c.1 (in_enum p.crossings number x there)
              in
              elim (either (not (eqb x.child e.number)) (is_exact (word_at own.known number)) t) [
                | inl n ↦ absurd (false≢true (sym (not_true (eqb x.child e.number) n) ∙ eq_test x.child e.number is))
                | inr exact ↦ exact
              ];
        }

    own_parent : (q : Parent) → is_own_parent_fired events p domain own (Some q) ≡ true → eqb (domain_of_number p.places events q.number) domain ≡ true
        → finish_in own.fired q.number ≡ finish_in all q.number
    own_parent q h here =
        elim (either (is_fired own.fired q.number) (not (eqb (domain_of_number p.places events q.number) domain)) h) [
          | inr n ↦ absurd (false≢true (sym (not_true (eqb (domain_of_number p.places events q.number) domain) n) ∙ here))
          | inl f ↦
              let r : (w : FiredEvent) × ((find_fired own.fired q.number ≡ Some w) × (In w own.fired × (w.event.number ≡ q.number))) = finding own.fired q.number f in
              let place : (k : ℕ) × ((k < cut) × ((slice_get all k ≡ Some r.0) × (domain_of_event p.places r.0.event ≡ domain))) =
              from_domain events all o p.places domain cut r.0 (subst (λ (xs : List FiredEvent). In r.0 xs) fired_is r.1.1.0)
              in
              let whole : find_fired all q.number ≡ Some r.0 = subst (λ (n : ℕ). find_fired all n ≡ Some r.0) r.1.1.1 (all_known events all o place.0 r.0 place.1.1.0) in
              ap finish_or_zero (r.1.0 ∙ sym whole)
        ]

    told_parent : (i : ℕ) (e : Event) (q : Parent) → IsReady e → slice_get events i ≡ Some e → ((e.first ≡ Some q) ⊎ (e.second ≡ Some q))
        → eqb (domain_of_number p.places events q.number) domain ≡ false → told_finish events p own q.number ≡ finish_in all q.number
    told_parent i e q r h slot apart =
        let apart_here : eqb (domain_of_number p.places events q.number) (domain_of_event p.places e) ≡ false =
        subst (λ (n : ℕ). eqb (domain_of_number p.places events q.number) n ≡ false) (sym r.here) apart
        in
        let c : (number : ℕ) × (slice_get (crossings_of p.places events) number ≡ Some (crossing_of p.places events e q)) = crossing_at p.places events i e q h slot apart_here in
        let there : slice_get p.crossings c.0 ≡ Some (crossing_of p.places events e q) = ap (λ (xs : List Crossing). slice_get xs c.0) div.crossings ∙ c.1 in
        let exact : is_exact (word_at own.known c.0) ≡ true = r.crossings c.0 (crossing_of p.places events e q) there refl in
        let is_some_told : is_some (find (λ (at : ℕ × Crossing). eqb at.1.parent q.number && is_exact (word_at own.known at.0)) (enumerate_from 0 p.crossings)) ≡ true =
        find_in (λ (at : ℕ × Crossing). eqb at.1.parent q.number && is_exact (word_at own.known at.0)) (enumerate_from 0 p.crossings) (c.0, crossing_of p.places events e q)
        (in_enum p.crossings c.0 (crossing_of p.places events e q) there)
        (and_true (eqb q.number q.number) (is_exact (word_at own.known c.0)) (eq_test q.number q.number refl) exact)
        in
        let f : (at : ℕ × Crossing) × (find (λ (at : ℕ × Crossing). eqb at.1.parent q.number && is_exact (word_at own.known at.0)) (enumerate_from 0 p.crossings) ≡ Some at) =
        some_at (find (λ (at : ℕ × Crossing). eqb at.1.parent q.number && is_exact (word_at own.known at.0)) (enumerate_from 0 p.crossings)) is_some_told
        in
        let g = find_some (λ (at : ℕ × Crossing). eqb at.1.parent q.number && is_exact (word_at own.known at.0)) (enumerate_from 0 p.crossings) f.0 f.1 in
        let t = both (eqb f.0.1.parent q.number) (is_exact (word_at own.known f.0.0)) g.1 in
        ap (λ (z : Option (ℕ × Crossing)). option_map_or (λ (at : ℕ × Crossing). cycle_of (word_at own.known at.0)) z 0) f.1
        ∙ (exact_cycle all f.0.1 (word_at own.known f.0.0) (known.each f.0.0 f.0.1 (from_enum p.crossings f.0 g.0)) t.1
        ∙ ap (finish_in all) (test_eq f.0.1.parent q.number t.0))

    known_parent : (i : ℕ) (e : Event) (s : Option Parent) → IsReady e → slice_get events i ≡ Some e → is_own_parent_fired events p domain own s ≡ true
        → ((q : Parent) → s ≡ Some q → (e.first ≡ Some q) ⊎ (e.second ≡ Some q))
        → after_parent (known_finish events p domain own) s ≡ after_parent (finish_in all) s
    known_parent i e None r h f slot = refl
    known_parent i e (Some q) r h f slot =
        ap (λ n. n + q.delay) (by_test (eqb (domain_of_number p.places events q.number) domain) refl)
      where
        by_test : (t : Bool) → eqb (domain_of_number p.places events q.number) domain ≡ t
            → cond t (finish_in own.fired q.number) (told_finish events p own q.number) ≡ finish_in all q.number
        by_test true v = own_parent q f v
        by_test false v = told_parent i e q r h (slot q refl) v

    pub ready_start : (i : ℕ) (e : Event) → IsReady e → slice_get events i ≡ Some e → start_of (known_finish events p domain own) e ≡ start_of (finish_in all) e
    ready_start i e r h =
        ap (λ n. max e.min_start (max n (after_parent (known_finish events p domain own) e.second))) (known_parent i e e.first r h r.first (λ q s. inl s))
        ∙ ap (λ n. max e.min_start (max (after_parent (finish_in all) e.first) n)) (known_parent i e e.second r h r.second (λ q s. inr s))

    -- a ready event stands behind the cut, with the start that the domain knows
    pub record IsPlaced (e : Event) : Type 0 where
      pub k : ℕ
      pub x : FiredEvent
      pub there : slice_get all k ≡ Some x
      pub event : x.event ≡ e
      pub behind : cut ≤ k
      pub start : start_of (known_finish events p domain own) e ≡ x.start

    pub placed : (e : Event) → In e events → IsReady e → IsPlaced e
    placed e m r =
        let i : (i : ℕ) × (slice_get events i ≡ Some e) = in_at e events m in
        let at : slice_get events e.number ≡ Some e = ap (slice_get events) (o.numbered i.0 e i.1) ∙ i.1 in
        let w : (k : ℕ) × (x : FiredEvent) × (slice_get all k ≡ Some x) × (x.event ≡ e) = o.each e at in
        record {
          k = w.0;
          x = w.1;
          there = w.2;
          event = w.3;
          behind =
              elim (cases_lt w.0 cut) [
                | inl l ↦
                    let f : is_fired (of_domain p.places domain (take cut all)) w.1.event.number ≡ true =
                    fired_before events all o p.places domain cut w.0 w.1 l w.2 (ap (domain_of_event p.places) w.3 ∙ r.here)
                    in
                    let g : is_fired own.fired e.number ≡ true =
                    ap (λ (xs : List FiredEvent). is_fired xs e.number) fired_is ∙ (ap (λ (z : Event). is_fired (of_domain p.places domain (take cut all)) z.number) (sym w.3) ∙ f)
                    in
                    absurd (false≢true (sym r.unfired ∙ g))
                | inr b ↦ b
              ];
          start =
              ready_start i.0 e r i.1
              ∙ (ap (start_of (finish_in all)) (sym w.3) ∙ sym (start_by_all events all o w.0 w.1 w.2));
        }
