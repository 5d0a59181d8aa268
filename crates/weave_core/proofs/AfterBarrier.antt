-- After a barrier the domain with the first unfired event may fire it.
use Rattle.std.proofs.Common.{◌≡◌, ◌+◌, ◌<◌, ◌≤◌, ℕ, suc, Bool, true, false, not, ◌||◌, cond, ltb, List, [], ◌∷◌, length, map, max, get_or, take, Option, Some, None, slice_get, sym, ◌∙◌, ap, refl, inl, inr, arith}
use Rattle.std.proofs.lemmas.Bool.{false≢true, cases_lt}
use Rattle.std.proofs.lemmas.Bool.Decides.{nat_tests}
use Rattle.std.proofs.lemmas.Option.{same_Some}
use Rattle.std.specs.List.{enumerate_from}
use Rattle.std.specs.Option.{option_map, option_map_or, option_to_list}
use Rattle.component.specs.declared.kind.Kind.{Kind}
use Rattle.event_graph.specs.declared.event.Event.{Event}
use Rattle.event_graph.specs.OneListWeave.{FiredEvent, is_event_before, is_fired, start_of}
use Rattle.domain_map.specs.declared.crossing.Crossing.{Crossing}
use Rattle.domain_map.specs.Domains.{Partition, IsPartition, domain_of_event}
use Rattle.weave_core.specs.DomainMachine.{DomainState, MachineState, arrival_of, barrier, cycle_of, effect_of, fire, fresh_domain, is_allowed, is_clear, is_exact, is_ready_in, is_unresolved, known_finish, latency_at, latency_of, least_ready_start, next_in, ready_starts, state_of, take_step, with_floor, word_at}
use Rattle.weave_core.specs.Interleavings.{of_domain}
use Rattle.weave_core.proofs.Lists.{In, all_from, at_in, from_enum, in_cases, least_above, or_right, test_cases}
use Rattle.weave_core.proofs.LeastBy.{IsLeast, next_there, some_next}
use Rattle.weave_core.proofs.Updates.{floor_below}
use Rattle.weave_core.proofs.First.{IsFirst}
use Rattle.weave_core.proofs.Firing.{IsOrder, before_fired, before_start, fired_before, start_by_all}
use Rattle.weave_core.proofs.Joined.{latency_there, parent_of_crossing}
use Rattle.weave_core.proofs.ReadyEvents.{IsPlaced, IsReady, is_ready, placed, ready_start}
use Rattle.weave_core.proofs.Steps.{AreFronts, bounds_from}
use Rattle.weave_core.proofs.Barriers.{first_left_ready, is_left, left_test, left_is, some_start}

-- a ready start is that of a domain's next event
from_starts : (events : List Event) (p : Partition) (n : ℕ) (xs : List DomainState) (v : ℕ) → In v (ready_starts events p (enumerate_from n xs))
    → (d : ℕ) × ((b : Event × ℕ) × ((next_in events p (n + d) (get_or xs d fresh_domain) ≡ Some b) × (b.1 ≡ v)))
from_starts events p n [] v h = absurd h
from_starts events p n (x ∷ xs) v h =
    elim (in_cases v (option_to_list (option_map (λ (next : Event × ℕ). next.1) (next_in events p n x))) (ready_starts events p (enumerate_from (n + 1) xs)) h) [
      | inl m ↦
          let r : (b : Event × ℕ) × ((next_in events p n x ≡ Some b) × (b.1 ≡ v)) = one (next_in events p n x) refl m in
          (0, (r.0, (ap (λ (i : ℕ). next_in events p i x) (omega arith) ∙ r.1.0, r.1.1)))
      | inr m ↦
          let r : (d : ℕ) × ((b : Event × ℕ) × ((next_in events p ((n + 1) + d) (get_or xs d fresh_domain) ≡ Some b) × (b.1 ≡ v))) = from_starts events p (n + 1) xs v m in
          (suc r.0, (r.1.0, (ap (λ (i : ℕ). next_in events p i (get_or xs r.0 fresh_domain)) (omega arith) ∙ r.1.1.0, r.1.1.1)))
    ]
  where
    one : (o : Option (Event × ℕ)) → next_in events p n x ≡ o → In v (option_to_list (option_map (λ (next : Event × ℕ). next.1) o))
        → (b : Event × ℕ) × ((next_in events p n x ≡ Some b) × (b.1 ≡ v))
    one None e m = absurd m
    one (Some b) e m = elim m [ inl s ↦ (b, (e, s)) | inr n ↦ absurd n ]

less_test : (a b : ℕ) → a < b → ltb a b ≡ true
less_test a b h = grind (arith, nat_tests)

module _ {C : Type 0} (stepped : C → Kind → ℕ → C × ℕ) (events : List Event) (p : Partition) (comps : List C) (all : List FiredEvent)
    (o : IsOrder events all) (div : IsPartition events p)
    (here : (k : ℕ) (x : FiredEvent) → slice_get all k ≡ Some x → domain_of_event p.places x.event < length p.events)
    (s : MachineState C) (h : AreFronts stepped events p comps all o div s)
    (resolved : (number : ℕ) (x : Crossing) → slice_get p.crossings number ≡ Some x → is_fired (state_of s x.source).fired x.parent ≡ true → is_exact (word_at (state_of s x.target).known number) ≡ true)
    (k : ℕ) (x : FiredEvent) (there : slice_get all k ≡ Some x)
    (unfired : is_fired (state_of s (domain_of_event p.places x.event)).fired x.event.number ≡ false)
    (before : (earlier : ℕ) (y : FiredEvent) → earlier < k → slice_get all earlier ≡ Some y → is_fired (state_of s (domain_of_event p.places y.event)).fired y.event.number ≡ true) where
  first : IsFirst (is_left stepped events p comps all o div here s h resolved) all k x
  first = record {
    there = there;
    passes = left_test stepped events p comps all o div here s h resolved k x
        (elim (cases_lt k (h.cut (domain_of_event p.places x.event))) [
          | inr m ↦ m
          | inl l ↦
              let f : is_fired (of_domain p.places (domain_of_event p.places x.event) (take (h.cut (domain_of_event p.places x.event)) all)) x.event.number ≡ true =
              fired_before events all o p.places (domain_of_event p.places x.event) (h.cut (domain_of_event p.places x.event)) k x l there refl
              in
              absurd (false≢true (sym unfired ∙ (ap (λ (xs : List FiredEvent). is_fired xs x.event.number) (h.domains (domain_of_event p.places x.event)).fired ∙ f)))
        ]);
    before = λ j y l e.
        elim (test_cases (is_left stepped events p comps all o div here s h resolved j y)) [
          | inr fails_it ↦ fails_it
          | inl passes_it ↦
              let f : is_fired (of_domain p.places (domain_of_event p.places y.event) (take (h.cut (domain_of_event p.places y.event)) all)) y.event.number ≡ true =
              ap (λ (xs : List FiredEvent). is_fired xs y.event.number) (sym (h.domains (domain_of_event p.places y.event)).fired) ∙ before j y l e
              in
              let b = before_fired events all o p.places (domain_of_event p.places y.event) (h.cut (domain_of_event p.places y.event)) j y e f in
              absurd (omega (arith, b.0, left_is stepped events p comps all o div here s h resolved j y passes_it))
        ];
  }

  pub start_at : (start : ℕ) × (least_ready_start events p stepped s ≡ Some start)
  start_at = some_start stepped events p comps all o div here s h resolved k x first

  -- no event that a domain may come to is before x
  not_earlier : (d : ℕ) (b : Event × ℕ) → next_in events p d (state_of s d) ≡ Some b
      → (j : ℕ) × ((y : FiredEvent) × ((k ≤ j) × ((slice_get all j ≡ Some y) × ((y.event ≡ b.0) × (y.start ≡ b.1)))))
  not_earlier d b is =
      let own = h.domains d in
      let l : IsLeast (is_ready_in events p d (state_of s d)) (λ e. start_of (known_finish events p d (state_of s d)) e) events b =
      some_next (is_ready_in events p d (state_of s d)) (λ e. start_of (known_finish events p d (state_of s d)) e) events b is
      in
      let r : IsReady events p all o div d (h.cut d) (state_of s d) own.fired own.known (bounds_from stepped events p comps all o div _ _ _ own) b.0 = is_ready events p all o div d (h.cut d) (state_of s d) own.fired own.known (bounds_from stepped events p comps all o div _ _ _ own) b.0 l.passes in
      let w : IsPlaced events p all o div d (h.cut d) (state_of s d) own.fired own.known (bounds_from stepped events p comps all o div _ _ _ own) b.0 = placed events p all o div d (h.cut d) (state_of s d) own.fired own.known (bounds_from stepped events p comps all o div _ _ _ own) b.0 l.there r in
      let in_d : domain_of_event p.places w.x.event ≡ d = ap (domain_of_event p.places) w.event ∙ r.here in
      let cut : h.cut (domain_of_event p.places w.x.event) ≡ h.cut d = ap h.cut in_d in (
        w.k,
        (
          w.x,
          (
            elim (cases_lt w.k k) [
              | inr m ↦ m
              | inl less ↦ absurd (false≢true (sym (first.before w.k w.x less w.there) ∙ left_test stepped events p comps all o div here s h resolved w.k w.x (omega (arith, cut, w.behind))))
            ],
            (w.there, (w.event, sym w.start ∙ sym l.start_is)),
          ),
        ),
      )

  later_start : (j : ℕ) (y : FiredEvent) → k ≤ j → slice_get all j ≡ Some y → x.start ≤ y.start
  later_start j y l e =
      elim (cases_lt k j) [
        | inl less ↦ before_start x y (o.order k j x y less there e)
        | inr m ↦
            let same : k ≡ j = omega (arith, l) in
            let t : x.start ≡ y.start = ap (λ (z : FiredEvent). z.start) (same_Some x y (sym there ∙ (ap (slice_get all) same ∙ e))) in
            omega (arith, t)
      ]

  -- the least ready start is not before that of x
  least_is : x.start ≤ start_at.0
  least_is =
      least_above (ready_starts events p (enumerate_from 0 s.domains)) start_at.0 x.start start_at.1
      (λ v m.
      let r = from_starts events p 0 s.domains v m in
      let n = not_earlier r.0 r.1.0 (ap (λ (i : ℕ). next_in events p i (state_of s r.0)) (omega arith) ∙ r.1.1.0) in
      let t : x.start ≤ n.1.0.start = later_start n.0 n.1.0 n.1.1.0 n.1.1.1.0 in
      omega (arith, t, n.1.1.1.1.1, r.1.1.1))

  -- x is what its domain comes to
  pub next_is : next_in events p (domain_of_event p.places x.event) (state_of s (domain_of_event p.places x.event)) ≡ Some (x.event, x.start)
  next_is =
      let own = h.domains (domain_of_event p.places x.event) in
      let ready = first_left_ready stepped events p comps all o div here s h resolved k x first in
      let i : In x.event events = at_in x.event events x.event.number (o.event k x there) in
      let b : (b : Event × ℕ) × (next_in events p (domain_of_event p.places x.event) (state_of s (domain_of_event p.places x.event)) ≡ Some b) =
      next_there (is_ready_in events p (domain_of_event p.places x.event) (state_of s (domain_of_event p.places x.event))) (λ e. start_of (known_finish events p (domain_of_event p.places x.event) (state_of s (domain_of_event p.places x.event))) e) events x.event i ready
      in
      let l = some_next (is_ready_in events p (domain_of_event p.places x.event) (state_of s (domain_of_event p.places x.event))) (λ e. start_of (known_finish events p (domain_of_event p.places x.event) (state_of s (domain_of_event p.places x.event))) e) events b.0 b.1 in
      let n = not_earlier (domain_of_event p.places x.event) b.0 b.1 in
      let at : start_of (known_finish events p (domain_of_event p.places x.event) (state_of s (domain_of_event p.places x.event))) x.event ≡ x.start =
      ready_start events p all o div (domain_of_event p.places x.event) (h.cut (domain_of_event p.places x.event)) (state_of s (domain_of_event p.places x.event)) own.fired own.known (bounds_from stepped events p comps all o div _ _ _ own) x.event.number x.event
      (is_ready events p all o div (domain_of_event p.places x.event) (h.cut (domain_of_event p.places x.event)) (state_of s (domain_of_event p.places x.event)) own.fired own.known (bounds_from stepped events p comps all o div _ _ _ own) x.event ready) (o.event k x there)
      ∙ sym (start_by_all events all o k x there)
      in
      elim (cases_lt k n.0) [
        | inl less ↦
            let passes_it : is_event_before x.event x.start n.1.0.event n.1.0.start ≡ true = o.order k n.0 x n.1.0 less there n.1.1.1.0 in
            let fails_it : is_event_before x.event x.start b.0.0 b.0.1 ≡ false = ap (λ t. is_event_before x.event t b.0.0 b.0.1) (sym at) ∙ l.least x.event i ready in
            absurd (false≢true (sym fails_it ∙ (ap (λ (z : Event). is_event_before x.event x.start z b.0.1) (sym n.1.1.1.1.0) ∙ (ap (λ t. is_event_before x.event x.start n.1.0.event t) (sym n.1.1.1.1.1) ∙ passes_it))))
        | inr m ↦
            let same : k ≡ n.0 = omega (arith, n.1.1.0) in
            let is : x ≡ n.1.0 = same_Some x n.1.0 (sym there ∙ (ap (slice_get all) same ∙ n.1.1.1.0)) in
            let e : b.0.0 ≡ x.event = sym (ap (λ (z : FiredEvent). z.event) is ∙ n.1.1.1.1.0) in
            let t : b.0.1 ≡ x.start = sym (ap (λ (z : FiredEvent). z.start) is ∙ n.1.1.1.1.1) in
            b.1 ∙ (ap (λ (z : Event). Some (z, b.0.1)) e ∙ ap (λ (v : ℕ). Some (x.event, v)) t)
      ]

  -- with the new floor nothing holds it up
  pub clear : is_clear events p (domain_of_event p.places x.event) (with_floor start_at.0 (state_of s (domain_of_event p.places x.event))) x.start ≡ true
  clear =
      all_from (λ (at : ℕ × Crossing). not (is_unresolved events p (domain_of_event p.places x.event) (with_floor start_at.0 (state_of s (domain_of_event p.places x.event))) at.0 at.1)
      || ltb x.start (arrival_of events p (with_floor start_at.0 (state_of s (domain_of_event p.places x.event))) at.0 at.1)) (enumerate_from 0 p.crossings)
      (λ at m.
      let q = parent_of_crossing events p all o div at.0 at.1 (from_enum p.crossings at m) in
      let some : 1 ≤ latency_of q.1.0.event = o.some q.0 q.1.0 q.1.1.0 in
      let latency : latency_at events at.1.parent ≡ latency_of q.1.0.event =
      ap (latency_at events) (sym q.1.1.1.0) ∙ latency_there events q.1.0.event.number q.1.0.event (o.event q.0 q.1.0 q.1.1.0)
      in
      or_right (not (is_unresolved events p (domain_of_event p.places x.event) (with_floor start_at.0 (state_of s (domain_of_event p.places x.event))) at.0 at.1))
      (ltb x.start (arrival_of events p (with_floor start_at.0 (state_of s (domain_of_event p.places x.event))) at.0 at.1))
      (less_test x.start (arrival_of events p (with_floor start_at.0 (state_of s (domain_of_event p.places x.event))) at.0 at.1)
      (above x.start start_at.0 (latency_at events at.1.parent) (cycle_of (word_at (state_of s (domain_of_event p.places x.event)).known at.0)) at.1.delay least_is (omega (arith, some, latency)))))
    where
      above : (a m l c d : ℕ) → a ≤ m → 1 ≤ l → a < max c (m + l) + d
      above a m l c d u v = omega arith

  after_is : (allowed : is_allowed events p stepped s barrier ≡ true) → state_of (take_step events p stepped s barrier) (domain_of_event p.places x.event) ≡ with_floor start_at.0 (state_of s (domain_of_event p.places x.event))
  unfolding take_step
  after_is allowed =
      ap (λ (t : Bool). state_of (cond t (effect_of events p stepped s barrier) s) (domain_of_event p.places x.event)) allowed
      ∙ (ap (λ (z : Option ℕ). state_of (option_map_or (λ start. record s { domains = map (with_floor start) s.domains }) z s) (domain_of_event p.places x.event)) start_at.1
      ∙ floor_below start_at.0 s.domains (domain_of_event p.places x.event) (omega (arith, here k x there, h.count)))

  pub may_fire_first : is_allowed events p stepped s barrier ≡ true → (is_allowed events p stepped (take_step events p stepped s barrier) (fire (domain_of_event p.places x.event)) ≡ true)
      × (next_in events p (domain_of_event p.places x.event) (state_of (take_step events p stepped s barrier) (domain_of_event p.places x.event)) ≡ Some (x.event, x.start))
  may_fire_first allowed =
      let next : next_in events p (domain_of_event p.places x.event) (state_of (take_step events p stepped s barrier) (domain_of_event p.places x.event)) ≡ Some (x.event, x.start) =
      ap (next_in events p (domain_of_event p.places x.event)) (after_is allowed) ∙ next_is
      in (
        ap (λ (z : Option (Event × ℕ)). option_map_or (λ (b : Event × ℕ). is_clear events p (domain_of_event p.places x.event) (state_of (take_step events p stepped s barrier) (domain_of_event p.places x.event)) b.1) z false) next
            ∙ (ap (λ (z : DomainState). is_clear events p (domain_of_event p.places x.event) z x.start) (after_is allowed) ∙ clear),
        next,
      )
