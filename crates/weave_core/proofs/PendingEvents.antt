-- A domain's first event behind a cut of the weave: it is what the domain takes for its next event.
use Rattle.std.proofs.Common.{◌≡◌, ◌<◌, ◌≤◌, ℕ, Bool, true, false, not, ◌&&◌, ◌||◌, eqb, leb, ltb, List, ◌++◌, take, map, ◌⊎◌, Option, Some, None, slice_get, sym, ◌∙◌, ap, subst, refl, inl, inr, arith}
use Rattle.std.proofs.lemmas.Bool.{false≢true, cases_lt}
use Rattle.std.proofs.lemmas.Bool.Decides.{nat_tests}
use Rattle.std.proofs.lemmas.Option.{same_Some}
use Rattle.std.specs.List.{filter, enumerate_from}
use Rattle.std.specs.Option.{option_map, option_to_list}
use Rattle.event_graph.specs.declared.event.Event.{Event}
use Rattle.event_graph.specs.declared.event.Parent.{Parent}
use Rattle.event_graph.specs.OneListWeave.{FiredEvent, is_event_before, is_fired, start_of}
use Rattle.domain_map.specs.declared.crossing.Crossing.{Crossing}
use Rattle.domain_map.specs.Domains.{Partition, IsPartition, domain_of_event, domain_of_number}
use Rattle.weave_core.specs.DomainMachine.{DomainState, arrival_of, every_crossing, is_clear, is_exact, is_own_parent_fired, is_ready_in, is_unresolved, known_finish, limit_of, next_in, word_at}
use Rattle.weave_core.specs.Soundness.{AreSoundBounds, AreSoundWords}
use Rattle.weave_core.specs.Interleavings.{of_domain}
use Rattle.weave_core.proofs.Lists.{In, all_in, and_true, at_in, both, either, from_enum, in_enum, in_filter, in_left, in_map, in_right, least_le, neither, not_false, not_true, one_fails, or_left, or_right, test_cases}
use Rattle.weave_core.proofs.LeastBy.{IsLeast, next_there, some_next, start_upto}
use Rattle.weave_core.proofs.Crossings.{Joins}
use Rattle.weave_core.proofs.First.{IsFirst, first_of}
use Rattle.weave_core.proofs.Firing.{IsOrder, before_start, fired_before, parent_at, start_by_all, unfired_from}
use Rattle.weave_core.proofs.Joined.{at_event, child_slot, eq_test, joined, less_is, test_eq}
use Rattle.weave_core.proofs.ReadyEvents.{IsPlaced, IsReady, is_ready, placed, ready_start, sound_arrival}

module _ (events : List Event) (p : Partition) (all : List FiredEvent) (o : IsOrder events all) (div : IsPartition events p) where
  module _ (domain cut : ℕ) (own : DomainState) (fired_is : own.fired ≡ of_domain p.places domain (take cut all))
      (known : AreSoundWords all p own.known) (bounds : AreSoundBounds events all p domain own) where
    -- The domain's first event behind the cut.

    abbrev pub is_pending : ℕ → FiredEvent → Bool
    is_pending k x = eqb (domain_of_event p.places x.event) domain && leb cut k

    pub pending_test : (k : ℕ) (x : FiredEvent) → domain_of_event p.places x.event ≡ domain → cut ≤ k → is_pending k x ≡ true
    pending_test k x d b = grind (arith, nat_tests)

    pub pending_is : (k : ℕ) (x : FiredEvent) → is_pending k x ≡ true → (domain_of_event p.places x.event ≡ domain) × (cut ≤ k)
    pending_is k x h =
        let a = both (eqb (domain_of_event p.places x.event) domain) (leb cut k) h in
        let b : cut ≤ k = grind (arith, nat_tests, a.1) in
        (test_eq (domain_of_event p.places x.event) domain a.0, b)

    not_pending : (k : ℕ) (x : FiredEvent) → is_pending k x ≡ false → domain_of_event p.places x.event ≡ domain → k < cut
    not_pending k x h d =
        elim (cases_lt k cut) [
          | inl l ↦ l
          | inr b ↦ absurd (false≢true (sym h ∙ pending_test k x d b))
        ]

    -- it is ready, or a crossing into it is unresolved
    pub record IsAwaited (x : FiredEvent) : Type 0 where
      pub number : ℕ
      pub crossing : Crossing
      pub there : slice_get p.crossings number ≡ Some crossing
      pub child : crossing.child ≡ x.event.number
      pub target : crossing.target ≡ domain
      pub unknown : is_exact (word_at own.known number) ≡ false

    own_slot : (k : ℕ) (x : FiredEvent) → IsFirst is_pending all k x → (s : Option Parent) → ((q : Parent) → s ≡ Some q → (x.event.first ≡ Some q) ⊎ (x.event.second ≡ Some q))
        → is_own_parent_fired events p domain own s ≡ true
    own_slot k x f None slot = refl
    own_slot k x f (Some q) slot =
        let r : (j : ℕ) × ((y : FiredEvent) × ((j < k) × ((slice_get all j ≡ Some y) × (y.event.number ≡ q.number)))) = parent_at events all o k x q f.there (slot q refl) in
        elim (test_cases (eqb (domain_of_number p.places events q.number) domain)) [
          | inr apart ↦ or_right (is_fired own.fired q.number) (not (eqb (domain_of_number p.places events q.number) domain)) (ap not apart)
          | inl here ↦
              let d : domain_of_event p.places r.1.0.event ≡ domain =
              sym (at_event events p.places r.1.0.event.number r.1.0.event (o.event r.0 r.1.0 r.1.1.1.0))
              ∙ (ap (domain_of_number p.places events) r.1.1.1.1 ∙ test_eq (domain_of_number p.places events q.number) domain here)
              in
              let l : r.0 < cut = not_pending r.0 r.1.0 (f.before r.0 r.1.0 r.1.1.0 r.1.1.1.0) d in
              let g : is_fired (of_domain p.places domain (take cut all)) r.1.0.event.number ≡ true = fired_before events all o p.places domain cut r.0 r.1.0 l r.1.1.1.0 d in
              or_left (is_fired own.fired q.number) (not (eqb (domain_of_number p.places events q.number) domain))
              (ap (λ (xs : List FiredEvent). is_fired xs q.number) fired_is ∙ (ap (is_fired (of_domain p.places domain (take cut all))) (sym r.1.1.1.1) ∙ g))
        ]

    pub first_pending : (k : ℕ) (x : FiredEvent) → IsFirst is_pending all k x → (is_ready_in events p domain own x.event ≡ true) ⊎ IsAwaited x
    first_pending k x f =
        let is = pending_is k x f.passes in
        let unfired : is_fired own.fired x.event.number ≡ false =
        ap (λ (xs : List FiredEvent). is_fired xs x.event.number) fired_is ∙ unfired_from events all o p.places domain cut k x is.1 f.there
        in
        elim (test_cases (every_crossing events p (λ number z. not (eqb z.child x.event.number) || is_exact (word_at own.known number)))) [
          | inl t ↦
              inl (and_true (eqb (domain_of_event p.places x.event) domain) _ (eq_test (domain_of_event p.places x.event) domain is.0)
              (and_true (not (is_fired own.fired x.event.number)) _ (ap not unfired)
              (and_true (is_own_parent_fired events p domain own x.event.first && is_own_parent_fired events p domain own x.event.second) _
              (and_true (is_own_parent_fired events p domain own x.event.first) (is_own_parent_fired events p domain own x.event.second)
              (own_slot k x f x.event.first (λ q s. inl s)) (own_slot k x f x.event.second (λ q s. inr s))) t)))
          | inr f2 ↦
              let r : (at : ℕ × Crossing) × (In at (enumerate_from 0 p.crossings) × ((not (eqb at.1.child x.event.number) || is_exact (word_at own.known at.0)) ≡ false)) =
              one_fails (λ (at : ℕ × Crossing). not (eqb at.1.child x.event.number) || is_exact (word_at own.known at.0)) (enumerate_from 0 p.crossings) f2
              in
              let n = neither (not (eqb r.0.1.child x.event.number)) (is_exact (word_at own.known r.0.0)) r.1.1 in
              let there : slice_get p.crossings r.0.0 ≡ Some r.0.1 = from_enum p.crossings r.0 r.1.0 in
              let child : r.0.1.child ≡ x.event.number = test_eq r.0.1.child x.event.number (not_false (eqb r.0.1.child x.event.number) n.0) in
              let j : Joins p.places events r.0.1 = joined events p all o div r.0.0 r.0.1 there in
              let e : x.event ≡ j.child = child_slot events p all o div r.0.0 r.0.1 j k x f.there (sym child) in
              inr (record {
                number = r.0.0;
                crossing = r.0.1;
                there = there;
                child = child;
                target = sym (ap (λ (z : Crossing). z.target) j.is) ∙ (ap (domain_of_event p.places) (sym e) ∙ is.0);
                unknown = n.1;
              })
        ]

    -- An event that the domain may fire is its first behind the cut.
    pub record IsNextHere (b : Event × ℕ) : Type 0 where
      pub k : ℕ
      pub x : FiredEvent
      pub first : IsFirst is_pending all k x
      pub event : x.event ≡ b.0
      pub start : x.start ≡ b.1

    in_order : (j k : ℕ) (y x : FiredEvent) → j ≤ k → slice_get all j ≡ Some y → slice_get all k ≡ Some x → y.start ≤ x.start
    in_order j k y x l a b =
        elim (cases_lt j k) [
          | inl less ↦ before_start y x (o.order j k y x less a b)
          | inr m ↦
              let same : j ≡ k = omega arith in
              let e : y ≡ x = same_Some y x (sym a ∙ (ap (slice_get all) same ∙ b)) in
              let s : y.start ≡ x.start = ap (λ (z : FiredEvent). z.start) e in
              omega (arith, s)
        ]

    pub may_fire : (b : Event × ℕ) → next_in events p domain own ≡ Some b → is_clear events p domain own b.1 ≡ true → IsNextHere b
    may_fire b is clear =
        let l : IsLeast (is_ready_in events p domain own) (λ e. start_of (known_finish events p domain own) e) events b =
        some_next (is_ready_in events p domain own) (λ e. start_of (known_finish events p domain own) e) events b is
        in
        let w : IsPlaced events p all o div domain cut own fired_is known bounds b.0 = placed events p all o div domain cut own fired_is known bounds b.0 l.there (is_ready events p all o div domain cut own fired_is known bounds b.0 l.passes) in
        let r : IsReady events p all o div domain cut own fired_is known bounds b.0 = is_ready events p all o div domain cut own fired_is known bounds b.0 l.passes in
        let at_start : w.x.start ≡ b.1 = sym w.start ∙ sym l.start_is in
        let f : (j : ℕ) × ((y : FiredEvent) × ((j ≤ w.k) × IsFirst is_pending all j y)) =
        first_of is_pending all w.k w.x w.there (pending_test w.k w.x (ap (domain_of_event p.places) w.event ∙ r.here) w.behind)
        in
        elim (cases_lt f.0 w.k) [
          | inr m ↦
              let same : f.0 ≡ w.k = omega (arith, f.1.1.0) in
              let e : f.1.0 ≡ w.x = same_Some f.1.0 w.x (sym f.1.1.1.there ∙ (ap (slice_get all) same ∙ w.there)) in
              record {
                k = f.0;
                x = f.1.0;
                first = f.1.1.1;
                event = ap (λ (z : FiredEvent). z.event) e ∙ w.event;
                start = ap (λ (z : FiredEvent). z.start) e ∙ at_start;
              }
          | inl less ↦
              let earlier : is_event_before f.1.0.event f.1.0.start w.x.event w.x.start ≡ true = o.order f.0 w.k f.1.0 w.x less f.1.1.1.there w.there in
              elim (first_pending f.0 f.1.0 f.1.1.1) [
                | inl ready ↦
                    let i : In f.1.0.event events = at_in f.1.0.event events f.1.0.event.number (o.event f.0 f.1.0 f.1.1.1.there) in
                    let v : IsReady events p all o div domain cut own fired_is known bounds f.1.0.event = is_ready events p all o div domain cut own fired_is known bounds f.1.0.event ready in
                    let s : start_of (known_finish events p domain own) f.1.0.event ≡ f.1.0.start =
                    ready_start events p all o div domain cut own fired_is known bounds f.1.0.event.number f.1.0.event v (o.event f.0 f.1.0 f.1.1.1.there) ∙ sym (start_by_all events all o f.0 f.1.0 f.1.1.1.there)
                    in
                    let fails_it : is_event_before f.1.0.event (start_of (known_finish events p domain own) f.1.0.event) b.0 b.1 ≡ false = l.least f.1.0.event i ready in
                    let passes_it : is_event_before f.1.0.event (start_of (known_finish events p domain own) f.1.0.event) b.0 b.1 ≡ true =
                    ap (λ n. is_event_before f.1.0.event n b.0 b.1) s
                    ∙ (ap (λ (z : Event). is_event_before f.1.0.event f.1.0.start z b.1) (sym w.event)
                    ∙ (ap (λ n. is_event_before f.1.0.event f.1.0.start w.x.event n) (sym at_start) ∙ earlier))
                    in
                    absurd (false≢true (sym fails_it ∙ passes_it))
                | inr a ↦
                    let late : arrival_of events p own a.number a.crossing ≤ f.1.0.start =
                    sound_arrival events p all o div domain cut own fired_is known bounds a.number a.crossing a.there a.target a.unknown f.0 f.1.0 f.1.1.1.there (sym a.child)
                    in
                    let t : (not (is_unresolved events p domain own a.number a.crossing) || ltb b.1 (arrival_of events p own a.number a.crossing)) ≡ true =
                    all_in (λ (at : ℕ × Crossing). not (is_unresolved events p domain own at.0 at.1) || ltb b.1 (arrival_of events p own at.0 at.1)) (enumerate_from 0 p.crossings) (a.number, a.crossing) clear (in_enum p.crossings a.number a.crossing a.there)
                    in
                    let u : is_unresolved events p domain own a.number a.crossing ≡ true =
                    and_true (eqb a.crossing.target domain) (not (is_exact (word_at own.known a.number))) (eq_test a.crossing.target domain a.target) (ap not a.unknown)
                    in
                    elim (either (not (is_unresolved events p domain own a.number a.crossing)) (ltb b.1 (arrival_of events p own a.number a.crossing)) t) [
                      | inl n ↦ absurd (false≢true (sym (not_true (is_unresolved events p domain own a.number a.crossing) n) ∙ u))
                      | inr after ↦
                          let later : b.1 < arrival_of events p own a.number a.crossing = less_is b.1 (arrival_of events p own a.number a.crossing) after in
                          let start : f.1.0.start ≤ w.x.start = before_start f.1.0 w.x earlier in
                          absurd (omega (arith, late, later, start, at_start))
                    ]
              ]
        ]

    abbrev arrivals : List ℕ
    arrivals = map (λ (at : ℕ × Crossing). arrival_of events p own at.0 at.1) (filter (λ (at : ℕ × Crossing). is_unresolved events p domain own at.0 at.1) (enumerate_from 0 p.crossings))

    -- No event behind the cut starts before the limit.
    pub limit_holds : (limit : ℕ) → limit_of events p domain own ≡ Some limit → (k : ℕ) (x : FiredEvent) → slice_get all k ≡ Some x → domain_of_event p.places x.event ≡ domain
        → cut ≤ k → limit ≤ x.start
    limit_holds limit is k x h d behind =
        let f : (j : ℕ) × ((y : FiredEvent) × ((j ≤ k) × IsFirst is_pending all j y)) = first_of is_pending all k x h (pending_test k x d behind) in
        let order : f.1.0.start ≤ x.start = in_order f.0 k f.1.0 x f.1.1.0 f.1.1.1.there h in
        elim (first_pending f.0 f.1.0 f.1.1.1) [
          | inl ready ↦
              let i : In f.1.0.event events = at_in f.1.0.event events f.1.0.event.number (o.event f.0 f.1.0 f.1.1.1.there) in
              let b : (b : Event × ℕ) × (next_in events p domain own ≡ Some b) =
              next_there (is_ready_in events p domain own) (λ e. start_of (known_finish events p domain own) e) events f.1.0.event i ready
              in
              let l : IsLeast (is_ready_in events p domain own) (λ e. start_of (known_finish events p domain own) e) events b.0 =
              some_next (is_ready_in events p domain own) (λ e. start_of (known_finish events p domain own) e) events b.0 b.1
              in
              let s : start_of (known_finish events p domain own) f.1.0.event ≡ f.1.0.start =
              ready_start events p all o div domain cut own fired_is known bounds f.1.0.event.number f.1.0.event (is_ready events p all o div domain cut own fired_is known bounds f.1.0.event ready) (o.event f.0 f.1.0 f.1.1.1.there) ∙ sym (start_by_all events all o f.0 f.1.0 f.1.1.1.there)
              in
              let upto : b.0.1 ≤ start_of (known_finish events p domain own) f.1.0.event =
              start_upto f.1.0.event (start_of (known_finish events p domain own) f.1.0.event) b.0.0 b.0.1 (l.least f.1.0.event i ready)
              in
              let m : In b.0.1 (option_to_list (option_map (λ (next : Event × ℕ). next.1) (next_in events p domain own))) =
              subst (λ (z : Option (Event × ℕ)). In b.0.1 (option_to_list (option_map (λ (next : Event × ℕ). next.1) z))) (sym b.1) (inl refl)
              in
              let r : (v : ℕ) × ((limit_of events p domain own ≡ Some v) × (v ≤ b.0.1)) =
              least_le (option_to_list (option_map (λ (next : Event × ℕ). next.1) (next_in events p domain own)) ++ arrivals) b.0.1
              (in_left b.0.1 (option_to_list (option_map (λ (next : Event × ℕ). next.1) (next_in events p domain own))) arrivals m)
              in
              let same : limit ≡ r.0 = same_Some limit r.0 (sym is ∙ r.1.0) in
              omega (arith, same, r.1.1, upto, s, order)
          | inr a ↦
              let late : arrival_of events p own a.number a.crossing ≤ f.1.0.start =
              sound_arrival events p all o div domain cut own fired_is known bounds a.number a.crossing a.there a.target a.unknown f.0 f.1.0 f.1.1.1.there (sym a.child)
              in
              let u : is_unresolved events p domain own a.number a.crossing ≡ true =
              and_true (eqb a.crossing.target domain) (not (is_exact (word_at own.known a.number))) (eq_test a.crossing.target domain a.target) (ap not a.unknown)
              in
              let m : In (arrival_of events p own a.number a.crossing) arrivals =
              in_map (λ (at : ℕ × Crossing). arrival_of events p own at.0 at.1) (a.number, a.crossing) (filter (λ (at : ℕ × Crossing). is_unresolved events p domain own at.0 at.1) (enumerate_from 0 p.crossings))
              (in_filter (λ (at : ℕ × Crossing). is_unresolved events p domain own at.0 at.1) (a.number, a.crossing) (enumerate_from 0 p.crossings) (in_enum p.crossings a.number a.crossing a.there) u)
              in
              let r : (v : ℕ) × ((limit_of events p domain own ≡ Some v) × (v ≤ arrival_of events p own a.number a.crossing)) =
              least_le (option_to_list (option_map (λ (next : Event × ℕ). next.1) (next_in events p domain own)) ++ arrivals) (arrival_of events p own a.number a.crossing)
              (in_right (arrival_of events p own a.number a.crossing) (option_to_list (option_map (λ (next : Event × ℕ). next.1) (next_in events p domain own))) arrivals m)
              in
              let same : limit ≡ r.0 = same_Some limit r.0 (sym is ∙ r.1.0) in
              omega (arith, same, r.1.1, late, order)
        ]
