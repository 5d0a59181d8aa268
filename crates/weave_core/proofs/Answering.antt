-- What a domain answers.
use Rattle.std.proofs.Common.{◌≡◌, ◌+◌, ◌-◌, ◌<◌, ◌≤◌, ℕ, zero, suc, Bool, true, false, not, ◌||◌, cond, eqb, ltb, max, List, ◌⊎◌, Option, Some, None, slice_get, get_or, sym, ◌∙◌, ap, subst, refl, inl, inr, arith}
use Rattle.std.specs.Prelude.{IfSome, IfNone}
use Rattle.std.proofs.lemmas.Bool.{cases_lt, false≢true}
use Rattle.std.proofs.lemmas.Bool.Decides.{nat_tests}
use Rattle.std.proofs.lemmas.Option.{same_Some, get_or_from_slice_get}
use Rattle.std.specs.List.{enumerate_from}
use Rattle.std.specs.Option.{option_map}
use Rattle.zs_num.specs.KeyOrder.{is_key_before}
use Rattle.zs_num.specs.declared.time.Key.{Key}
use Rattle.event_graph.specs.declared.event.Event.{Event}
use Rattle.event_graph.specs.declared.event.Parent.{Parent}
use Rattle.event_graph.specs.Numbered.{IsNumbered}
use Rattle.event_graph.specs.OneListWeave.{is_fired}
use Rattle.domain_map.specs.declared.crossing.Crossing.{Crossing}
use Rattle.domain_map.specs.Domains.{Partition, IsPartition, domain_of_event, domain_of_number}
use Rattle.weave_core.specs.declared.incoming.Stub.{Stub}
use Rattle.weave_core.specs.Answer.{IsBlocking, answer_of, blocked_by, fire_of, no_stub, numbered_key}
use Rattle.weave_core.specs.DomainCalls.{AllFired, IsAnswer, IsBlockedBy, MayFire, earliest_of}
use Rattle.weave_core.specs.DomainMachine.{DomainState, arrival_of, bound_of, cycle_of, is_exact, is_own_parent_fired, is_unresolved, latency_at, next_in, word_at}
use Rattle.weave_core.specs.Layout.{AreHere, AreStubs, Stands, known_words, missing_at, no_event, pending, unknown_into}
use Rattle.weave_core.specs.Stubs.{IsFirstStub, NoneOpen, arrival_at}
use Rattle.weave_core.specs.Waits.{IsFirstReady, NoneReady, Waits, key_of}
use Rattle.weave_core.proofs.Joined.{at_event}
use Rattle.weave_core.proofs.Lists.{all_from, and_true, both, from_enum, get_below, get_there, not_true, or_left, or_right}
use Rattle.weave_core.proofs.Readiness.{first_next, none_next}
use Rattle.weave_core.proofs.Words.{all_known, eq_is, is_eq, none_unknown, word_known}

module _ (events : List Event) (p : Partition) (domain : ℕ) (here : List Event) (stubs : List Stub) (own : DomainState) (w : Waits)
    (numbered : IsNumbered events) (partitions : IsPartition events p) (are_here : AreHere events p domain here) (are : AreStubs events p domain here stubs)
    (known : own.known ≡ known_words p.crossings stubs) (stands : Stands events p domain own here stubs w) where
  pub next_first : (k : Key) (e : Event) → slice_get here k.number ≡ Some e → IsFirstReady w k → next_in events p domain own ≡ Some (e, k.start)
  next_first = first_next events p domain here stubs own w numbered partitions are_here are known stands

  pub next_none : NoneReady w → next_in events p domain own ≡ None
  next_none = none_next events p domain here stubs own w numbered partitions are_here are known stands

  pub there_first : (k : Key) → IsFirstReady w k → (e : Event) × (slice_get here k.number ≡ Some e)
  there_first k f = get_there here k.number (omega (arith, get_below w.waits k.number 0 f.ready, stands.waits_size))

  number_read : (place : ℕ) (e : Event) → slice_get here place ≡ Some e → (get_or here place no_event).number ≡ e.number
  number_read place e h = ap (λ (z : Event). z.number) (get_or_from_slice_get here place e no_event h)

  -- the earliest
  pub earliest_none : NoneReady w → earliest_of events p domain own ≡ None
  earliest_none none = ap (option_map (λ (next : Event × ℕ). key_of next.1 next.0.number)) (next_none none)

  pub earliest_some : (k : Key) → IsFirstReady w k → earliest_of events p domain own ≡ Some (numbered_key here k)
  earliest_some k f =
      let e = there_first k f in
      ap (option_map (λ (next : Event × ℕ). key_of next.1 next.0.number)) (next_first k e.0 e.1 f) ∙ ap (λ n. Some (key_of k.start n)) (sym (number_read k.number e.0 e.1))

  -- a stub and its crossing

  word_here : (k : ℕ) (s : Stub) → slice_get stubs k ≡ Some s → word_at own.known s.number ≡ s.word
  word_here k s h = ap (λ ws. word_at ws s.number) known ∙ word_known events p domain here stubs are k s h

  pub arrival_here : (k : ℕ) (s : Stub) (x : Crossing) → slice_get stubs k ≡ Some s → slice_get p.crossings s.number ≡ Some x → arrival_of events p own s.number x ≡ arrival_at own.floor s
  arrival_here k s x h there =
      let i = are.each k s h in
      let same : i.crossing ≡ x = same_Some i.crossing x (sym i.there ∙ there) in
      let delay : s.delay ≡ x.delay = i.delay ∙ ap (λ (z : Crossing). z.delay) same in
      let latency : s.latency ≡ latency_at events x.parent = i.latency ∙ ap (λ (z : Crossing). latency_at events z.parent) same in
      let word : cycle_of (word_at own.known s.number) ≡ cycle_of s.word = ap cycle_of (word_here k s h) in
      alike (cycle_of (word_at own.known s.number)) (cycle_of s.word) own.floor (latency_at events x.parent) s.latency x.delay s.delay word (sym latency) (sym delay)
    where
      alike : (a b f l m d e : ℕ) → a ≡ b → l ≡ m → d ≡ e → max a (f + l) + d ≡ max b (f + m) + e
      alike a b f l m d e u v t = omega arith

  -- an unresolved crossing has an open stub
  pub unresolved_stub : (number : ℕ) (x : Crossing) → slice_get p.crossings number ≡ Some x → is_unresolved events p domain own number x ≡ true
      → (k : ℕ) × ((s : Stub) × ((slice_get stubs k ≡ Some s) × ((s.number ≡ number) × (is_exact s.word ≡ false))))
  unresolved_stub number x there h =
      let b = both (eqb x.target domain) (not (is_exact (word_at own.known number))) h in
      let c = are.covers number x there (eq_is x.target domain b.0) in
      let word : word_at own.known number ≡ c.1.0.word = ap (λ n. word_at own.known n) (sym c.1.1.1) ∙ word_here c.0 c.1.0 c.1.1.0 in
      (c.0, (c.1.0, (c.1.1.0, (c.1.1.1, ap is_exact (sym word) ∙ not_true (is_exact (word_at own.known number)) b.1))))

  pub stub_unresolved : (k : ℕ) (s : Stub) (x : Crossing) → slice_get stubs k ≡ Some s → slice_get p.crossings s.number ≡ Some x → is_exact s.word ≡ false → is_unresolved events p domain own s.number x ≡ true
  stub_unresolved k s x h there unknown =
      let i = are.each k s h in
      let same : i.crossing ≡ x = same_Some i.crossing x (sym i.there ∙ there) in
      and_true (eqb x.target domain) (not (is_exact (word_at own.known s.number))) (is_eq x.target domain (ap (λ (z : Crossing). z.target) (sym same) ∙ i.target))
      (ap not (ap is_exact (word_here k s h) ∙ unknown))

  -- done

  module _ (ready : NoneReady w) (closed : (k : ℕ) (s : Stub) → slice_get stubs k ≡ Some s → is_exact s.word ≡ true) where
    all_below : (n i : ℕ) (e : Event) → i < n → slice_get events i ≡ Some e → domain_of_event p.places e ≡ domain → is_fired own.fired e.number ≡ true
    all_below zero i e l h d = absurd (omega arith)
    all_below (suc n) i e l h d =
        by_test (λ j f m g t. all_below n j f (omega (arith, m, l)) g t) (is_fired own.fired e.number) refl
      where
        own_parent : ((j : ℕ) (f : Event) → j < i → slice_get events j ≡ Some f → domain_of_event p.places f ≡ domain → is_fired own.fired f.number ≡ true)
            → (q : Option Parent) → ((r : Parent) → q ≡ Some r → r.number < i) → is_own_parent_fired events p domain own q ≡ true
        own_parent less None below = refl
        own_parent less (Some q) below = by_domain (eqb (domain_of_number p.places events q.number) domain) refl
          where
            by_domain : (t : Bool) → eqb (domain_of_number p.places events q.number) domain ≡ t → (is_fired own.fired q.number || not t) ≡ true
            by_domain false v = or_right (is_fired own.fired q.number) true refl
            by_domain true v =
                let lower : q.number < i = below q refl in
                let f : (f : Event) × (slice_get events q.number ≡ Some f) = get_there events q.number (omega (arith, lower, get_below events i e h)) in
                let d : domain_of_event p.places f.0 ≡ domain = sym (at_event events p.places q.number f.0 f.1) ∙ eq_is (domain_of_number p.places events q.number) domain v in
                let fired : is_fired own.fired f.0.number ≡ true = less q.number f.0 lower f.1 d in
                or_left (is_fired own.fired q.number) false (ap (is_fired own.fired) (sym (numbered.number q.number f.0 f.1)) ∙ fired)

        by_test : ((j : ℕ) (f : Event) → j < i → slice_get events j ≡ Some f → domain_of_event p.places f ≡ domain → is_fired own.fired f.number ≡ true)
            → (t : Bool) → is_fired own.fired e.number ≡ t → is_fired own.fired e.number ≡ true
        by_test less true v = v
        by_test less false v =
            let place = are_here.covers i e h d in
            let first : is_own_parent_fired events p domain own e.first ≡ true = own_parent less e.first (λ r s. numbered.first i e r h s) in
            let second : is_own_parent_fired events p domain own e.second ≡ true = own_parent less e.second (λ r s. numbered.second i e r h s) in
            let a : pending events p domain own e.first ≡ 0 = ap (λ (t : Bool). cond {A = ℕ} t 0 1) first in
            let b : pending events p domain own e.second ≡ 0 = ap (λ (t : Bool). cond {A = ℕ} t 0 1) second in
            let u : unknown_into place.0 stubs ≡ 0 = all_known place.0 stubs (λ k s there is. closed k s there) in
            let none : missing_at events p domain own place.0 e stubs ≡ 0 = omega (arith, a, b, u) in
            absurd (ready place.0 (stands.waits place.0 e place.1 ∙ (ap (λ (t : Bool). Some (cond t 4294967295 (missing_at events p domain own place.0 e stubs))) v ∙ ap (λ n. Some n) none)))

    pub done : AllFired events p domain own
    done i e h d = all_below (suc i) i e (omega arith) h d

  -- it may fire

  may_fire : (k : Key) → IsFirstReady w k → ((place : ℕ) (s : Stub) → slice_get stubs place ≡ Some s → is_exact s.word ≡ false → k.start < arrival_at own.floor s)
      → MayFire events p domain own (numbered_key here k)
  may_fire k f later =
      let e = there_first k f in
      record {
        event = e.0;
        next = next_first k e.0 e.1 f;
        number = sym (number_read k.number e.0 e.1);
        clear =
            all_from (λ (at : ℕ × Crossing). not (is_unresolved events p domain own at.0 at.1) || ltb k.start (arrival_of events p own at.0 at.1)) (enumerate_from 0 p.crossings)
            (λ at m. by_test at (from_enum p.crossings at m) (is_unresolved events p domain own at.0 at.1) refl);
      }
    where
      below : (a b : ℕ) → a < b → ltb a b ≡ true
      below a b h = grind (arith, nat_tests)

      by_test : (at : ℕ × Crossing) → slice_get p.crossings at.0 ≡ Some at.1 → (t : Bool) → is_unresolved events p domain own at.0 at.1 ≡ t
          → (not t || ltb k.start (arrival_of events p own at.0 at.1)) ≡ true
      by_test at there false v = refl
      by_test at there true v =
          let s = unresolved_stub at.0 at.1 there v in
          let same : arrival_of events p own at.0 at.1 ≡ arrival_at own.floor s.1.0 =
          ap (λ n. arrival_of events p own n at.1) (sym s.1.1.1.0) ∙ arrival_here s.0 s.1.0 at.1 s.1.1.0 (ap (slice_get p.crossings) s.1.1.1.0 ∙ there)
          in
          below k.start (arrival_of events p own at.0 at.1) (omega (arith, same, later s.0 s.1.0 s.1.1.0 s.1.1.1.1))

  -- it is blocked

  blocked : (b : Key) → IsFirstStub (record { stubs = stubs; floor = own.floor }) b
      → ((next_in events p domain own ≡ None) ⊎ ((e : Event) × ((start : ℕ) × ((next_in events p domain own ≡ Some (e, start)) × (b.start ≤ start)))))
      → IsAnswer events p domain own (blocked_by stubs b)
  blocked b f late =
      let s = f.stub in
      let i = are.each b.number s f.there in
      let read : get_or stubs b.number no_stub ≡ s = get_or_from_slice_get stubs b.number s no_stub f.there in
      let arrival : arrival_of events p own s.number i.crossing ≡ b.start = arrival_here b.number s i.crossing f.there i.there ∙ sym f.start in
      let answer : IsBlockedBy events p domain own s.number (b.start - s.delay) = record {
        crossing = i.crossing;
        is_least = record {
          there = i.there;
          unresolved = stub_unresolved b.number s i.crossing f.there i.there f.unknown;
          least = λ other y there open_y.
              let t = unresolved_stub other y there open_y in
              let same : arrival_of events p own other y ≡ arrival_at own.floor t.1.0 =
              ap (λ n. arrival_of events p own n y) (sym t.1.1.1.0) ∙ arrival_here t.0 t.1.0 y t.1.1.0 (ap (slice_get p.crossings) t.1.1.1.0 ∙ there)
              in
              least_of (arrival_of events p own s.number i.crossing) (arrival_of events p own other y) (arrival_at own.floor t.1.0) b.start t.0 b.number arrival same
              (f.least t.0 t.1.0 t.1.1.0 t.1.1.1.1) s.number other
              (λ l. let r : s.number < t.1.0.number = are.rising b.number t.0 s t.1.0 l f.there t.1.1.0 in omega (arith, r, t.1.1.1.0))
              (λ e. let n : s.number ≡ t.1.0.number = ap (λ (z : Stub). z.number) (same_Some s t.1.0 (sym f.there ∙ (ap (slice_get stubs) e ∙ t.1.1.0))) in omega (arith, n, t.1.1.1.0));
        };
        bound_is = without (b.start) (bound_of events p own s.number i.crossing) (i.crossing.delay) s.delay arrival i.delay;
        unfinished = λ all.
            let c = are_here.each s.child i.child i.child_there in
            let fired : is_fired own.fired i.child.number ≡ true = all i.child.number i.child c.0 c.1 in
            let none : missing_at events p domain own s.child i.child stubs ≡ 0 = stands.finished s.child i.child i.child_there fired in
            let unknown : unknown_into s.child stubs ≡ 0 = omega (arith, none) in
            false≢true (sym f.unknown ∙ none_unknown s.child stubs unknown b.number s f.there refl);
        late = elim late [
          | inl n ↦ inl n
          | inr m ↦ inr (m.0, m.1.0, m.1.1.0, omega (arith, arrival, m.1.1.1))
        ];
      }
      in
      subst (λ (z : Stub). IsBlockedBy events p domain own z.number (b.start - z.delay)) (sym read) answer
    where
      without : (start bound d e : ℕ) → bound + d ≡ start → e ≡ d → start - e ≡ bound
      without start bound d e h k = omega arith

      least_of : (a y t s i j : ℕ) → a ≡ s → y ≡ t → is_key_before (key_of t i) (key_of s j) ≡ false → (m n : ℕ) → (j < i → m ≤ n) → (j ≡ i → m ≤ n) → (a < y) ⊎ ((a ≡ y) × (m ≤ n))
      least_of a y t s i j e g h m n u v =
          let upto : s ≤ t = grind (arith, nat_tests) in
          elim (cases_lt s t) [
            | inl l ↦ inl (omega (arith, l, e, g))
            | inr o ↦
                let tie : s ≡ t = omega (arith, upto, o) in
                let place : j ≤ i = grind (arith, nat_tests) in
                inr (omega (arith, e, g, tie), elim (cases_lt j i) [ inl l ↦ u l | inr q ↦ v (omega (arith, place, q)) ])
          ]

  -- all together
  pub answers : (ready first : Option Key) → IfSome ready (IsFirstReady w) → IfNone ready (NoneReady w)
      → IfSome first (IsFirstStub (record { stubs = stubs; floor = own.floor })) → IfNone first (NoneOpen (record { stubs = stubs; floor = own.floor }))
      → IsAnswer events p domain own (answer_of here stubs ready first)
  answers None None r n f o = done n o
  answers (Some k) None r n f o = may_fire k r (λ place s there unknown. absurd (false≢true (sym unknown ∙ o place s there)))
  answers None (Some b) r n f o = blocked b f (inl (next_none n))
  answers (Some k) (Some b) r n f o = by_test (ltb k.start b.start) refl
    where
      is_less : (x y : ℕ) → ltb x y ≡ true → x < y
      is_less x y h = grind (arith, nat_tests)

      not_less : (x y : ℕ) → ltb x y ≡ false → y ≤ x
      not_less x y h = grind (arith, nat_tests)

      upto : (s t i j : ℕ) → is_key_before (key_of s i) (key_of t j) ≡ false → t ≤ s
      upto s t i j h = grind (arith, nat_tests)

      by_test : (t : Bool) → ltb k.start b.start ≡ t → IsAnswer events p domain own (cond t (fire_of here k) (blocked_by stubs b))
      by_test true v =
          may_fire k r (λ place s there unknown.
          let l : b.start ≤ arrival_at own.floor s = upto (arrival_at own.floor s) b.start place b.number (f.least place s there unknown) in
          omega (arith, is_less k.start b.start v, l))
      by_test false v =
          let e = there_first k r in
          blocked b f (inr (e.0, (k.start, (next_first k e.0 e.1 r, not_less k.start b.start v))))

  -- where a first stub is, its arrival is no earlier than its delay
  pub blocking : (b : Key) → IsFirstStub (record { stubs = stubs; floor = own.floor }) b → IsBlocking stubs b
  blocking b f = record { stub = f.stub; there = f.there; delay = omega (arith, f.start) }
