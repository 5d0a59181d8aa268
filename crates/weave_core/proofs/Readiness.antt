-- An event is ready where its place waits for nothing, and its start is the one kept there.
use Rattle.std.proofs.Common.{◌≡◌, ◌+◌, ◌<◌, ◌≤◌, ℕ, Bool, true, false, not, ◌&&◌, ◌||◌, cond, eqb, ltb, max, List, ◌⊎◌, Option, Some, None, slice_get, sym, ◌∙◌, ap, subst, refl, inl, inr, arith}
use Rattle.std.proofs.lemmas.Bool.{cases_lt, false≢true}
use Rattle.std.proofs.lemmas.Bool.Decides.{nat_tests}
use Rattle.std.proofs.lemmas.Option.{same_Some}
use Rattle.std.specs.List.{enumerate_from, find}
use Rattle.std.specs.Option.{option_map_or}
use Rattle.zs_num.specs.KeyOrder.{is_key_before}
use Rattle.zs_num.specs.declared.time.Key.{Key}
use Rattle.event_graph.specs.declared.event.Event.{Event}
use Rattle.event_graph.specs.declared.event.Parent.{Parent}
use Rattle.event_graph.specs.Numbered.{IsNumbered}
use Rattle.event_graph.specs.OneListWeave.{after_parent, finish_in, is_event_before, is_fired, start_of}
use Rattle.domain_map.specs.declared.crossing.Crossing.{Crossing}
use Rattle.domain_map.specs.Domains.{Partition, IsPartition, domain_of_event, domain_of_number}
use Rattle.weave_core.specs.declared.incoming.Stub.{Stub}
use Rattle.weave_core.specs.DomainMachine.{DomainState, cycle_of, is_exact, is_own_parent_fired, is_ready_in, known_finish, next_in, told_finish, word_at}
use Rattle.weave_core.specs.Layout.{AreHere, AreStubs, Stands, known_words, missing_at, pending, start_after_own, start_at, told_into, unknown_into}
use Rattle.weave_core.specs.Waits.{IsFirstReady, NoneReady, Waits, key_of}
use Rattle.weave_core.proofs.Crossings.{Joins, crossing_at, crossing_of, joins}
use Rattle.weave_core.proofs.LeastBy.{IsLeast, next_there, some_next}
use Rattle.weave_core.proofs.Lists.{In, all_from, all_in, and_true, at_in, both, either, find_in, find_some, from_enum, in_at, in_enum, not_true, some_at}
use Rattle.weave_core.proofs.Words.{all_known, eq_is, is_eq, known_is_stub, none_unknown, one_place, told_least, told_most, word_known}

module _ (events : List Event) (p : Partition) (domain : ℕ) (here : List Event) (stubs : List Stub) (own : DomainState) (w : Waits)
    (numbered : IsNumbered events) (partitions : IsPartition events p) (are_here : AreHere events p domain here) (are : AreStubs events p domain here stubs)
    (known : own.known ≡ known_words p.crossings stubs) (stands : Stands events p domain own here stubs w) where
  pub at_place : (i j : ℕ) (e f : Event) → slice_get here i ≡ Some e → slice_get here j ≡ Some f → e.number ≡ f.number → i ≡ j
  at_place = one_place (λ (e : Event). e.number) here are_here.rising

  same_event : (place : ℕ) (e : Event) (i : ℕ) (f : Event) → slice_get here place ≡ Some e → slice_get events i ≡ Some f → f.number ≡ e.number → f ≡ e
  same_event place e i f h k same =
      let i_is : f.number ≡ i = numbered.number i f k in
      same_Some f e (sym k ∙ (ap (slice_get events) (sym i_is ∙ same) ∙ (are_here.each place e h).0))

  joined : (number : ℕ) (x : Crossing) → slice_get p.crossings number ≡ Some x → Joins p.places events x
  joined number x h = joins p.places events number x (subst (λ (xs : List Crossing). slice_get xs number ≡ Some x) partitions.crossings h)

  word_is : (k : ℕ) (s : Stub) → slice_get stubs k ≡ Some s → word_at own.known s.number ≡ s.word
  word_is k s h = ap (λ ws. word_at ws s.number) known ∙ word_known events p domain here stubs are k s h

  -- a crossing into an event here has a stub at its place
  pub stub_into : (place : ℕ) (e : Event) (number : ℕ) (x : Crossing) → slice_get here place ≡ Some e → slice_get p.crossings number ≡ Some x → x.child ≡ e.number
      → (k : ℕ) × ((s : Stub) × ((slice_get stubs k ≡ Some s) × ((s.number ≡ number) × (s.child ≡ place))))
  stub_into place e number x h there is =
      let j : Joins p.places events x = joined number x there in
      let child_is : j.child ≡ e = same_event place e j.number j.child h j.there (ap (λ (z : Crossing). z.child) j.is ∙ is) in
      let target : x.target ≡ domain = ap (λ (z : Crossing). z.target) (sym j.is) ∙ (ap (domain_of_event p.places) child_is ∙ (are_here.each place e h).1) in
      let c = are.covers number x there target in
      let s = are.each c.0 c.1.0 c.1.1.0 in
      let same : s.crossing ≡ x = same_Some s.crossing x (sym s.there ∙ (ap (slice_get p.crossings) c.1.1.1 ∙ there)) in
      let child : s.child.number ≡ e.number = s.child_is ∙ (ap (λ (z : Crossing). z.child) same ∙ is) in
      (c.0, (c.1.0, (c.1.1.0, (c.1.1.1, at_place c.1.0.child place s.child e s.child_there h child))))

  -- readiness

  both_zero : (a b c : ℕ) → a + b + c ≡ 0 → (a ≡ 0) × ((b ≡ 0) × (c ≡ 0))
  both_zero a b c h = (omega (arith, h), (omega (arith, h), omega (arith, h)))

  none_pending : (q : Option Parent) → pending events p domain own q ≡ 0 → is_own_parent_fired events p domain own q ≡ true
  none_pending q h = by_test (is_own_parent_fired events p domain own q) refl h
    where
      by_test : (t : Bool) → is_own_parent_fired events p domain own q ≡ t → cond {A = ℕ} t 0 1 ≡ 0 → is_own_parent_fired events p domain own q ≡ true
      by_test true e n = e
      by_test false e n = absurd (omega (arith, n))

  fired_pending : (q : Option Parent) → is_own_parent_fired events p domain own q ≡ true → pending events p domain own q ≡ 0
  fired_pending q h = ap (λ (t : Bool). cond {A = ℕ} t 0 1) h

  crossing_test : ℕ → ℕ × Crossing → Bool
  crossing_test number at = not (eqb at.1.child number) || is_exact (word_at own.known at.0)

  pub is_ready : (place : ℕ) (e : Event) → slice_get here place ≡ Some e → is_fired own.fired e.number ≡ false → missing_at events p domain own place e stubs ≡ 0
      → is_ready_in events p domain own e ≡ true
  is_ready place e h unfired none =
      let z = both_zero (pending events p domain own e.first) (pending events p domain own e.second) (unknown_into place stubs) none in
      and_true (eqb (domain_of_event p.places e) domain) _ (is_eq (domain_of_event p.places e) domain (are_here.each place e h).1)
      (and_true (not (is_fired own.fired e.number)) _ (ap not unfired)
      (and_true (is_own_parent_fired events p domain own e.first && is_own_parent_fired events p domain own e.second) _
      (and_true (is_own_parent_fired events p domain own e.first) (is_own_parent_fired events p domain own e.second) (none_pending e.first z.0) (none_pending e.second z.1.0))
      (all_from (λ (at : ℕ × Crossing). not (eqb at.1.child e.number) || is_exact (word_at own.known at.0)) (enumerate_from 0 p.crossings)
      (λ at m. by_test at (from_enum p.crossings at m) (eqb at.1.child e.number) refl z.1.1))))
    where
      by_test : (at : ℕ × Crossing) → slice_get p.crossings at.0 ≡ Some at.1 → (t : Bool) → eqb at.1.child e.number ≡ t → unknown_into place stubs ≡ 0
          → (not t || is_exact (word_at own.known at.0)) ≡ true
      by_test at there false v none = refl
      by_test at there true v none =
          let s = stub_into place e at.0 at.1 h there (eq_is at.1.child e.number v) in
          ap is_exact (ap (λ n. word_at own.known n) (sym s.1.1.1.0) ∙ word_is s.0 s.1.0 s.1.1.0) ∙ none_unknown place stubs none s.0 s.1.0 s.1.1.0 s.1.1.1.1

  -- what is ready is here, and waits for nothing
  pub record IsReadyHere (e : Event) : Type 0 where
    pub place : ℕ
    pub there : slice_get here place ≡ Some e
    pub unfired : is_fired own.fired e.number ≡ false
    pub none : missing_at events p domain own place e stubs ≡ 0

  pub ready_here : (e : Event) → In e events → is_ready_in events p domain own e ≡ true → IsReadyHere e
  ready_here e m h =
      let a = both (eqb (domain_of_event p.places e) domain) _ h in
      let b = both (not (is_fired own.fired e.number)) _ a.1 in
      let c = both (is_own_parent_fired events p domain own e.first && is_own_parent_fired events p domain own e.second) _ b.1 in
      let d = both (is_own_parent_fired events p domain own e.first) _ c.0 in
      let at : (i : ℕ) × (slice_get events i ≡ Some e) = in_at e events m in
      let place = are_here.covers at.0 e at.1 (eq_is (domain_of_event p.places e) domain a.0) in
      let none : unknown_into place.0 stubs ≡ 0 =
      all_known place.0 stubs (λ k s there is.
      let i = are.each k s there in
      let same : i.child ≡ e = same_Some i.child e (sym i.child_there ∙ (ap (slice_get here) is ∙ place.1)) in
      let t : (not (eqb i.crossing.child e.number) || is_exact (word_at own.known s.number)) ≡ true =
      all_in (λ (at : ℕ × Crossing). not (eqb at.1.child e.number) || is_exact (word_at own.known at.0)) (enumerate_from 0 p.crossings) (s.number, i.crossing) c.1 (in_enum p.crossings s.number i.crossing i.there)
      in
      elim (either (not (eqb i.crossing.child e.number)) (is_exact (word_at own.known s.number)) t) [
        | inl n ↦ absurd (false≢true (sym (not_true (eqb i.crossing.child e.number) n) ∙ is_eq i.crossing.child e.number (sym i.child_is ∙ ap (λ (z : Event). z.number) same)))
        | inr exact ↦ ap is_exact (sym (word_is k s there)) ∙ exact
      ])
      in
      record {
        place = place.0;
        there = place.1;
        unfired = not_true (is_fired own.fired e.number) b.0;
        none = omega (arith, fired_pending e.first d.0, fired_pending e.second d.1, none);
      }

  -- starts

  -- what a stub tells is what is told of its parent
  told_is : (k : ℕ) (s : Stub) (x : Crossing) → slice_get stubs k ≡ Some s → slice_get p.crossings s.number ≡ Some x → is_exact s.word ≡ true
      → told_finish events p own x.parent ≡ cycle_of s.word
  told_is k s x h there exact =
      let test : ((eqb x.parent x.parent) && is_exact (word_at own.known s.number)) ≡ true =
      and_true (eqb x.parent x.parent) (is_exact (word_at own.known s.number)) (is_eq x.parent x.parent refl) (ap is_exact (word_is k s h) ∙ exact)
      in
      let f : (at : ℕ × Crossing) × (find (λ (at : ℕ × Crossing). (eqb at.1.parent x.parent) && is_exact (word_at own.known at.0)) (enumerate_from 0 p.crossings) ≡ Some at) =
      some_at (find (λ (at : ℕ × Crossing). (eqb at.1.parent x.parent) && is_exact (word_at own.known at.0)) (enumerate_from 0 p.crossings))
      (find_in (λ (at : ℕ × Crossing). (eqb at.1.parent x.parent) && is_exact (word_at own.known at.0)) (enumerate_from 0 p.crossings) (s.number, x) (in_enum p.crossings s.number x there) test)
      in
      let is = find_some (λ (at : ℕ × Crossing). (eqb at.1.parent x.parent) && is_exact (word_at own.known at.0)) (enumerate_from 0 p.crossings) f.0 f.1 in
      let b = both (eqb f.0.1.parent x.parent) (is_exact (word_at own.known f.0.0)) is.1 in
      let y_there : slice_get p.crossings f.0.0 ≡ Some f.0.1 = from_enum p.crossings f.0 is.0 in
      let t = known_is_stub events p domain here stubs are f.0.0 (subst (λ ws. is_exact (word_at ws f.0.0) ≡ true) known b.1) in
      let t_word : word_at own.known f.0.0 ≡ t.1.0.word = ap (λ n. word_at own.known n) (sym t.1.1.1) ∙ word_is t.0 t.1.0 t.1.1.0 in
      let t_there : slice_get p.crossings t.1.0.number ≡ Some f.0.1 = ap (slice_get p.crossings) t.1.1.1 ∙ y_there in
      let agree : cycle_of t.1.0.word ≡ cycle_of s.word =
      stands.agree t.0 k t.1.0 s f.0.1 x t.1.1.0 h t_there there (ap is_exact (sym t_word) ∙ b.1) exact (eq_is f.0.1.parent x.parent b.0)
      in
      ap (λ (o : Option (ℕ × Crossing)). option_map_or (λ (at : ℕ × Crossing). cycle_of (word_at own.known at.0)) o 0) f.1 ∙ (ap cycle_of t_word ∙ agree)

  apart_finish : (number : ℕ) → eqb (domain_of_number p.places events number) domain ≡ false → known_finish events p domain own number ≡ told_finish events p own number
  apart_finish number h = ap (λ (t : Bool). cond t (finish_in own.fired number) (told_finish events p own number)) h

  here_finish : (number : ℕ) → eqb (domain_of_number p.places events number) domain ≡ true → known_finish events p domain own number ≡ finish_in own.fired number
  here_finish number h = ap (λ (t : Bool). cond t (finish_in own.fired number) (told_finish events p own number)) h

  -- what a parent here leaves is no more than what the parent leaves
  own_upto : (q : Option Parent) → start_after_own events p domain own q ≤ after_parent (known_finish events p domain own) q
  own_upto None = omega arith
  own_upto (Some q) = by_test (is_fired own.fired q.number) (eqb (domain_of_number p.places events q.number) domain) refl
    where
      by_test : (t u : Bool) → eqb (domain_of_number p.places events q.number) domain ≡ u
          → cond (t && u) (finish_in own.fired q.number + q.delay) 0 ≤ known_finish events p domain own q.number + q.delay
      by_test true true e = omega (arith, here_finish q.number e)
      by_test true false e = omega arith
      by_test false u e = omega arith

  -- each parent of a ready event is told of
  slot_upto : (place : ℕ) (e : Event) (q : Option Parent) → slice_get here place ≡ Some e → unknown_into place stubs ≡ 0 → is_own_parent_fired events p domain own q ≡ true
      → ((r : Parent) → q ≡ Some r → (e.first ≡ Some r) ⊎ (e.second ≡ Some r))
      → after_parent (known_finish events p domain own) q ≤ max (start_after_own events p domain own q) (told_into place stubs)
  slot_upto place e None h none fired slot = omega arith
  slot_upto place e (Some q) h none fired slot = by_test (eqb (domain_of_number p.places events q.number) domain) refl
    where
      own_case : eqb (domain_of_number p.places events q.number) domain ≡ true → (f : Bool) → is_fired own.fired q.number ≡ f
          → known_finish events p domain own q.number + q.delay ≤ max (start_after_own events p domain own (Some q)) (told_into place stubs)
      own_case v true u =
          let t : (is_fired own.fired q.number && eqb (domain_of_number p.places events q.number) domain) ≡ true = and_true (is_fired own.fired q.number) (eqb (domain_of_number p.places events q.number) domain) u v in
          let o : start_after_own events p domain own (Some q) ≡ finish_in own.fired q.number + q.delay = ap (λ (b : Bool). cond b (finish_in own.fired q.number + q.delay) 0) t in
          omega (arith, o, here_finish q.number v)
      own_case v false u =
          elim (either (is_fired own.fired q.number) (not (eqb (domain_of_number p.places events q.number) domain)) fired) [
            | inl f ↦ absurd (false≢true (sym u ∙ f))
            | inr n ↦ absurd (false≢true (sym (not_true (eqb (domain_of_number p.places events q.number) domain) n) ∙ v))
          ]

      by_test : (t : Bool) → eqb (domain_of_number p.places events q.number) domain ≡ t
          → known_finish events p domain own q.number + q.delay ≤ max (start_after_own events p domain own (Some q)) (told_into place stubs)
      by_test true v = own_case v (is_fired own.fired q.number) refl
      by_test false v =
          let at = are_here.each place e h in
          let apart : eqb (domain_of_number p.places events q.number) (domain_of_event p.places e) ≡ false =
          subst (λ (n : ℕ). eqb (domain_of_number p.places events q.number) n ≡ false) (sym at.1) v
          in
          let x = crossing_at p.places events e.number e q at.0 (slot q refl) apart in
          let x_there : slice_get p.crossings x.0 ≡ Some (crossing_of p.places events e q) = subst (λ (xs : List Crossing). slice_get xs x.0 ≡ Some (crossing_of p.places events e q)) (sym partitions.crossings) x.1 in
          let s = stub_into place e x.0 (crossing_of p.places events e q) h x_there refl in
          let i = are.each s.0 s.1.0 s.1.1.0 in
          let x_is : i.crossing ≡ crossing_of p.places events e q = same_Some i.crossing (crossing_of p.places events e q) (sym i.there ∙ (ap (slice_get p.crossings) s.1.1.1.0 ∙ x_there)) in
          let exact : is_exact s.1.0.word ≡ true = none_unknown place stubs none s.0 s.1.0 s.1.1.0 s.1.1.1.1 in
          let told : told_finish events p own q.number ≡ cycle_of s.1.0.word =
          ap (λ (z : Crossing). told_finish events p own z.parent) (sym x_is) ∙ told_is s.0 s.1.0 i.crossing s.1.1.0 i.there exact
          in
          let delay : s.1.0.delay ≡ q.delay = i.delay ∙ ap (λ (z : Crossing). z.delay) x_is in
          omega (arith, told_least place stubs s.0 s.1.0 s.1.1.0 s.1.1.1.1 exact, told, delay, apart_finish q.number v)

  -- each stub tells of a parent
  told_upto : (place : ℕ) (e : Event) → slice_get here place ≡ Some e
      → told_into place stubs ≤ max (after_parent (known_finish events p domain own) e.first) (after_parent (known_finish events p domain own) e.second)
  told_upto place e h =
      told_most place stubs (max (after_parent (known_finish events p domain own) e.first) (after_parent (known_finish events p domain own) e.second))
      (λ k s there is exact.
      let i = are.each k s there in
      let same : i.child ≡ e = same_Some i.child e (sym i.child_there ∙ (ap (slice_get here) is ∙ h)) in
      let j : Joins p.places events i.crossing = joined s.number i.crossing i.there in
      let child : j.child ≡ e = same_event place e j.number j.child h j.there (ap (λ (z : Crossing). z.child) j.is ∙ (sym i.child_is ∙ ap (λ (z : Event). z.number) same)) in
      let apart : eqb (domain_of_number p.places events j.parent.number) domain ≡ false =
      subst (λ (n : ℕ). eqb (domain_of_number p.places events j.parent.number) n ≡ false) (ap (domain_of_event p.places) child ∙ (are_here.each place e h).1) j.apart
      in
      let told : told_finish events p own j.parent.number ≡ cycle_of s.word =
      ap (λ (z : Crossing). told_finish events p own z.parent) j.is ∙ told_is k s i.crossing there i.there exact
      in
      let delay : s.delay ≡ j.parent.delay = i.delay ∙ sym (ap (λ (z : Crossing). z.delay) j.is) in
      let finish : known_finish events p domain own j.parent.number + j.parent.delay ≡ cycle_of s.word + s.delay = omega (arith, apart_finish j.parent.number apart, told, delay) in
      elim (subst (λ (z : Event). (z.first ≡ Some j.parent) ⊎ (z.second ≡ Some j.parent)) child j.slot) [
        | inl f ↦
            let a : after_parent (known_finish events p domain own) e.first ≡ known_finish events p domain own j.parent.number + j.parent.delay = ap (after_parent (known_finish events p domain own)) f in
            omega (arith, a, finish)
        | inr f ↦
            let a : after_parent (known_finish events p domain own) e.second ≡ known_finish events p domain own j.parent.number + j.parent.delay = ap (after_parent (known_finish events p domain own)) f in
            omega (arith, a, finish)
      ])

  pub start_is : (place : ℕ) (e : Event) → slice_get here place ≡ Some e → missing_at events p domain own place e stubs ≡ 0
      → start_at events p domain own place e stubs ≡ start_of (known_finish events p domain own) e
  start_is place e h none =
      let z = both_zero (pending events p domain own e.first) (pending events p domain own e.second) (unknown_into place stubs) none in
      meets e.min_start (start_after_own events p domain own e.first) (start_after_own events p domain own e.second) (told_into place stubs)
      (after_parent (known_finish events p domain own) e.first) (after_parent (known_finish events p domain own) e.second)
      (own_upto e.first) (own_upto e.second) (told_upto place e h)
      (slot_upto place e e.first h z.1.1 (none_pending e.first z.0) (λ r s. inl s))
      (slot_upto place e e.second h z.1.1 (none_pending e.second z.1.0) (λ r s. inr s))
    where
      meets : (m a b t x y : ℕ) → a ≤ x → b ≤ y → t ≤ max x y → x ≤ max a t → y ≤ max b t → max m (max (max a b) t) ≡ max m (max x y)
      meets m a b t x y p q r s u = omega arith

  -- the first

  wait_zero : (place : ℕ) (e : Event) → slice_get here place ≡ Some e → slice_get w.waits place ≡ Some 0 → (is_fired own.fired e.number ≡ false) × (missing_at events p domain own place e stubs ≡ 0)
  wait_zero place e h none = by_test (is_fired own.fired e.number) refl (same_Some _ 0 (sym (stands.waits place e h) ∙ none))
    where
      by_test : (t : Bool) → is_fired own.fired e.number ≡ t → cond t 4294967295 (missing_at events p domain own place e stubs) ≡ 0
          → (is_fired own.fired e.number ≡ false) × (missing_at events p domain own place e stubs ≡ 0)
      by_test true v z = absurd (omega (arith, z))
      by_test false v z = (v, z)

  zero_wait : (e : Event) → (r : IsReadyHere e) → slice_get w.waits r.place ≡ Some 0
  zero_wait e r = stands.waits r.place e r.there ∙ ap (λ (t : Bool). Some (cond t 4294967295 (missing_at events p domain own r.place e stubs))) r.unfired ∙ ap (λ n. Some n) r.none

  pub none_next : NoneReady w → next_in events p domain own ≡ None
  none_next none = by_option (next_in events p domain own) refl
    where
      by_option : (o : Option (Event × ℕ)) → next_in events p domain own ≡ o → next_in events p domain own ≡ None
      by_option None v = v
      by_option (Some b) v =
          let l = some_next (is_ready_in events p domain own) (λ e. start_of (known_finish events p domain own) e) events b v in
          let r = ready_here b.0 l.there l.passes in
          absurd (none r.place (zero_wait b.0 r))

  pub first_next : (k : Key) (e : Event) → slice_get here k.number ≡ Some e → IsFirstReady w k → next_in events p domain own ≡ Some (e, k.start)
  first_next k e h first =
      let z = wait_zero k.number e h first.ready in
      let there = are_here.each k.number e h in
      let passes : is_ready_in events p domain own e ≡ true = is_ready k.number e h z.0 z.1 in
      let start : k.start ≡ start_of (known_finish events p domain own) e =
      same_Some k.start (start_at events p domain own k.number e stubs) (sym first.start ∙ stands.starts k.number e h) ∙ start_is k.number e h z.1
      in
      let b : (b : Event × ℕ) × (next_in events p domain own ≡ Some b) = next_there (is_ready_in events p domain own) (λ e. start_of (known_finish events p domain own) e) events e (at_in e events e.number there.0) passes in
      let l : IsLeast (is_ready_in events p domain own) (λ e. start_of (known_finish events p domain own) e) events b.0 =
      some_next (is_ready_in events p domain own) (λ e. start_of (known_finish events p domain own) e) events b.0 b.1
      in
      let r = ready_here b.0.0 l.there l.passes in
      let b_start : slice_get w.starts r.place ≡ Some b.0.1 = stands.starts r.place b.0.0 r.there ∙ ap (λ n. Some n) (start_is r.place b.0.0 r.there r.none ∙ sym l.start_is) in
      let not_before : is_key_before (key_of b.0.1 r.place) k ≡ false = first.least r.place b.0.1 (zero_wait b.0.0 r) b_start in
      let not_after : is_event_before e k.start b.0.0 b.0.1 ≡ false =
      subst (λ (s : ℕ). is_event_before e s b.0.0 b.0.1 ≡ false) (sym start) (l.least e (at_in e events e.number there.0) passes)
      in
      let same : r.place ≡ k.number = tie r.place k.number b.0.1 k.start b.0.0.number e.number not_before not_after
      (λ less. are_here.rising k.number r.place e b.0.0 less h r.there)
      (λ less. are_here.rising r.place k.number b.0.0 e less r.there h)
      in
      let is : b.0.0 ≡ e = same_Some b.0.0 e (sym r.there ∙ (ap (slice_get here) same ∙ h)) in
      b.1 ∙ (ap (λ (z : Event × ℕ). Some z) (ap (λ (z : Event). (z, b.0.1)) is) ∙ ap (λ (s : ℕ). Some (e, s)) (l.start_is ∙ (ap (start_of (known_finish events p domain own)) is ∙ sym start)))
    where
      tie : (i j s t m n : ℕ) → is_key_before (key_of s i) (key_of t j) ≡ false → (ltb t s || (eqb t s && ltb n m)) ≡ false → (j < i → n < m) → (i < j → m < n) → i ≡ j
      tie i j s t m n a b c d =
          let upto : j ≤ i = grind (arith, nat_tests) in
          let upto_too : m ≤ n = grind (arith, nat_tests) in
          elim (cases_lt j i) [ inl l ↦ absurd (omega (arith, c l, upto_too)) | inr g ↦ omega (arith, g, upto) ]
