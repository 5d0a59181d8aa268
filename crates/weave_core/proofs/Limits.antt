-- The limit of a domain is the lesser of its first ready start and of its first arrival.
use Rattle.std.proofs.Common.{◌≡◌, ◌+◌, ◌<◌, ◌≤◌, ◌^◌, ◌-◌, ℕ, Bool, true, false, not, cond, eqb, leb, length, min, ◌⊎◌, List, [], ◌∷◌, ◌++◌, map, Option, Some, None, slice_get, sym, ◌∙◌, ap, subst, refl, inl, inr, arith}
use Rattle.std.specs.Prelude.{IfSome, IfNone}
use Rattle.std.proofs.lemmas.Bool.{cases_lt, false≢true}
use Rattle.std.proofs.lemmas.Bool.Decides.{nat_tests}
use Rattle.std.proofs.lemmas.Option.{same_Some, none-some}
use Rattle.std.specs.List.{enumerate_from, filter}
use Rattle.std.specs.Option.{option_map, option_map_or, option_to_list}
use Rattle.zs_num.specs.KeyOrder.{is_key_before}
use Rattle.zs_num.specs.declared.time.Key.{Key}
use Rattle.event_graph.specs.declared.event.Event.{Event}
use Rattle.event_graph.specs.declared.event.Parent.{Parent}
use Rattle.event_graph.specs.Numbered.{IsNumbered}
use Rattle.event_graph.specs.OneListWeave.{is_fired}
use Rattle.domain_map.specs.declared.crossing.Crossing.{Crossing}
use Rattle.domain_map.specs.Domains.{Partition, IsPartition, domain_of_event}
use Rattle.weave_core.specs.declared.incoming.Stub.{Stub}
use Rattle.weave_core.specs.Answer.{lesser_start}
use Rattle.weave_core.specs.DomainCalls.{AllFired, IsBoundAnswer}
use Rattle.weave_core.specs.DomainMachine.{DomainState, allows_bound, arrival_of, is_exact, is_own_parent_fired, is_unresolved, latency_at, least, limit_of, next_in}
use Rattle.weave_core.specs.Layout.{AreHere, AreStubs, Stands, known_words, missing_at, pending}
use Rattle.weave_core.specs.Stubs.{IsFirstStub, NoneOpen, arrival_at}
use Rattle.weave_core.specs.Waits.{IsFirstReady, NoneReady, Waits, key_of}
use Rattle.weave_core.proofs.Answering.{arrival_here, done, next_first, next_none, stub_unresolved, there_first, unresolved_stub}
use Rattle.weave_core.proofs.Lists.{In, from_enum, from_filter, in_cases, in_enum, in_filter, in_left, in_map, in_right, least_above, least_le}
use Rattle.weave_core.proofs.Looked.{unknown_few}
use Rattle.weave_core.proofs.Words.{eq_is, is_eq}

from_map : {X Y : Type 0} (f : X → Y) (y : Y) (xs : List X) → In y (map f xs) → (x : X) × (In x xs × (f x ≡ y))
from_map f y [] h = absurd h
from_map f y (x ∷ xs) h = elim h [
  | inl e ↦ (x, (inl refl, e))
  | inr m ↦ let r : (x : _) × (In x xs × (f x ≡ y)) = from_map f y xs m in (r.0, (inr r.1.0, r.1.1))
]

-- one that is among them and below all is the least
least_is : (xs : List ℕ) (m : ℕ) → In m xs → ((v : ℕ) → In v xs → m ≤ v) → least xs ≡ Some m
least_is xs m there below =
    let l = least_le xs m there in
    let up : m ≤ l.0 = least_above xs l.0 m l.1.0 below in
    let same : l.0 ≡ m = omega (arith, up, l.1.1) in
    l.1.0 ∙ ap (λ n. Some n) same

least_none : (xs : List ℕ) → ((v : ℕ) → In v xs → ⊥) → least xs ≡ None
least_none [] h = refl
least_none (x ∷ xs) h = absurd (h x (inl refl))

lesser : (a c : ℕ) → (min a c ≡ a) ⊎ (min a c ≡ c)
lesser a c = elim (cases_lt a c) [ inl l ↦ inl (omega (arith, l)) | inr m ↦ inr (omega (arith, m)) ]

upto_start : (s m k i : ℕ) → is_key_before (key_of s k) (key_of m i) ≡ false → m ≤ s
upto_start s m k i h = grind (arith, nat_tests)

module _ (events : List Event) (p : Partition) (domain : ℕ) (here : List Event) (stubs : List Stub) (own : DomainState) (w : Waits)
    (numbered : IsNumbered events) (partitions : IsPartition events p) (are_here : AreHere events p domain here) (are : AreStubs events p domain here stubs)
    (known : own.known ≡ known_words p.crossings stubs) (stands : Stands events p domain own here stubs w) where
  abbrev ready_start : List ℕ
  ready_start = option_to_list (option_map (λ (next : Event × ℕ). next.1) (next_in events p domain own))

  abbrev arrivals : List ℕ
  arrivals = map (λ (at : ℕ × Crossing). arrival_of events p own at.0 at.1) (filter (λ (at : ℕ × Crossing). is_unresolved events p domain own at.0 at.1) (enumerate_from 0 p.crossings))

  ready_some : (k : Key) → IsFirstReady w k → ready_start ≡ k.start ∷ []
  ready_some k f =
      let e = there_first events p domain here stubs own w numbered partitions are_here are known stands k f in
      ap (λ (z : Option (Event × ℕ)). option_to_list (option_map (λ (next : Event × ℕ). next.1) z)) (next_first events p domain here stubs own w numbered partitions are_here are known stands k e.0 e.1 f)

  ready_none : NoneReady w → ready_start ≡ []
  ready_none none =
      ap (λ (z : Option (Event × ℕ)). option_to_list (option_map (λ (next : Event × ℕ). next.1) z)) (next_none events p domain here stubs own w numbered partitions are_here are known stands none)

  -- an arrival is that of an open stub
  from_arrivals : (v : ℕ) → In v arrivals → (k : ℕ) × ((s : Stub) × ((slice_get stubs k ≡ Some s) × ((is_exact s.word ≡ false) × (arrival_at own.floor s ≡ v))))
  from_arrivals v m =
      let a = from_map (λ (at : ℕ × Crossing). arrival_of events p own at.0 at.1) v (filter (λ (at : ℕ × Crossing). is_unresolved events p domain own at.0 at.1) (enumerate_from 0 p.crossings)) m in
      let f = from_filter (λ (at : ℕ × Crossing). is_unresolved events p domain own at.0 at.1) a.0 (enumerate_from 0 p.crossings) a.1.0 in
      let there : slice_get p.crossings a.0.0 ≡ Some a.0.1 = from_enum p.crossings a.0 f.0 in
      let s = unresolved_stub events p domain here stubs own w numbered partitions are_here are known stands a.0.0 a.0.1 there f.1 in
      let same : arrival_of events p own a.0.0 a.0.1 ≡ arrival_at own.floor s.1.0 =
      ap (λ n. arrival_of events p own n a.0.1) (sym s.1.1.1.0)
      ∙ arrival_here events p domain here stubs own w numbered partitions are_here are known stands s.0 s.1.0 a.0.1 s.1.1.0 (ap (slice_get p.crossings) s.1.1.1.0 ∙ there)
      in
      (s.0, (s.1.0, (s.1.1.0, (s.1.1.1.1, sym same ∙ a.1.1))))

  in_arrivals : (k : ℕ) (s : Stub) → slice_get stubs k ≡ Some s → is_exact s.word ≡ false → In (arrival_at own.floor s) arrivals
  in_arrivals k s h unknown =
      let i = are.each k s h in
      let u : is_unresolved events p domain own s.number i.crossing ≡ true = stub_unresolved events p domain here stubs own w numbered partitions are_here are known stands k s i.crossing h i.there unknown in
      let same : arrival_of events p own s.number i.crossing ≡ arrival_at own.floor s = arrival_here events p domain here stubs own w numbered partitions are_here are known stands k s i.crossing h i.there in
      subst (λ n. In n arrivals) same
      (in_map (λ (at : ℕ × Crossing). arrival_of events p own at.0 at.1) (s.number, i.crossing) (filter (λ (at : ℕ × Crossing). is_unresolved events p domain own at.0 at.1) (enumerate_from 0 p.crossings))
      (in_filter (λ (at : ℕ × Crossing). is_unresolved events p domain own at.0 at.1) (s.number, i.crossing) (enumerate_from 0 p.crossings) (in_enum p.crossings s.number i.crossing i.there) u))

  module _ (b : Key) (f : IsFirstStub (record { stubs = stubs; floor = own.floor }) b) where
    first_in : In b.start arrivals
    first_in = subst (λ n. In n arrivals) (sym f.start) (in_arrivals b.number f.stub f.there f.unknown)

    first_least : (v : ℕ) → In v arrivals → b.start ≤ v
    first_least v m =
        let s = from_arrivals v m in
        omega (arith, upto_start (arrival_at own.floor s.1.0) b.start s.0 b.number (f.least s.0 s.1.0 s.1.1.0 s.1.1.1.0), s.1.1.1.1)

  pub limit_is : (ready first : Option Key) → IfSome ready (IsFirstReady w) → IfNone ready (NoneReady w)
      → IfSome first (IsFirstStub (record { stubs = stubs; floor = own.floor })) → IfNone first (NoneOpen (record { stubs = stubs; floor = own.floor }))
      → limit_of events p domain own ≡ lesser_start ready first
  limit_is None None r rn f fn =
      ap (λ (xs : List ℕ). least (xs ++ arrivals)) (ready_none rn)
      ∙ least_none arrivals (λ v m. let s = from_arrivals v m in absurd (false≢true (sym s.1.1.1.0 ∙ fn s.0 s.1.0 s.1.1.0)))
  limit_is (Some k) None r rn f fn =
      ap (λ (xs : List ℕ). least (xs ++ arrivals)) (ready_some k r)
      ∙ least_is (k.start ∷ arrivals) k.start (inl refl)
      (λ v m. elim m [
        | inl e ↦ omega (arith, e)
        | inr n ↦ let s = from_arrivals v n in absurd (false≢true (sym s.1.1.1.0 ∙ fn s.0 s.1.0 s.1.1.0))
      ])
  limit_is None (Some b) r rn f fn =
      ap (λ (xs : List ℕ). least (xs ++ arrivals)) (ready_none rn)
      ∙ least_is arrivals b.start (first_in b f) (first_least b f)
  limit_is (Some k) (Some b) r rn f fn =
      ap (λ (xs : List ℕ). least (xs ++ arrivals)) (ready_some k r)
      ∙ least_is (k.start ∷ arrivals) (min k.start b.start) lesser_in
      (λ v m. elim m [
        | inl e ↦ omega (arith, e)
        | inr n ↦ omega (arith, first_least b f v n)
      ])
    where
      lesser_in : In (min k.start b.start) (k.start ∷ arrivals)
      lesser_in =
          elim (lesser k.start b.start) [
            | inl e ↦ inl (sym e)
            | inr e ↦ inr (subst (λ n. In n arrivals) (sym e) (first_in b f))
          ]

  pending_few : (q : Option Parent) → pending events p domain own q ≤ 1
  pending_few q = by_test (is_own_parent_fired events p domain own q)
    where
      by_test : (t : Bool) → cond {A = ℕ} t 0 1 ≤ 1
      by_test true = omega arith
      by_test false = omega arith

  -- what a wait says of an event
  module _ (few : length stubs < 2 ^ 31) (place : ℕ) (e : Event) (h : slice_get here place ≡ Some e) (wait : ℕ) (is : slice_get w.waits place ≡ Some wait) where
    wait_is : (t : Bool) → is_fired own.fired e.number ≡ t → wait ≡ cond t 4294967295 (missing_at events p domain own place e stubs)
    wait_is t v =
        same_Some wait (cond t 4294967295 (missing_at events p domain own place e stubs))
        (sym is ∙ (stands.waits place e h ∙ ap (λ (u : Bool). Some (cond u 4294967295 (missing_at events p domain own place e stubs))) v))

    pub has_fired : eqb wait 4294967295 ≡ true → is_fired own.fired e.number ≡ true
    has_fired t = by_test (is_fired own.fired e.number) refl
      where
        by_test : (u : Bool) → is_fired own.fired e.number ≡ u → u ≡ true
        by_test true v = refl
        by_test false v =
            let missing : wait ≡ missing_at events p domain own place e stubs = wait_is false v in
            absurd (omega (arith, eq_is wait 4294967295 t, missing, pending_few e.first, pending_few e.second, unknown_few place stubs, few))

    pub has_not_fired : eqb wait 4294967295 ≡ false → is_fired own.fired e.number ≡ false
    has_not_fired f = by_test (is_fired own.fired e.number) refl
      where
        by_test : (u : Bool) → is_fired own.fired e.number ≡ u → u ≡ false
        by_test false v = refl
        by_test true v = absurd (false≢true (sym f ∙ is_eq wait 4294967295 (wait_is true v)))

  -- the answers
  pub all_fired : (ready first : Option Key) → IfNone ready (NoneReady w) → IfNone first (NoneOpen (record { stubs = stubs; floor = own.floor })) → lesser_start ready first ≡ None → AllFired events p domain own
  all_fired None None rn fn none = done events p domain here stubs own w numbered partitions are_here are known stands rn fn
  all_fired (Some k) None rn fn none = absurd (none-some k.start (sym none))
  all_fired None (Some b) rn fn none = absurd (none-some b.start (sym none))
  all_fired (Some k) (Some b) rn fn none = absurd (none-some (min k.start b.start) (sym none))

  pub is_greatest : (x : Crossing) (limit bound : ℕ) → is_fired own.fired x.parent ≡ false → limit_of events p domain own ≡ Some limit
      → bound ≡ min (limit + latency_at events x.parent) (2 ^ 64 - 1) → IsBoundAnswer events p domain own x (Some bound)
  is_greatest x limit bound unfired is e = record {
    unfired = unfired;
    allowed = ap (λ (o : Option ℕ). option_map_or (λ n. leb bound (latency_at events x.parent + n)) o false) is ∙ le_test bound (latency_at events x.parent + limit) (omega (arith, e));
    greatest = λ other small allowed.
        let l : leb other (latency_at events x.parent + limit) ≡ true =
        ap (λ (o : Option ℕ). option_map_or (λ n. leb other (latency_at events x.parent + n)) o false) (sym is) ∙ allowed
        in
        omega (arith, test_le other (latency_at events x.parent + limit) l, e, small);
  }
    where
      le_test : (a b : ℕ) → a ≤ b → leb a b ≡ true
      le_test a b h = grind (arith, nat_tests)

      test_le : (a b : ℕ) → leb a b ≡ true → a ≤ b
      test_le a b h = grind (arith, nat_tests)
