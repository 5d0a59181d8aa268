-- The first of the stubs is that of a first key of the two queues.
use Rattle.std.proofs.Common.{◌≡◌, ◌+◌, ◌<◌, ◌≤◌, ◌^◌, ℕ, max, Bool, true, false, List, [], ◌∷◌, Some, None, slice_get, sym, ◌∙◌, ap, subst, refl, inl, inr, arith}
use Rattle.std.specs.Prelude.{nat_lt}
use Rattle.std.proofs.lemmas.Bool.Decides.{nat_tests}
use Rattle.std.proofs.lemmas.Option.{same_Some}
use Rattle.zs_num.specs.KeyOrder.{is_key_before}
use Rattle.zs_num.specs.declared.time.Key.{Key}
use Rattle.domain_queue.specs.SortedKeys.{IsAscending, ReadyKeys}
use Rattle.weave_core.specs.declared.incoming.Stub.{Stub}
use Rattle.weave_core.specs.DomainMachine.{cycle_of, is_exact}
use Rattle.weave_core.specs.Stubs.{IsFirstStub, IsQueued, NoneOpen, arrival_at, is_ahead, reach_of}
use Rattle.weave_core.specs.Waits.{key_of}
use Rattle.weave_core.proofs.Keys.{first_in, first_least, has_in, in_has}
use Rattle.weave_core.proofs.Lists.{In, get_there}
use Rattle.weave_core.proofs.Readied.{no_key}

-- keys that come later, and the transitivity of their order

later_not_before : (start later place : ℕ) (f : Key) → start ≤ later → is_key_before (key_of start place) f ≡ false → is_key_before (key_of later place) f ≡ false
later_not_before start later place f l h = grind (arith, nat_tests)

not_before_both : (k l m : Key) → is_key_before k l ≡ false → is_key_before l m ≡ false → is_key_before k m ≡ false
not_before_both k l m h i = grind (arith, nat_tests)

not_before_after : (floor : ℕ) (start place : ℕ) (f : Key) → is_key_before (key_of start place) f ≡ false
    → is_key_before (key_of (floor + start) place) (key_of (floor + f.start) f.number) ≡ false
not_before_after floor start place f h = grind (arith, nat_tests)

-- the arrival of a stub by its reach

arrival_from : (floor c l d : ℕ) → nat_lt (floor + l) c ≡ false → max c (floor + l) + d ≡ floor + (l + d)
arrival_from floor c l d h = grind (arith, nat_tests)

pub by_reach : (floor : ℕ) (s : Stub) → is_ahead floor s ≡ false → arrival_at floor s ≡ floor + reach_of s
by_reach floor s h = arrival_from floor (cycle_of s.word) s.latency s.delay h

reach_upto : (floor : ℕ) (s : Stub) → floor + reach_of s ≤ arrival_at floor s
reach_upto floor s = omega arith

module _ (stubs : List Stub) (floor : ℕ) (by_floor by_word : ReadyKeys) (queued : IsQueued stubs floor by_floor by_word) where
  pub none_open : slice_get by_floor.keys 0 ≡ None → slice_get by_word.keys 0 ≡ None → NoneOpen (record { stubs = stubs; floor = floor })
  none_open a b place s there = by_test (is_exact s.word) refl
    where
      by_test : (t : Bool) → is_exact s.word ≡ t → is_exact s.word ≡ true
      by_test true v = v
      by_test false v =
          elim (queued.keyed.covers place s there v) [
            | inl h ↦ absurd (no_key (key_of (reach_of s) place) by_floor.keys a (has_in by_floor.keys (key_of (reach_of s) place) h))
            | inr k ↦ absurd (no_key (key_of k.0 place) by_word.keys b (has_in by_word.keys (key_of k.0 place) k.1.1))
          ]

  -- no open stub comes before a key that comes before the first keys
  least_of : (k : Key) → ((f : Key) → slice_get by_floor.keys 0 ≡ Some f → is_key_before (key_of (floor + f.start) f.number) k ≡ false)
      → ((f : Key) → slice_get by_word.keys 0 ≡ Some f → is_key_before f k ≡ false) → IsAscending by_floor.keys → IsAscending by_word.keys
      → (place : ℕ) (s : Stub) → slice_get stubs place ≡ Some s → is_exact s.word ≡ false → is_key_before (key_of (arrival_at floor s) place) k ≡ false
  least_of k before_floor before_word a b place s there unknown =
      elim (queued.keyed.covers place s there unknown) [
        | inl h ↦
            let f : (f : Key) × (slice_get by_floor.keys 0 ≡ Some f) = some_first by_floor.keys (key_of (reach_of s) place) (has_in by_floor.keys (key_of (reach_of s) place) h) in
            later_not_before (floor + reach_of s) (arrival_at floor s) place k (reach_upto floor s)
            (not_before_both (key_of (floor + reach_of s) place) (key_of (floor + f.0.start) f.0.number) k
            (not_before_after floor (reach_of s) place f.0 (first_least f.0 (key_of (reach_of s) place) by_floor.keys a f.1 (has_in by_floor.keys (key_of (reach_of s) place) h)))
            (before_floor f.0 f.1))
        | inr r ↦
            let f : (f : Key) × (slice_get by_word.keys 0 ≡ Some f) = some_first by_word.keys (key_of r.0 place) (has_in by_word.keys (key_of r.0 place) r.1.1) in
            later_not_before r.0 (arrival_at floor s) place k r.1.0
            (not_before_both (key_of r.0 place) f.0 k (first_least f.0 (key_of r.0 place) by_word.keys b f.1 (has_in by_word.keys (key_of r.0 place) r.1.1)) (before_word f.0 f.1))
      ]
    where
      some_first : (keys : List Key) (x : Key) → In x keys → (f : Key) × (slice_get keys 0 ≡ Some f)
      some_first [] x h = absurd h
      some_first (y ∷ keys) x h = (y, refl)

  -- the first key by reach tells an arrival, and so does the first by word

  pub floor_stub : (f : Key) → slice_get by_floor.keys 0 ≡ Some f
      → (s : Stub) × ((slice_get stubs f.number ≡ Some s) × ((is_exact s.word ≡ false) × (floor + f.start ≡ arrival_at floor s)))
  floor_stub f e =
      let s = queued.keyed.reaches f (in_has by_floor.keys f (first_in f by_floor.keys e)) in
      let c = queued.floor_current f s.0 e s.1.0 in
      (s.0, (s.1.0, (c.0, ap (λ n. floor + n) s.1.1 ∙ sym (by_reach floor s.0 c.1))))

  pub first_by_floor : (f : Key) → slice_get by_floor.keys 0 ≡ Some f → ((g : Key) → slice_get by_word.keys 0 ≡ Some g → is_key_before g (key_of (floor + f.start) f.number) ≡ false)
      → IsAscending by_floor.keys → IsAscending by_word.keys → IsFirstStub (record { stubs = stubs; floor = floor }) (key_of (floor + f.start) f.number)
  first_by_floor f e before a b =
      let s = floor_stub f e in
      record {
        stub = s.0;
        there = s.1.0;
        unknown = s.1.1.0;
        start = s.1.1.1;
        least = least_of (key_of (floor + f.start) f.number)
            (λ g h. subst (λ (z : Key). is_key_before (key_of (floor + z.start) z.number) (key_of (floor + f.start) f.number) ≡ false) (same_Some f g (sym e ∙ h)) (itself (key_of (floor + f.start) f.number)))
            before a b;
      }
    where
      itself : (k : Key) → is_key_before k k ≡ false
      itself k = grind (arith, nat_tests)

  pub first_by_word : (f : Key) → slice_get by_word.keys 0 ≡ Some f → ((g : Key) → slice_get by_floor.keys 0 ≡ Some g → is_key_before (key_of (floor + g.start) g.number) f ≡ false)
      → IsAscending by_floor.keys → IsAscending by_word.keys → IsFirstStub (record { stubs = stubs; floor = floor }) f
  first_by_word f e before a b =
      let s : (s : Stub) × (slice_get stubs f.number ≡ Some s) = get_there stubs f.number (queued.keyed.within f (in_has by_word.keys f (first_in f by_word.keys e))) in
      let c = queued.word_current f s.0 e s.1 in
      record {
        stub = s.0;
        there = s.1;
        unknown = c.0;
        start = c.1;
        least = least_of f before (λ g h. subst (λ (z : Key). is_key_before z f ≡ false) (same_Some f g (sym e ∙ h)) (itself f)) a b;
      }
    where
      itself : (k : Key) → is_key_before k k ≡ false
      itself k = grind (arith, nat_tests)

  -- the first reach leads to no great cycle
  pub floor_small : (f : Key) → slice_get by_floor.keys 0 ≡ Some f → floor + f.start < 2 ^ 64
  floor_small f e =
      let s = queued.keyed.reaches f (in_has by_floor.keys f (first_in f by_floor.keys e)) in
      let l = queued.small f.number s.0 s.1.0 in
      omega (arith, queued.floor_small, l.latency, l.delay, s.1.1)
