-- The queue by reach while it is filled, at floor 0.
use Rattle.std.proofs.Common.{◌≡◌, ◌+◌, ◌<◌, ◌≤◌, ℕ, false, List, [], length, Some, slice_get, sym, ◌∙◌, ap, subst, refl, inl, inr, arith}
use Rattle.std.specs.Prelude.{nat_lt}
use Rattle.std.proofs.lemmas.Bool.{cases_eq}
use Rattle.std.proofs.lemmas.Bool.Decides.{nat_tests}
use Rattle.std.proofs.lemmas.Option.{same_Some}
use Rattle.std.specs.List.{Contains}
use Rattle.zs_num.specs.declared.time.Key.{Key}
use Rattle.zs_num.specs.declared.time.Word.TheVariants.{Bound}
use Rattle.domain_queue.specs.SortedKeys.{ReadyKeys, put}
use Rattle.weave_core.specs.declared.incoming.Stub.{Stub}
use Rattle.weave_core.specs.DomainMachine.{cycle_of, is_exact}
use Rattle.weave_core.specs.Stubs.{AreSmallStubs, IsQueued, reach_of}
use Rattle.weave_core.specs.Waits.{key_of}
use Rattle.weave_core.proofs.Keys.{first_in, has_in, in_has, length-put, put_cases, put_new, put_old}
use Rattle.weave_core.proofs.Lists.{In, get_below}

-- The queue while it is filled, at floor 0.
pub record IsFilling (stubs : List Stub) (keys : List Key) (place : ℕ) : Type 0 where
  pub few : length keys ≤ place
  pub each : (k : Key) → Contains keys k → (k.number < place) × ((s : Stub) × ((slice_get stubs k.number ≡ Some s) × (k.start ≡ reach_of s)))
  pub covers : (other : ℕ) (s : Stub) → other < place → slice_get stubs other ≡ Some s → Contains keys (key_of (reach_of s) other)

module _ (stubs : List Stub) where
  pub filling_none : IsFilling stubs [] 0
  filling_none = record { few = omega arith; each = λ k h. absurd (has_in [] k h); covers = λ other s below. absurd (omega arith) }

  module _ (keys : List Key) (place : ℕ) (so_far : IsFilling stubs keys place) where
    pub is_next : (start : ℕ) → Contains keys (key_of start place) → ⊥
    is_next start h = let below : place < place = (so_far.each (key_of start place) h).0 in omega arith

    pub filling_push : (s : Stub) → slice_get stubs place ≡ Some s → IsFilling stubs (put (key_of (reach_of s) place) keys) (place + 1)
    filling_push s there = record {
      few = omega (arith, length-put (key_of (reach_of s) place) keys, so_far.few);
      each = λ k h.
          elim (put_cases (key_of (reach_of s) place) k keys (has_in (put (key_of (reach_of s) place) keys) k h)) [
            | inl same ↦
                subst (λ (z : Key). (z.number < place + 1) × ((s : Stub) × ((slice_get stubs z.number ≡ Some s) × (z.start ≡ reach_of s)))) same
                (omega arith, (s, (there, refl)))
            | inr m ↦ let r = so_far.each k (in_has keys k m) in (omega (arith, r.0), r.1)
          ];
      covers = λ other t below at.
          elim (cases_eq other place) [
            | inl same ↦
                let is : s ≡ t = same_Some s t (sym there ∙ (ap (slice_get stubs) (sym same) ∙ at)) in
                in_has (put (key_of (reach_of s) place) keys) (key_of (reach_of t) other)
                (subst (λ (z : Key). In z (put (key_of (reach_of s) place) keys)) (ap (λ (z : Stub). key_of (reach_of z) place) is ∙ ap (λ n. key_of (reach_of t) n) (sym same))
                (put_new (key_of (reach_of s) place) keys))
            | inr apart ↦
                in_has (put (key_of (reach_of s) place) keys) (key_of (reach_of t) other)
                (put_old (key_of (reach_of s) place) (key_of (reach_of t) other) keys (has_in keys (key_of (reach_of t) other) (so_far.covers other t (omega arith) at)))
          ];
    }

    pub filling_all : (by_floor by_word : ReadyKeys) → by_floor.keys ≡ keys → by_floor.room ≡ length stubs → by_word ≡ record { keys = []; room = length stubs } → place ≡ length stubs
        → AreSmallStubs stubs → ((other : ℕ) (s : Stub) → slice_get stubs other ≡ Some s → s.word ≡ Bound 0) → IsQueued stubs 0 by_floor by_word
    filling_all by_floor by_word is room empty end small untold = record {
      small = small;
      floor_small = omega arith;
      keyed = record {
        covers = λ other s at unknown.
            inl (subst (λ (ks : List Key). Contains ks (key_of (reach_of s) other)) (sym is) (so_far.covers other s (omega (arith, end, get_below stubs other s at)) at));
        reaches = λ k h. let r = so_far.each k (subst (λ (ks : List Key). Contains ks k) is h) in r.1;
        within = λ k h. absurd (none_told k h);
        once = λ k o h i same. absurd (none_told k h);
        apart = λ k o h i same. none_told o i;
        floor_room = omega (arith, so_far.few, ap length is, room, end, ap (λ (q : ReadyKeys). length q.keys) empty);
        word_room = omega (arith, so_far.few, ap length is, end, ap (λ (q : ReadyKeys). length q.keys) empty, ap (λ (q : ReadyKeys). q.room) empty);
      };
      floor_current = λ k s at there. (ap is_exact (untold k.number s there), ap (λ w. nat_lt (0 + s.latency) (cycle_of w)) (untold k.number s there) ∙ not_below s.latency);
      word_current = λ k s at there. absurd (none_told k (in_has by_word.keys k (first_in k by_word.keys at)));
    }
      where
        none_told : (k : Key) → Contains by_word.keys k → ⊥
        none_told k h = has_in [] k (subst (λ (q : ReadyKeys). Contains q.keys k) empty h)

        not_below : (n : ℕ) → nat_lt (0 + n) 0 ≡ false
        not_below n = grind (arith, nat_tests)
