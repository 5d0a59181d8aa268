-- What the weave core by core asks of two misses.
use Rattle.std.proofs.Common.{◌≡◌, ◌+◌, ◌*◌, ◌-◌, ◌<◌, ◌≤◌, ◌^◌, ℕ, zero, suc, List, length, Some, All, refl, subst, arith}
use Rattle.std.specs.List.{slice_get}
use Rattle.zs_num.specs.declared.entry.Entry.{Entry}
use Rattle.event_graph.specs.declared.access_path.AccessPath.{AccessPath}
use Rattle.event_graph.specs.InARow.{AreInARow}
use Rattle.event_graph.specs.PlainTiming.{pieces_of}
use Rattle.weave_chains.specs.Listed.{AreOwn, one_after_other}
use Rattle.weave_chains.specs.Rounds.{AreChained}
use Rattle.event_tests.specs.TwoMisses.{miss_of, two_misses}

module _ (first second : ℕ) where
  abbrev pub accesses : List Entry
  accesses = one_after_other (two_misses first second)

  each : (P : Entry → Type 0) → P (miss_of 0 first) → P (miss_of 1 second) → (i : ℕ) (e : Entry) → slice_get accesses i ≡ Some e → P e
  each P p q zero e at = subst P (let same : miss_of 0 first ≡ e = cc in same) p
  each P p q (suc zero) e at = subst P (let same : miss_of 1 second ≡ e = cc in same) q
  each P p q (suc (suc i)) e at = absurd (cc)

  own : AreOwn (two_misses first second)
  own zero zero e at = (let same : miss_of 0 first ≡ e = cc in subst (λ z. z.core ≡ 0) same refl)
  own zero (suc i) e at = absurd (cc)
  own (suc zero) zero e at = (let same : miss_of 1 second ≡ e = cc in subst (λ z. z.core ≡ 1) same refl)
  own (suc zero) (suc i) e at = absurd (cc)
  own (suc (suc core)) i e at = absurd (cc)

  module _ (first_soon : first ≤ 2 ^ 34) (second_soon : second ≤ 2 ^ 34) where
    pub chained : (path : AccessPath) → ((e : Entry) → AreInARow (pieces_of path e)) → AreChained (pieces_of path) (two_misses first second)
    chained path row = record {
      own = own;
      some = each (λ e. 0 < length (pieces_of path e)) (omega arith) (omega arith);
      few = each (λ e. length (pieces_of path e) ≤ 64) (omega arith) (omega arith);
      early = each (λ e. e.start ≤ 2 ^ 60) (omega (arith, first_soon)) (omega (arith, second_soon));
      row = row;
    }

    pub soon : All (λ e. e.start ≤ 2 ^ 34) accesses
    soon zero d below = first_soon
    soon (suc zero) d below = second_soon
    soon (suc (suc i)) d below = absurd (omega (arith, below))
