-- The L1s of parts are fit.
use Rattle.std.proofs.Common.{◌≡◌, ℕ, ◌+◌, ◌*◌, ◌/◌, ◌<◌, ◌≤◌, [], length, get_or, map, Some, ap, ◌∙◌, subst, arith, inl, inr}
use Rattle.std.specs.Prelude.{slice_get}
use Rattle.std.proofs.lemmas.Bool.{cases_lt}
use Rattle.std.proofs.lemmas.List.{get_or-map, length-map}
use Rattle.std.proofs.lemmas.List.FromFn.{length-map-range_with_len}
use Rattle.l1_cache.specs.L1State.{L1State, no_l1}
use Rattle.cache_set.specs.Lines.{set_of}
use Rattle.shard.specs.PartsLaws.{AreParts}
use Rattle.shard.specs.Seen.{caches_seen, letters_in, sets_seen}
use Rattle.shard.specs.SharedStep.{Bank, l1_of}
use Rattle.shard.proofs.HomesAndL1s.Fit.{AreFit}
use Rattle.shard.proofs.HomesAndL1s.Gets.{any_default, got}
use Rattle.shard.proofs.HomesAndL1s.PartOf.{part_sets}

no_room : (n : ℕ) → 0 < n → 1 ≤ 0 / n → ⊥
no_room n some h = omega arith

module _ (p : Bank) (are : AreParts p) where
  some_sets : (k : ℕ) → k < length p.l1s → 0 < length (l1_of p k).sets
  unfolding caches_seen
  some_sets k within =
      let l1 : L1State = l1_of p k in
      let seen : get_or (map (sets_seen p.home) p.l1s) k [] ≡ sets_seen p.home l1 = get_or-map (sets_seen p.home) p.l1s k no_l1 [] within in
      let long : length (sets_seen p.home l1) ≡ length l1.sets * l1.shards / p.home.shards
      = length-map (part_sets l1.shards p.home.shards p.home.number l1.sets) letters_in ∙ length-map-range_with_len (λ j. set_of l1.shards (j * p.home.shards + p.home.number) l1.sets) 0 (length l1.sets * l1.shards / p.home.shards) in
      let room : 1 ≤ length l1.sets * l1.shards / p.home.shards
      = subst (λ (z : ℕ). 1 ≤ z) (ap (λ s. length s) seen ∙ long) (are.room.l1_sets k (omega (arith, within, length-map p.l1s (sets_seen p.home)))) in
      elim (cases_lt 0 (length l1.sets)) as (λ _. 0 < length l1.sets) [
        | inl l ↦ l
        | inr none ↦
            let empty : length l1.sets ≡ 0 = omega arith in
            let bad : 1 ≤ 0 * l1.shards / p.home.shards = subst (λ (z : ℕ). 1 ≤ z * l1.shards / p.home.shards) empty room in
            let zero_is : 0 * l1.shards ≡ 0 = omega arith in
            absurd (no_room p.home.shards are.some.0 (subst (λ (z : ℕ). 1 ≤ z / p.home.shards) zero_is bad))
      ]

  pub fit_of : AreFit p
  fit_of = record {
    some = (are.some.0, are.some.1);
    each = λ k within.
        let l1 : L1State = l1_of p k in
        let at : slice_get p.l1s k ≡ Some l1 = got p.l1s k no_l1 within in
        let head : get_or p.l1s 0 l1 ≡ get_or p.l1s 0 no_l1 = any_default p.l1s 0 l1 no_l1 are.cores.0 in
        let ways = are.alike.ways k l1 at in
        record {
          shards = are.alike.shards k l1 at;
          ways = ways.0 ∙ ap (λ (x : L1State). x.ways) head;
          l1i_ways = ways.1 ∙ ap (λ (x : L1State). x.l1i_ways) head;
          sets = are.alike.sets k l1 at;
          l1i_sets = are.alike.l1i_sets k l1 at;
          fetchers = are.alike.fetchers k l1 at ∙ ap (λ (x : L1State). length x.l1i) head;
          room = some_sets k within;
        };
  }
