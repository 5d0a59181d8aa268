-- What an interval leaves of the shards of a machine are the shards of that machine.
use Rattle.std.proofs.Common.{◌≡◌, ℕ, ◌<◌, List, [], ◌∷◌, map, length, nat_lt, Option, Some, None, refl, sym, ◌∙◌, ap, subst, arith}
use Rattle.std.specs.Prelude.{slice_get}
use Rattle.std.specs.List.{enumerate_from, fold}
use Rattle.std.specs.Option.{option_map}
use Rattle.std.proofs.lemmas.List.{length-map}
use Rattle.std.proofs.lemmas.List.FromFn.{length-enumerate_from}
use Rattle.std.proofs.lemmas.Option.{same_Some, slice_get-map}
use Rattle.zs_num.specs.declared.entry.Entry.{Entry}
use Rattle.shard.specs.Served.{ShardState, shard_after}
use Rattle.shard.proofs.Kept.{access_same, shards_stay}
use Rattle.access_log.specs.History.{bank_of_entry, each_after, of_bank}
use Rattle.access_log.proofs.EachAfter.{own_at}
use Rattle.shard.specs.HaveL1i.{have_l1i}
use Rattle.bound_core.specs.ShardPort.{AreShardsOf, IsShardAt, l1i_in}
use Rattle.reference.specs.ShardWorld.{restarted}
use Rattle.bound_core.proofs.Alike.{alike_by, first_has}
use Rattle.reference.proofs.ShardKept.{marks_kept}

module _ (count cores number base size : ℕ) where
  pub one_stays : (shard : ShardState) (e : Entry) → IsShardAt count cores number base size shard → IsShardAt count cores number base size (shard_after shard e)
  unfolding shard_after
  one_stays shard e at = record {
    number_is = at.number_is;
    count = shards_stay shard.caches e.core e.request ∙ at.count;
    cores_known = marks_kept shard e ∙ at.cores_known;
    base_is = at.base_is;
    size_is = at.size_is;
  }

  all_stay : (entries : List Entry) (shard : ShardState) → IsShardAt count cores number base size shard → IsShardAt count cores number base size (fold shard_after shard entries)
  all_stay [] shard at = at
  all_stay (e ∷ entries) shard at = all_stay entries (shard_after shard e) (one_stays shard e at)

-- a shard keeps its instruction caches, or has none
pub one_has : (shard : ShardState) (e : Entry) → have_l1i (shard_after shard e).caches ≡ have_l1i shard.caches
unfolding shard_after
one_has shard e = ap (nat_lt 0) (access_same shard.caches e.core e.request).fetchers

all_have : (entries : List Entry) (shard : ShardState) → have_l1i (fold shard_after shard entries).caches ≡ have_l1i shard.caches
all_have [] shard = refl
all_have (e ∷ entries) shard = all_have entries (shard_after shard e) ∙ one_has shard e

some_before : {X Y : Type 0} (f : X → Y) (o : Option X) (y : Y) → option_map f o ≡ Some y → (x : X) × (o ≡ Some x) × (f x ≡ y)
some_before f None y is = cc
some_before f (Some x) y is = (x, refl, same_Some (f x) y is)

module _ (cores base size : ℕ) (shards : List ShardState) (are : AreShardsOf cores shards base size) where
  abbrev after : List Entry → List ShardState
  after entries = each_after shard_after (bank_of_entry (length shards)) entries shards

  as_many : (entries : List Entry) → length (after entries) ≡ length shards
  as_many entries =
      length-map (enumerate_from 0 shards) (λ at. fold shard_after at.1 (of_bank (length shards) at.0 entries)) ∙ length-enumerate_from 0 shards

  some_after : (entries : List Entry) → 0 < length (after entries)
  some_after entries = omega (arith, as_many entries, are.some)

  -- what a shard was
  was : (entries : List Entry) (number : ℕ) (shard : ShardState) → slice_get (after entries) number ≡ Some shard
      → (x : ShardState) × (slice_get shards number ≡ Some x) × (fold shard_after x (of_bank (length shards) number entries) ≡ shard)
  was entries number shard here =
      some_before (λ x. fold shard_after x (of_bank (length shards) number entries)) (slice_get shards number) shard
      (sym (own_at shard_after (bank_of_entry (length shards)) entries shards number) ∙ here)

  have_after : (entries : List Entry) (number : ℕ) (shard : ShardState) → slice_get (after entries) number ≡ Some shard → have_l1i shard.caches ≡ l1i_in shards
  have_after entries number shard here =
      let before = was entries number shard here in
      ap (λ (x : ShardState). have_l1i x.caches) (sym before.2)
      ∙ (all_have (of_bank (length shards) number entries) before.0 ∙ are.alike number before.0 before.1)

  -- the shards after so many entries
  pub shards_after : (entries : List Entry) → AreShardsOf cores (after entries) base size
  shards_after entries = record {
    some = some_after entries;
    each = λ number shard here.
        let before = was entries number shard here in
        subst (λ (n : ℕ). IsShardAt n cores number base size shard) (sym (as_many entries))
        (subst (IsShardAt (length shards) cores number base size) before.2
        (all_stay (length shards) cores number base size (of_bank (length shards) number entries) before.0 (are.each number before.0 before.1)));
    alike = alike_by (l1i_in shards) (after entries) (some_after entries) (have_after entries);
  }

  -- they have instruction caches where these have
  pub l1i_after : (entries : List Entry) → l1i_in (after entries) ≡ l1i_in shards
  l1i_after entries = first_has (l1i_in shards) (after entries) (some_after entries) (have_after entries)

-- shards are those of a machine whatever their last stamps
pub whatever_stamps : (cores base size : ℕ) (shards : List ShardState) → AreShardsOf cores (map restarted shards) base size → AreShardsOf cores shards base size
whatever_stamps cores base size shards are =
    let many = length-map shards restarted in
    let there : (number : ℕ) (shard : ShardState) → slice_get shards number ≡ Some shard → slice_get (map restarted shards) number ≡ Some (restarted shard) =
    λ number shard here. slice_get-map restarted shards number ∙ ap (option_map restarted) here
    in
    record {
      some = omega (arith, many, are.some);
      each = λ number shard here.
          let at = are.each number (restarted shard) (there number shard here) in
          record {
            number_is = at.number_is;
            count = at.count ∙ many;
            cores_known = at.cores_known;
            base_is = at.base_is;
            size_is = at.size_is;
          };
      alike = alike_by (l1i_in (map restarted shards)) shards (omega (arith, many, are.some))
          (λ number shard here. are.alike number (restarted shard) (there number shard here));
    }
