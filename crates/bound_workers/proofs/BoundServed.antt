-- What shards answer one after the other, each shard has given its own.
use Rattle.std.proofs.Common.{◌≡◌, ℕ, List, [], ◌∷◌, length, map, Some, refl, sym, ◌∙◌, ap, subst}
use Rattle.std.specs.Prelude.{slice_get, slice_set}
use Rattle.std.proofs.lemmas.List.{length-set}
use Rattle.zs_num.specs.Request.{bank_of_line, line_of}
use Rattle.zs_num.specs.declared.entry.Entry.{Entry}
use Rattle.shard.specs.Served.{AreServedBy, ShardState, shard_after}
use Rattle.shard.specs.StandsFor.{AreAnswered}
use Rattle.access_log.specs.History.{bank_of_entry, each_after}
use Rattle.bound_core.specs.ShardPort.{AreShardsOf, base_in, size_in}
use Rattle.bound_core.specs.ShardWorld.{restarted}
use Rattle.reference.proofs.Numbered.{EachHolds, after_first, after_none, all_hold}
use Rattle.bound_core.proofs.ShardPorts.{own_memory, shards_set}
use Rattle.bound_core.proofs.ShardsStay.{one_has, one_stays}

module _ (cores base size n : ℕ) where
  pub answered_each : (entries : List Entry) (shards left : List ShardState) → AreShardsOf cores shards base size → length shards ≡ n → AreAnswered shards entries left
      → EachHolds AreServedBy (bank_of_entry n) shards entries × (left ≡ each_after shard_after (bank_of_entry n) entries shards)
  answered_each [] shards left are long did = (λ number shard here. tt, did ∙ sym (after_none shard_after (bank_of_entry n) shards))
  answered_each (e ∷ entries) shards left are long did =
      let s : ShardState = did.0 in
      let bank : ℕ = bank_of_entry n e in
      let here : slice_get shards bank ≡ Some s = ap (λ (k : ℕ). slice_get shards (bank_of_line k (line_of e.request))) (sym long) ∙ did.1 in
      let at = are.each bank s here in
      let then : List ShardState = slice_set shards bank (shard_after s e) in
      let rest : AreAnswered then entries left = subst (λ (k : ℕ). AreAnswered (slice_set shards k (shard_after s e)) entries left) at.number_is did.4 in
      let stay : AreShardsOf cores then base size = shards_set cores base size bank shards (shard_after s e) are (one_stays (length shards) cores bank base size s e at) (one_has s e ∙ are.alike bank s here) in
      let later = answered_each entries then left stay (length-set shards bank (shard_after s e) ∙ long) rest in (
        all_hold AreServedBy shard_after (bank_of_entry n) shards e entries s here (λ more given. (did.2, did.3, given)) later.0,
        later.1 ∙ sym (after_first shard_after (bank_of_entry n) e entries shards s here),
      )

-- the shards of a machine, by their own memory
pub by_own_memory : (cores many base size : ℕ) (shards : List ShardState) → many ≡ cores → AreShardsOf cores shards base size → AreShardsOf many shards (base_in shards) (size_in shards)
by_own_memory cores many base size shards same are =
    let own = own_memory cores base size shards are in
    subst (λ (k : ℕ). AreShardsOf k shards (base_in shards) (size_in shards)) (sym same)
    (subst (λ (b : ℕ). AreShardsOf cores shards b (size_in shards)) (sym own.0) (subst (λ (z : ℕ). AreShardsOf cores shards base z) (sym own.1) are))

-- that last stamps are 0 is said once
pub restarted_twice : (shards : List ShardState) → map restarted (map restarted shards) ≡ map restarted shards
restarted_twice [] = refl
restarted_twice (shard ∷ shards) = ap (λ (ss : List ShardState). restarted shard ∷ ss) (restarted_twice shards)
