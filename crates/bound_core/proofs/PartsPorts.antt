-- An access through a port over all shards of a machine.
use Rattle.std.proofs.Common.{◌≡◌, ◌<◌, ℕ, List, length, refl, ap, subst, sym, ◌∙◌}
use Rattle.std.specs.Prelude.{slice_index, slice_set}
use Rattle.zs_num.specs.Request.{bank_of}
use Rattle.zs_num.specs.declared.entry.Entry.{Entry}
use Rattle.zs_num.specs.declared.request.Request.{Request}
use Rattle.shard.specs.Served.{IsServedBy, KnowsCore, ShardState, shard_after, shard_for}
use Rattle.bound_core.specs.ShardPort.{IsShardAt, IsShardPort, base_in, base_of, l1i_in, l1i_of, size_in, size_of}
use Rattle.reference.specs.ShardWorld.{ShardWorld, shards_serve}
use Rattle.bound_core.proofs.ShardPorts.{l1i_set, own_memory, port_set, served_is, shard_there, shards_set}
use Rattle.bound_core.proofs.ShardsStay.{one_has, one_stays}

-- its stamp is the shard's last
pub last_is : (shard : ShardState) (entry : Entry) → (shard_after shard entry).last ≡ entry.stamp
unfolding shard_after
last_is shard entry = refl

module _ (w : ShardWorld) (core start : ℕ) (request : Request) (port : IsShardPort (record { world = w; core = core })) where
  abbrev pub shard : ShardState
  shard = shard_for w.shards request

  abbrev n : ℕ
  n = bank_of (length w.shards) request

  is_at : IsShardAt (length w.shards) (length w.stamps) n (base_of w) (size_of w) shard
  is_at = port.shards.each n shard (shard_there w core start request port.shards.some)

  pub knows : KnowsCore shard core
  knows = subst (λ count. core < count) (sym is_at.cores_known) port.core_is

  -- memory and instruction caches are as they were
  pub same_memory : (entry : Entry) (shards : List ShardState) → shards ≡ slice_set w.shards n (shard_after shard entry)
      → (base_in shards ≡ base_of w) × (size_in shards ≡ size_of w) × (l1i_in shards ≡ l1i_of w)
  same_memory entry shards is =
      let left = shard_after shard entry in
      let alike = one_has shard entry ∙ port.shards.alike n shard (shard_there w core start request port.shards.some) in
      let stays = one_stays (length w.shards) (length w.stamps) n (base_of w) (size_of w) shard entry is_at in
      let own = own_memory (length w.stamps) (base_of w) (size_of w) (slice_set w.shards n left) (shards_set (length w.stamps) (base_of w) (size_of w) n w.shards left port.shards stays alike) in
      (ap base_in is ∙ own.0, ap size_in is ∙ own.1, ap l1i_in is ∙ l1i_set n w.shards left port.shards.some alike port.shards.alike)

  -- what an access leaves is a port again
  pub port_after : (entry : Entry) (shards : List ShardState) (at : ℕ) → shards ≡ slice_set w.shards n (shard_after shard entry)
      → IsShardPort (record { world = record { shards = shards; stamps = slice_set w.stamps at entry.stamp }; core = core })
  port_after entry shards at is =
      let alike = one_has shard entry ∙ port.shards.alike n shard (shard_there w core start request port.shards.some) in
      subst (λ (ss : List ShardState). IsShardPort (record { world = record { shards = ss; stamps = slice_set w.stamps at entry.stamp }; core = core })) (sym is)
      (port_set (record { world = w; core = core }) n (shard_after shard entry) at entry.stamp port
      (one_stays (length w.shards) (length w.stamps) n (base_of w) (size_of w) shard entry is_at) alike)

  -- it is what the world does
  pub gives : (entry : Entry) (shards : List ShardState) (at : ℕ) → IsServedBy shard core start (slice_index w.stamps core) request entry
      → shards ≡ slice_set w.shards n (shard_after shard entry) → at ≡ core
      → (entry, record { shards = shards; stamps = slice_set w.stamps at entry.stamp }) ≡ shards_serve w core start request
  gives entry shards at served is chosen =
      ap (λ (ss : List ShardState). answer ss at) is
      ∙ (ap (λ (k : ℕ). answer (slice_set w.shards n (shard_after shard entry)) k) chosen ∙ served_is w core start request entry (shard_after shard entry) served refl)
    where
      answer : List ShardState → ℕ → Entry × ShardWorld
      answer ss k = (entry, record { shards = ss; stamps = slice_set w.stamps k entry.stamp })
