-- One turn of a core at its shard, as the first of a history.
use Rattle.std.proofs.Common.{◌≡◌, ℕ, zero, suc, ◌+◌, max, List, [], ◌∷◌, ◌++◌, map, length, Some, refl, sym, ◌∙◌, ap}
use Rattle.std.specs.Prelude.{slice_get, slice_index, slice_set}
use Rattle.std.proofs.lemmas.Option.{get_or_from_slice_get}
use Rattle.zs_num.specs.declared.entry.Entry.{Entry}
use Rattle.zs_num.specs.declared.entry.Outcome.{Outcome}
use Rattle.elf_load.specs.MemoryImage.{MemoryImage}
use Rattle.shard.specs.Served.{ShardState, met_by, no_shard, shard_after, shard_for, shard_reply}
use Rattle.access_log.specs.History.{bank_of_entry}
use Rattle.access_log.specs.RecordedOrder.{Stamps}
use Rattle.reference.specs.History.{after_turn}
use Rattle.reference.specs.ReferenceMachine.{BoundState, turn}
use Rattle.reference.specs.ShardWorld.{ShardWorld, recorded_by_shard, shards_serve}
use Rattle.reference.specs.TimedCore.{TimedCore, asks, ran_to}

-- the stamps of a world
abbrev pub stamps_of : ShardWorld → Stamps
stamps_of w = record { banks = map (λ shard. shard.last) w.shards; cores = w.stamps }

pub last_at : (shards : List ShardState) (i : ℕ) (shard : ShardState) → slice_get shards i ≡ Some shard → slice_index (map (λ shard. shard.last) shards) i ≡ shard.last
last_at [] i shard here = cc
last_at (x ∷ shards) zero shard here = let same : x ≡ shard = cc in ap (λ (s : ShardState). s.last) same
last_at (x ∷ shards) (suc i) shard here = last_at shards i shard here

-- ---- what the shard records

-- the entry that these parts make
abbrev made : Entry → (stamp reply : ℕ) → Outcome → Entry
made e stamp reply outcome = record { core = e.core; stamp = stamp; start = e.start; request = e.request; reply = reply; outcome = outcome }

pub recorded_is : (shard : ShardState) (latest : ℕ) (e : Entry) → e.stamp ≡ max shard.last latest + 1 → e.reply ≡ shard_reply shard e → e.outcome ≡ met_by shard e
    → recorded_by_shard shard latest e.core e.start e.request ≡ e
unfolding shard_reply met_by
recorded_is shard latest e stamp reply outcome =
    ap (λ (n : ℕ). made e n (shard_reply shard e) (met_by shard e)) (sym stamp)
    ∙ ap (λ (n : ℕ). made e e.stamp n (met_by shard e)) (sym reply)
    ∙ ap (λ (o : Outcome). made e e.stamp e.reply o) (sym outcome)

-- ---- the turn

module _ (time : Entry → ℕ) (image : MemoryImage) (end : ℕ) where
  -- The core and the shard are there, and this is the entry that the shard gives to what the core asks.
  pub record IsNext (s : BoundState ShardWorld) (e : Entry) (c : TimedCore) (shard : ShardState) : Type 0 where
    pub core : slice_get s.cores e.core ≡ Some c
    pub bank : slice_get s.world.shards (bank_of_entry (length s.world.shards) e) ≡ Some shard
    pub asked : asks (ran_to image end c) ≡ Some e.request
    pub start : e.start ≡ (ran_to image end c).clock
    pub reply : e.reply ≡ shard_reply shard e
    pub outcome : e.outcome ≡ met_by shard e
    pub stamp : e.stamp ≡ max shard.last (slice_index s.world.stamps e.core) + 1

  abbrev pub next_world : ShardWorld → Entry → ShardState → ShardWorld
  next_world w e shard = record { shards = slice_set w.shards (bank_of_entry (length w.shards) e) (shard_after shard e); stamps = slice_set w.stamps e.core e.stamp }

  abbrev pub next : BoundState ShardWorld → Entry → TimedCore → ShardState → BoundState ShardWorld
  next s e c shard = record {
    cores = slice_set s.cores e.core (after_turn time image end c e);
    world = next_world s.world e shard;
    entries = s.entries ++ e ∷ [];
  }

  serves_next : (s : BoundState ShardWorld) (e : Entry) (c : TimedCore) (shard : ShardState) → IsNext s e c shard
      → shards_serve s.world e.core e.start e.request ≡ (e, next_world s.world e shard)
  unfolding shards_serve
  serves_next s e c shard n =
      let found : shard_for s.world.shards e.request ≡ shard = get_or_from_slice_get s.world.shards (bank_of_entry (length s.world.shards) e) shard no_shard n.bank in
      let is : recorded_by_shard shard (slice_index s.world.stamps e.core) e.core e.start e.request ≡ e = recorded_is shard (slice_index s.world.stamps e.core) e n.stamp n.reply n.outcome in
      let with_entry : Entry → Entry × ShardWorld = λ x. (x, record { shards = slice_set s.world.shards (bank_of_entry (length s.world.shards) e) (shard_after shard x); stamps = slice_set s.world.stamps e.core x.stamp }) in
      rw found (ap with_entry is)

  pub takes_next : (s : BoundState ShardWorld) (e : Entry) (c : TimedCore) (shard : ShardState) → IsNext s e c shard
      → turn shards_serve time image end s e.core ≡ Some (next s e c shard)
  takes_next s e c shard n =
      let served = ap (λ (start : ℕ). shards_serve s.world e.core start e.request) (sym n.start) ∙ serves_next s e c shard n in
      rw (n.core, n.asked, served) refl
