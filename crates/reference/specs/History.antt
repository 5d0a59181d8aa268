-- What the history of an interval is: whatever the order in which the cores took their turns at the shards, the entries
-- of each core are the core's turns, those of each shard are what the shard gave, and the stamps are those of logical
-- clocks.
use Rattle.std.specs.Prelude.{◌≡◌, ℕ, ◌<◌, List, [], ◌∷◌, length, map, replicate, slice_get, All, Some, None}
use Rattle.zs_num.specs.declared.entry.Entry.{Entry}
use Rattle.elf_load.specs.MemoryImage.{MemoryImage}
use Rattle.shard.specs.Served.{AreServedBy, ShardState, shard_after}
use Rattle.access_log.specs.History.{AreStamped, bank_of_entry, core_of_entry, each_after, of_bank, of_core}
use Rattle.access_log.specs.RecordedOrder.{no_stamps}
use Rattle.reference.specs.ReferenceMachine.{BoundState}
use Rattle.reference.specs.ShardWorld.{ShardWorld, begun_world}
use Rattle.reference.specs.TimedCore.{TimedCore, asks, core_after_access, ran_to}

-- the bound phase of an interval before its first access
abbrev pub begun_over_shards : List TimedCore → List ShardState → BoundState ShardWorld
begun_over_shards cores shards = record { cores = cores; world = begun_world (length cores) shards; entries = [] }

-- `time` is how long an access takes where nothing else runs. The interval ends at `end`.
module _ (time : Entry → ℕ) (image : MemoryImage) (end : ℕ) where
  -- the core after a turn that took this entry
  abbrev pub after_turn : TimedCore → Entry → TimedCore
  after_turn c e = core_after_access time e (ran_to image end c)

  -- the turns of a core take these entries, one after the other, and then the core ends its interval
  abbrev pub AreTurnsOf : TimedCore → List Entry → Type 0
  AreTurnsOf c [] = asks (ran_to image end c) ≡ None
  AreTurnsOf c (e ∷ entries) =
      (asks (ran_to image end c) ≡ Some e.request) × (e.start ≡ (ran_to image end c).clock) × AreTurnsOf (after_turn c e) entries

  -- the entries of an interval that begins with these cores and shards, in an order of the turns
  pub record IsHistory (cores : List TimedCore) (shards : List ShardState) (entries : List Entry) : Type 0 where
    pub some : 0 < length shards
    -- all stamps begin at 0
    pub begins : All (λ shard. shard.last ≡ 0) shards
    pub known : All (λ e. e.core < length cores) entries
    pub turns : (number : ℕ) (c : TimedCore) → slice_get cores number ≡ Some c → AreTurnsOf c (of_core number entries)
    pub served : (number : ℕ) (shard : ShardState) → slice_get shards number ≡ Some shard → AreServedBy shard (of_bank (length shards) number entries)
    pub stamped : AreStamped (length shards) (no_stamps (length shards) (length cores)) entries

  -- What a history leaves at the end of the interval: each core and each shard after its own entries.
  abbrev pub after_history : List TimedCore → List ShardState → List Entry → BoundState ShardWorld
  after_history cores shards entries = record {
    cores = map (ran_to image end) (each_after after_turn core_of_entry entries cores);
    world = record {
      shards = each_after shard_after (bank_of_entry (length shards)) entries shards;
      stamps = each_after (λ stamp e. e.stamp) core_of_entry entries (replicate (length cores) 0);
    };
    entries = entries;
  }
