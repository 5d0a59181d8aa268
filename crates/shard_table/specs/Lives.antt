-- The accesses that a shard serves, one after the other.
use Rattle.std.specs.Prelude.{◌≡◌, ℕ, ◌<◌, ◌≤◌, List, ◌++◌, length, slice_get, All, Some}
use Rattle.std.specs.List.{fold}
use Rattle.zs_num.specs.declared.entry.Entry.{Entry}
use Rattle.zs_num.specs.declared.request.Request.{Request}
use Rattle.zs_num.specs.Request.{bank_of}
use Rattle.access_log.specs.History.{AreStamped, of_bank, of_core}
use Rattle.access_log.specs.RecordedOrder.{no_stamps}
use Rattle.shard.specs.Served.{AreServedBy, CanServe, KnowsCore, ShardState, shard_after}

-- the shard after them
abbrev pub after_all : ShardState → List Entry → ShardState
after_all shard entries = fold shard_after shard entries

-- a list is the beginning of another
abbrev pub IsPrefix : List Entry → List Entry → Type 0
IsPrefix list whole = (rest : List Entry) × (whole ≡ list ++ rest)

-- what a core can ask of these shards
abbrev pub MayAsk : List ShardState → (core : ℕ) → Request → Type 0
MayAsk shards core request =
    (shard : ShardState) × (slice_get shards (bank_of (length shards) request) ≡ Some shard) × KnowsCore shard core × CanServe shard request

-- shards in order of their numbers, before the first access
abbrev pub AreNew : List ShardState → Type 0
AreNew shards = (number : ℕ) (shard : ShardState) → slice_get shards number ≡ Some shard → (shard.number ≡ number) × (shard.last ≡ 0)

-- The accesses of cores to new shards, in the order in which their holds ended.
pub record AreAccesses (shards : List ShardState) (cores room : ℕ) (history : List Entry) : Type 0 where
  pub known : All (λ e. e.core < cores) history
  pub asked : All (λ e. MayAsk shards e.core e.request) history
  pub served : (number : ℕ) (shard : ShardState) → slice_get shards number ≡ Some shard → AreServedBy shard (of_bank (length shards) number history)
  pub stamped : AreStamped (length shards) (no_stamps (length shards) cores) history
  pub low : All (λ e. e.stamp ≤ length history) history
  pub fits : (core : ℕ) → length (of_core core history) ≤ room
