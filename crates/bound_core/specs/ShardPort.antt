-- What a port over a bare list of shards is seen as.
use Rattle.std.specs.Prelude.{◌≡◌, ◌<◌, ℕ, Bool, ◌-◌, ◌^◌, max, List, [], ◌∷◌, length, map, slice_get, slice_index_or, Some}
use Rattle.shard.specs.HaveL1i.{have_l1i}
use Rattle.shard.specs.Served.{ShardState, no_shard}
use Rattle.reference.specs.ShardWorld.{ShardWorld}

pub record ShardPortState : Type 0 where
  pub world : ShardWorld
  -- the core whose accesses follow
  pub core : ℕ

-- the memory of shards is that of the first
abbrev pub base_in : List ShardState → ℕ
base_in shards = (slice_index_or shards 0 no_shard).base

abbrev pub size_in : List ShardState → ℕ
size_in shards = (slice_index_or shards 0 no_shard).size

-- and so are its instruction caches
abbrev pub l1i_in : List ShardState → Bool
l1i_in shards = have_l1i (slice_index_or shards 0 no_shard).caches

abbrev pub base_of : ShardWorld → ℕ
base_of w = base_in w.shards

abbrev pub size_of : ShardWorld → ℕ
size_of w = size_in w.shards

abbrev pub l1i_of : ShardWorld → Bool
l1i_of w = l1i_in w.shards

-- the greatest of numbers, and 0 of none
abbrev pub greatest : List ℕ → ℕ
greatest [] = 0
greatest (number ∷ numbers) = max number (greatest numbers)

abbrev pub greatest_stamp : ShardWorld → ℕ
greatest_stamp w = max (greatest w.stamps) (greatest (map (λ shard. shard.last) w.shards))

-- for how many accesses no stamp passes its limit
abbrev pub room_of : ShardWorld → ℕ
room_of w = 2 ^ 62 - 1 - greatest_stamp w

-- a shard of so many, for so many cores, at its number, over this memory
pub record IsShardAt (shards cores number base size : ℕ) (shard : ShardState) : Type 0 where
  pub number_is : shard.number ≡ number
  pub count : shard.caches.shards ≡ shards
  pub cores_known : length shard.marks ≡ cores
  pub base_is : shard.base ≡ base
  pub size_is : shard.size ≡ size

-- The shards of one machine, in order of their numbers, of which there is one at least. All have instruction caches, or
-- none has.
pub record AreShardsOf (cores : ℕ) (shards : List ShardState) (base size : ℕ) : Type 0 where
  pub some : 0 < length shards
  pub each : (number : ℕ) (shard : ShardState) → slice_get shards number ≡ Some shard → IsShardAt (length shards) cores number base size shard
  pub alike : (number : ℕ) (shard : ShardState) → slice_get shards number ≡ Some shard → have_l1i shard.caches ≡ l1i_in shards

-- what a port keeps
pub record IsShardPort (p : ShardPortState) : Type 0 where
  pub shards : AreShardsOf (length p.world.stamps) p.world.shards (base_of p.world) (size_of p.world)
  pub core_is : p.core < length p.world.stamps
