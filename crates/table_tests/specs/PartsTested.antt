-- The tables of homes and L1s of the tests: two cores, and one bank with memory from 0x10000 to 0x110000.
use Rattle.std.specs.Prelude.{◌≡◌, ◌<◌, ℕ, List, [], ◌∷◌, length}
use Rattle.shard.specs.Served.{ShardState}
use Rattle.parts_table.specs.Access.{IsSeatOf, SeatState, TableState, opening_shards}
use Rattle.parts_table.specs.Places.{PlacesState}

-- a shard of all lines
pub record HasAll (shard : ShardState) : Type 0 where
  pub number_is : shard.number ≡ 0
  pub base : shard.base ≡ 65536
  pub size : shard.size ≡ 1048576
  pub banks_are : shard.caches.shards ≡ 1
  pub cores : length shard.marks ≡ 2

-- that one alone
abbrev pub IsOneShard : List ShardState → Type 0
IsOneShard shards = (shard : ShardState) × (shards ≡ shard ∷ []) × HasAll shard

-- a table at which a core can make 2001 accesses
pub record IsPartsTested (table : TableState) : Type 0 where
  pub room : table.room ≡ 2001
  pub cores : table.cores ≡ 2
  pub banks : table.banks ≡ 1
  pub shards : IsOneShard (opening_shards table)

-- a core that is at rest and made so many accesses, and empty places
pub record IsResting (core made : ℕ) (table : TableState) (seat : SeatState) (places : PlacesState) : Type 0 where
  pub seat_of : IsSeatOf table seat
  pub core_is : seat.core ≡ core
  pub few : core < 2
  pub count : length seat.made ≡ made
  pub places_are : length places.l1s ≡ 2
  pub empty : places.filled ≡ 0
