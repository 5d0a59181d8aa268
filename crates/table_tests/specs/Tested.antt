-- The tables of the tests: two cores, and shards of memory from 0x10000 to 0x110000.
use Rattle.std.specs.Prelude.{◌≡◌, ◌%◌, ℕ, List, length, Some, slice_get, false}
use Rattle.zs_num.specs.Request.{line_of}
use Rattle.zs_num.specs.Servable.{IsServable}
use Rattle.zs_num.specs.declared.request.Request.{Request}
use Rattle.shard.specs.Served.{CanServe, ShardState}
use Rattle.shard_table.specs.Access.{IsSeatOf, SeatState, TableState}

-- the shard of this number, of so many
pub record IsOf (banks number : ℕ) (shard : ShardState) : Type 0 where
  pub number_is : shard.number ≡ number
  pub base : shard.base ≡ 65536
  pub size : shard.size ≡ 1048576
  pub banks_are : shard.caches.shards ≡ banks
  pub cores : length shard.marks ≡ 2

abbrev pub AreOf : (banks : ℕ) → List ShardState → Type 0
AreOf banks shards = (number : ℕ) (shard : ShardState) → slice_get shards number ≡ Some shard → IsOf banks number shard

-- each can be asked what is in its lines
abbrev pub CanBeAsked : (banks : ℕ) → List ShardState → Type 0
CanBeAsked banks shards = (number : ℕ) (shard : ShardState) (request : Request) → slice_get shards number ≡ Some shard
    → IsServable 65536 1048576 false request → line_of request % banks ≡ number → CanServe shard request

-- a table of so many shards, at which a core can make 1000 accesses
pub record IsTested (banks : ℕ) (table : TableState) : Type 0 where
  pub room : table.room ≡ 1000
  pub cores : table.cores ≡ 2
  pub count : length table.shards ≡ banks
  pub shards : AreOf banks table.shards

-- the seat of a core at a table
pub record IsAt (core : ℕ) (table : TableState) (seat : SeatState) : Type 0 where
  pub seat_of : IsSeatOf table seat
  pub core_is : seat.core ≡ core
