-- What the calls on the table and its seats promise.
use Rattle.std.specs.Prelude.{◌≡◌, ℕ, ◌<◌, Bool, List, [], ◌∷◌, ◌++◌, length, map, slice_get, All, Option, Some}
use Rattle.zs_num.specs.declared.entry.Entry.{Entry}
use Rattle.zs_num.specs.declared.request.Request.{Request}
use Rattle.atomic_table.specs.Seated.{TableId}
use Rattle.shard.specs.Served.{ShardState, resumed}
use Rattle.shard.specs.Seen.{shards_seen}
use Rattle.shard.specs.StandsFor.{AreAnswered}
use Rattle.parts_table.specs.TurnOrder.{AreInOrder, by_core}
use Rattle.parts_table.specs.World.{MayAsk, parts_in, world_of}
use Rattle.parts_table.specs.declared.part.TimedPart.{TimedPart}
use Rattle.parts_table.specs.declared.view.Made.{Made}
use Rattle.parts_table.specs.declared.view.View.{View}

pub record TableState : Type 0 where
  pub table : TableId
  -- the parts before the first access
  pub opening : List (Option TimedPart)
  pub cores : ℕ
  pub banks : ℕ
  -- how many accesses a core can make
  pub room : ℕ

-- the shards for which they stand, with all last stamps 0
abbrev pub opening_shards : TableState → List ShardState
opening_shards t = shards_seen (parts_in t.cores t.banks (world_of t.opening))

-- A core's seat, at rest or at work.
pub record SeatState : Type 0 where
  pub table : TableId
  pub core : ℕ
  -- the accesses that it made, in its order
  pub made : List Made
  pub knows : View

-- a seat of this table
pub record IsSeatOf (t : TableState) (seat : SeatState) : Type 0 where
  pub table : seat.table ≡ t.table
  pub opening : seat.knows.opening ≡ t.opening
  pub cores : seat.knows.cores ≡ t.cores
  pub banks : seat.knows.banks ≡ t.banks
  pub room : seat.knows.room ≡ t.room

-- the seats of a new table: seat c is core c's
abbrev pub AreNewSeats : TableState → List SeatState → Type 0
AreNewSeats t seats = (length seats ≡ t.cores) × ((number : ℕ) (seat : SeatState) → slice_get seats number ≡ Some seat
    → IsSeatOf t seat × (seat.core ≡ number) × (seat.made ≡ []))

-- what a seat knows for ever stays
pub record IsSameSeat (before later : SeatState) : Type 0 where
  pub table : later.table ≡ before.table
  pub core : later.core ≡ before.core
  pub opening : later.knows.opening ≡ before.knows.opening
  pub cores : later.knows.cores ≡ before.knows.cores
  pub banks : later.knows.banks ≡ before.knows.banks
  pub room : later.knows.room ≡ before.knows.room

-- the core may ask this of the parts
abbrev pub CanAsk : TableState → SeatState → Request → Type 0
CanAsk t seat request = (length seat.made < t.room) × MayAsk t.cores t.banks (world_of t.opening) seat.core request

-- The seat made one access more, which has this entry. What its reply and its outcome are is told when the table is closed.
pub record IsAccess (before later : SeatState) (start : ℕ) (request : Request) (e : Entry) : Type 0 where
  pub same : IsSameSeat before later
  pub access : (time : ℕ) × (shared : Bool) × (later.made ≡ before.made ++ record { entry = e; time = time; shared = shared } ∷ [])
  pub core_is : e.core ≡ before.core
  pub start_is : e.start ≡ start
  pub request_is : e.request ≡ request
  pub stamp_is : e.stamp ≡ 0

-- ---- all accesses

-- the seats of all cores, each once, in any order
pub record AreAllSeats (t : TableState) (seats : List SeatState) : Type 0 where
  pub count : length seats ≡ t.cores
  pub of_table : All (IsSeatOf t) seats
  pub each : (core : ℕ) → core < t.cores → (place : ℕ) × (seat : SeatState) × (slice_get seats place ≡ Some seat) × (seat.core ≡ core)

abbrev pub unstamped : Entry → Entry
unstamped e = record e { stamp = 0 }

-- These are the accesses of all seats, in the order of their times, with any stamps.
pub record AreTheirs (t : TableState) (seats : List SeatState) (entries : List Entry) : Type 0 where
  pub made : List Made
  pub entries_are : map unstamped entries ≡ map (λ a. a.entry) made
  pub known : All (λ a. a.entry.core < t.cores) made
  pub own : All (λ seat. by_core seat.core made ≡ seat.made) seats
  pub order : AreInOrder made

-- What every seat made is of its core, which may ask it, and in the order of its times. In the order of all times the shards
-- for which the parts stood answered the accesses one after the other, and the parts that come back stand for what they left,
-- but that no stamp is known.
pub record AreWhole (t : TableState) (seats : List SeatState) (left : List ShardState) : Type 0 where
  pub rise : All (λ seat. AreInOrder seat.made) seats
  pub own : All (λ seat. All (λ a. a.entry.core ≡ seat.core) seat.made) seats
  pub asked : All (λ seat. All (λ a. MayAsk t.cores t.banks (world_of t.opening) a.entry.core a.entry.request) seat.made) seats
  pub run : (entries : List Entry) → AreTheirs t seats entries
      → (shards : List ShardState) × AreAnswered (opening_shards t) entries shards × (map (λ shard. resumed shard 0) shards ≡ left)
