-- What the calls on the table and its seats promise.
use Rattle.std.specs.Prelude.{◌≡◌, ◌≢◌, ℕ, ◌+◌, ◌<◌, max, List, [], ◌∷◌, ◌++◌, length, map, slice_get, All, Some}
use Rattle.std.specs.List.{flat_map}
use Rattle.zs_num.specs.declared.entry.Entry.{Entry}
use Rattle.zs_num.specs.declared.request.Request.{Request}
use Rattle.zs_num.specs.Request.{bank_of}
use Rattle.access_log.specs.History.{AreRising, AreStamped, bank_of_entry, each_after, latest_of, of_bank, of_core}
use Rattle.access_log.specs.RecordedOrder.{no_stamps, recorded_order}
use Rattle.atomic_table.specs.Seated.{TableId}
use Rattle.shard.specs.Served.{AreServedBy, ShardState, met_by, resumed, shard_after, shard_reply}
use Rattle.shard_table.specs.declared.view.View.{View}
use Rattle.shard_table.specs.declared.view.ShardAccesses.{ShardAccesses}
use Rattle.shard_table.specs.Lives.{AreNew, IsPrefix, MayAsk, after_all}
use Rattle.shard_table.specs.Rule.{AreTrueNotes}

pub record TableState : Type 0 where
  pub table : TableId
  -- the shards before the first access, with all last stamps 0
  pub shards : List ShardState
  pub cores : ℕ
  -- how many accesses a core can make
  pub room : ℕ

pub record SeatState : Type 0 where
  pub table : TableId
  pub core : ℕ
  -- the accesses that it made, in its order
  pub entries : List Entry
  pub knows : View

-- shards with all last stamps 0
abbrev pub restarted_shards : List ShardState → List ShardState
restarted_shards shards = map (λ shard. resumed shard 0) shards

-- a seat of this table
pub record IsSeatOf (t : TableState) (seat : SeatState) : Type 0 where
  pub table : seat.table ≡ t.table
  pub shards : seat.knows.shards ≡ t.shards
  pub cores : seat.knows.cores ≡ t.cores
  pub room : seat.knows.room ≡ t.room

-- the seats of a new table: seat c is core c's
abbrev pub AreNewSeats : TableState → List SeatState → Type 0
AreNewSeats t seats = (length seats ≡ t.cores) × ((number : ℕ) (seat : SeatState) → slice_get seats number ≡ Some seat
    → IsSeatOf t seat × (seat.core ≡ number) × (seat.entries ≡ []))

-- what a seat knows for ever stays
pub record IsSameSeat (before after : SeatState) : Type 0 where
  pub table : after.table ≡ before.table
  pub core : after.core ≡ before.core
  pub shards : after.knows.shards ≡ before.knows.shards
  pub cores : after.knows.cores ≡ before.knows.cores
  pub room : after.knows.room ≡ before.knows.room

-- The access of an entry. It stands last among those of its core, and last in the list of its shard that the seat now
-- notes. Its reply and its outcome are those of the shard after the rest of that list. The rest has this core's earlier
-- accesses to the shard, in order, and begins with each list that the seat noted of the shard before. What other cores
-- have done to the shard is in that list alone, and here it could be any: a wrong reply could still be explained by a
-- store of another core, which nobody made. So the seat keeps what it notes, and `AreWhole` says of each note at the
-- end that the shard did serve these accesses first, each of which is in the log of its core.
pub record IsAccessOf (core : ℕ) (shards : List ShardState) (before : List Entry) (notes : List ShardAccesses) (later : SeatState) (start : ℕ) (request : Request) (e : Entry) : Type 0 where
  pub entries : later.entries ≡ before ++ e ∷ []
  pub core_is : e.core ≡ core
  pub start_is : e.start ≡ start
  pub request_is : e.request ≡ request
  pub earlier : List Entry
  pub noted : later.knows.notes ≡ notes ++ record { shard = bank_of (length shards) request; list = earlier ++ e ∷ [] } ∷ []
  pub stamp : e.stamp ≡ max (latest_of earlier) (latest_of before) + 1
  pub served : (shard : ShardState) → slice_get shards (bank_of (length shards) request) ≡ Some shard
      → AreServedBy shard earlier × (e.reply ≡ shard_reply (after_all shard earlier) e) × (e.outcome ≡ met_by (after_all shard earlier) e)
  pub own : of_core core earlier ≡ of_bank (length shards) (bank_of (length shards) request) before
  pub seen : All (λ note. note.shard ≡ bank_of (length shards) request → IsPrefix note.list earlier) notes

abbrev pub IsAccess : (before later : SeatState) → (start : ℕ) → Request → Entry → Type 0
IsAccess before = IsAccessOf before.core before.knows.shards before.entries before.knows.notes

-- Another core was found to hold the shard, in one look at the shard's word.
pub record IsHeld (before later : SeatState) (request : Request) (holder : ℕ) : Type 0 where
  pub entries : later.entries ≡ before.entries
  pub notes : later.knows.notes ≡ before.knows.notes
  pub other : holder ≢ before.core
  pub known : holder < before.knows.cores
  pub shard : later.knows.found.shard ≡ bank_of (length before.knows.shards) request
  pub word : later.knows.found.word ≡ holder + 1
  pub count : later.knows.found.count ≡ before.knows.found.count + 1

-- ---- all accesses

-- the seats of all cores, each once, in any order
pub record AreAllSeats (t : TableState) (seats : List SeatState) : Type 0 where
  pub count : length seats ≡ t.cores
  pub of_table : All (IsSeatOf t) seats
  pub each : (core : ℕ) → core < t.cores → (place : ℕ) × (seat : SeatState) × (slice_get seats place ≡ Some seat) × (seat.core ≡ core)

-- the entries of all seats, one seat after the other
abbrev pub entries_of_seats : List SeatState → List Entry
entries_of_seats seats = flat_map (λ seat. seat.entries) seats

-- What the accesses of all cores are, by their recorded order: those of each core in its own order, and those of each
-- shard in the order in which it served them. Each shard could be asked for them, gave them their replies and outcomes,
-- one after the other, and is what they left. Each list that a seat noted is what its shard served first. Stamps rise
-- in each core and in each shard. By the laws of this crate these are the replies and outcomes that one memory and one
-- machine's caches give to all accesses, one after the other.
pub record AreWhole (t : TableState) (entries : List Entry) (seats : List SeatState) (shards : List ShardState) : Type 0 where
  pub new : AreNew t.shards
  pub known : All (λ e. e.core < t.cores) entries
  pub servable : All (λ e. MayAsk t.shards e.core e.request) entries
  pub own : All (λ seat. of_core seat.core entries ≡ seat.entries) seats
  pub served : (number : ℕ) (shard : ShardState) → slice_get t.shards number ≡ Some shard → AreServedBy shard (of_bank (length t.shards) number entries)
  pub noted : All (λ seat. AreTrueNotes (length t.shards) entries seat.knows.notes) seats
  pub left : shards ≡ each_after shard_after (bank_of_entry (length t.shards)) entries t.shards
  pub stamped : AreStamped (length t.shards) (no_stamps (length t.shards) t.cores) entries
  pub logs_rise : All (λ seat. AreRising 0 seat.entries) seats
  pub shards_rise : (number : ℕ) → AreRising 0 (of_bank (length t.shards) number entries)
  -- also before they are put in order
  pub rise : (core : ℕ) → AreRising 0 (of_core core (entries_of_seats seats))

-- the entries of all seats in recorded order
abbrev pub recorded_entries : List SeatState → List Entry
recorded_entries seats = recorded_order (entries_of_seats seats)
