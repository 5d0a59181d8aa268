-- What one core of a worker does in an interval.
use Rattle.std.specs.Prelude.{◌≡◌, ℕ, ◌+◌, ◌-◌, ◌^◌, ◌<◌, ◌≤◌, max, false, [], length, None, IsNone, IsTrue}
use Rattle.std.specs.List.{All, fold}
use Rattle.zs_num.specs.declared.entry.Entry.{Entry}
use Rattle.machine_desc.specs.declared.machine.Memory.{Memory}
use Rattle.elf_load.specs.MemoryImage.{MemoryImage}
use Rattle.parts_table.specs.Access.{IsSameSeat, IsSeatOf, TableState, opening_shards}
use Rattle.parts_table.specs.Places.{PlacesState}
use Rattle.bound_core.specs.History.{AreTurnsOf, after_turn}
use Rattle.bound_core.specs.ShardPort.{AreShardsOf, l1i_in}
use Rattle.bound_core.specs.TimedCore.{beside_cycles, ran_to}
use Rattle.bound_core.specs.Turn.{IsOver}
use Rattle.bound_records.specs.CoreRuns.{IsNear}
use Rattle.bound_workers.specs.Kept.{IsKeptAtWork, blank_of, entries_of_seat}
use Rattle.bound_workers.specs.declared.member.Member.{Member}

-- places for so many cores, of which none is filled
pub record ArePlacesFor (cores : ℕ) (places : PlacesState) : Type 0 where
  pub count : length places.l1s ≡ cores
  pub empty : places.filled ≡ 0

-- The core can run to cycle `end` by its seat at this table.
pub record CanRun (t : TableState) (memory : Memory) (end : ℕ) (m : Member) : Type 0 where
  pub of_table : IsSeatOf t m.seat
  pub core_is : m.seat.core ≡ m.core.number
  pub new : m.seat.made ≡ []
  pub kept : IsKeptAtWork t m.seat m.record.log m.record.records m.record.count
  pub idle : m.core.timed.core.instruction ≡ None
  pub unfetched : m.core.timed.core.is_fetched ≡ false
  pub fetches : IsTrue m.core.timed.core.fetching → IsTrue (l1i_in (opening_shards t))
  pub base : m.core.timed.core.memory.base ≡ memory.base
  pub size : m.core.timed.core.memory.size ≡ memory.size
  pub shards : AreShardsOf t.cores (opening_shards t) memory.base memory.size
  pub known : m.core.number < t.cores
  pub room : IsNone m.core.timed.core.halted → end - m.core.timed.clock + beside_cycles ≤ t.room
  pub spare : IsNone m.core.timed.core.halted → end - m.core.timed.clock + beside_cycles ≤ m.core.spare
  pub clock : m.core.timed.clock ≤ 2 ^ 60
  pub end_is : end ≤ 2 ^ 60

-- It has run there: its accesses are its turns, all are kept, and it is where they have left it.
pub record HasRun (time : Entry → ℕ) (image : MemoryImage) (end : ℕ) (t : TableState) (before after : Member) : Type 0 where
  pub number : after.core.number ≡ before.core.number
  pub same_seat : IsSameSeat before.seat after.seat
  pub kept : IsKeptAtWork t after.seat after.record.log after.record.records after.record.count
  pub same_record : blank_of after.record ≡ blank_of before.record
  pub stampless : All (λ e. e.stamp ≡ 0) (entries_of_seat after.seat)
  pub turns : AreTurnsOf time image end before.core.timed (entries_of_seat after.seat)
  pub left : after.core.timed ≡ ran_to image end (fold (after_turn time image end) before.core.timed (entries_of_seat after.seat))
  pub few : length after.seat.made ≤ t.room
  pub over : IsOver end after.core.timed
  pub starts : All (λ e. e.start ≤ end + 2 ^ 30) (entries_of_seat after.seat)
  pub near : All (IsNear before.core.timed.clock before.core.timed.core.memory.base before.core.timed.core.memory.size) (entries_of_seat after.seat)
  pub clock : after.core.timed.clock ≤ max before.core.timed.clock end + 2 ^ 30
