-- What accesses make of each other.
use Rattle.std.specs.Prelude.{◌≡◌, ◌≢◌, ◌⊎◌, ℕ, ◌+◌, ◌-◌, ◌%◌, ◌^◌, ◌<◌, ◌≤◌, Bool, true, false, if◌then◌else◌, length, slice_index, slice_index_or, Option, None}
use Rattle.zs_num.specs.Request.{addr_of, line_at}
use Rattle.zs_num.specs.declared.request.Request.{Request}
use Rattle.zs_num.specs.declared.request.Request.TheVariants.{Load, Store, Lr, Sc, Amo, Fetch}
use Rattle.flat_memory.specs.declared.reservation.Reservation.{Reservation}
use Rattle.flat_memory.specs.FlatMemory.{MemoryState, is_reserved, memory_after, memory_reply, unless_written}

-- so many bytes from an address on are in memory
pub record IsThere (memory : MemoryState) (addr width : ℕ) : Type 0 where
  pub begins : memory.base ≤ addr
  pub ends : addr + width ≤ memory.base + length memory.bytes

-- a load of what a store stored gives the low bytes of the number
abbrev pub LoadGivesWhatWasStored : Type 0
LoadGivesWhatWasStored = (memory : MemoryState) (core other addr width value : ℕ) → IsThere memory addr width
    → memory_reply (memory_after memory core (Store width addr value)) other (Load width addr) ≡ value % 256 ^ width

-- no other byte changes
abbrev pub StoreLeavesOtherBytes : Type 0
StoreLeavesOtherBytes = (memory : MemoryState) (core addr width value i : ℕ) → IsThere memory addr width
    → (i < addr - memory.base) ⊎ (addr - memory.base + width ≤ i)
    → slice_index (memory_after memory core (Store width addr value)).bytes i ≡ slice_index memory.bytes i

-- a store-conditional after a load-reserved of the same bytes, with nothing between, stores
abbrev pub ConditionalStoresAfterReserved : Type 0
ConditionalStoresAfterReserved = (memory : MemoryState) (core addr width value : ℕ) (paired : _) → core < length memory.reservations
    → memory_reply (memory_after memory core (Lr width addr)) core (Sc width paired addr value) ≡ 0

-- and not where another core stored to the line between
abbrev pub ConditionalFailsAfterOthersStore : Type 0
ConditionalFailsAfterOthersStore = (memory : MemoryState) (core other addr width value place size number : ℕ) (paired : _)
    → core < length memory.reservations → other ≢ core → line_at place ≡ line_at addr
    → memory_reply (memory_after (memory_after memory core (Lr width addr)) other (Store size place number)) core (Sc width paired addr value) ≡ 1

-- what a core has reserved
abbrev pub reservation_of : MemoryState → (core : ℕ) → Option Reservation
reservation_of memory core = slice_index_or memory.reservations core None

-- whether an access writes: a store and an atomic operation do, and a store-conditional where the core has reserved the
-- bytes
abbrev pub does_write : MemoryState → (core : ℕ) → Request → Bool
does_write memory core (Load width addr) = false
does_write memory core (Store width addr value) = true
does_write memory core (Lr width addr) = false
does_write memory core (Sc width paired addr value) = is_reserved memory core addr width
does_write memory core (Amo width op addr value) = true
does_write memory core (Fetch addr) = false

-- what a core has reserved ends where another core writes to its line, and by nothing else that another core does
abbrev pub OthersEndByWrites : Type 0
OthersEndByWrites = (memory : MemoryState) (core other : ℕ) (request : Request) → other ≢ core
    → reservation_of (memory_after memory other request) core
    ≡ (if does_write memory other request then unless_written false (addr_of request) (reservation_of memory core) else reservation_of memory core)

-- a fetch is answered 0, and leaves memory as it was
abbrev pub FetchesChangeNothing : Type 0
FetchesChangeNothing = (memory : MemoryState) (core addr : ℕ)
    → (memory_reply memory core (Fetch addr) ≡ 0) × (memory_after memory core (Fetch addr) ≡ memory)
