-- Memory as one list of bytes, with at most one reservation for each core: what accesses are answered, and what they
-- leave. Accesses take effect whole and one after the other. Numbers are little-endian (RISC-V Unprivileged ISA manual,
-- "Load and Store Instructions", "Load-Reserved/Store-Conditional Instructions", "Atomic Memory Operations").
use Rattle.std.specs.Prelude.{ℕ, ◌+◌, ◌-◌, ◌==◌, Bool, false, not, ◌&&◌, if◌then◌else◌, List, ◌++◌, map, take, drop, replicate, slice_index_or, slice_set, Option, Some, None}
use Rattle.std.specs.List.{enumerate_from}
use Rattle.byteorder.specs.Endian.{little_bytes, little_number}
use Rattle.zs_num.specs.Request.{line_at}
use Rattle.zs_num.specs.declared.request.Request.{Request}
use Rattle.zs_num.specs.declared.request.Request.TheVariants.{Load, Store, Lr, Sc, Amo, Fetch}
use Rattle.elf_load.specs.MemoryImage.{MemoryImage, bytes_from}
use Rattle.rv_alu.specs.Atomic.{new_number}
use Rattle.flat_memory.specs.declared.reservation.Reservation.{Reservation}

pub record MemoryState : Type 0 where
  -- the address of the first byte
  pub base : ℕ
  -- all bytes from there on
  pub bytes : List ℕ
  -- what each core has reserved, in order of their numbers
  pub reservations : List (Option Reservation)

-- what memory holds when an executable was loaded: no core has reserved anything
abbrev pub loaded : MemoryImage → (cores : ℕ) → MemoryState
loaded image cores = record { base = image.base; bytes = bytes_from image.segments image.base image.size; reservations = replicate cores None }

-- the number in so many bytes from a place on
unfoldable pub number_in : List ℕ → (place width : ℕ) → ℕ
number_in bytes place width = little_number width (drop place bytes)

-- with the low bytes of a number in so many bytes from a place on
unfoldable pub with_number : List ℕ → (place width value : ℕ) → List ℕ
with_number bytes place width value = take place bytes ++ (little_bytes width value ++ drop (place + width) bytes)

-- the number in so many bytes from an address on
abbrev pub memory_number : MemoryState → (addr width : ℕ) → ℕ
memory_number memory addr width = number_in memory.bytes (addr - memory.base) width

-- these bytes are what a core has reserved
abbrev pub is_reservation : Option Reservation → (addr width : ℕ) → Bool
is_reservation None addr width = false
is_reservation (Some r) addr width = (r.addr == addr) && (r.width == width)

-- this core has reserved these bytes
unfoldable pub is_reserved : MemoryState → (core addr width : ℕ) → Bool
is_reserved memory core addr width = is_reservation (slice_index_or memory.reservations core None) addr width

-- What a core has still reserved when a core wrote to an address. It ends where another core wrote to its line.
abbrev pub unless_written : (is_writer : Bool) → (addr : ℕ) → Option Reservation → Option Reservation
unless_written is_writer addr None = None
unless_written is_writer addr (Some r) = if not is_writer && (line_at r.addr == line_at addr) then None else Some r

unfoldable pub after_write : (core addr : ℕ) → List (Option Reservation) → List (Option Reservation)
after_write core addr reservations = map (λ at. unless_written (at.0 == core) addr at.1) (enumerate_from 0 reservations)

-- after a core wrote the low bytes of a number
unfoldable pub written : MemoryState → (core addr width value : ℕ) → MemoryState
written memory core addr width value = record memory {
  bytes = with_number memory.bytes (addr - memory.base) width value;
  reservations = after_write core addr memory.reservations;
}

-- after a core's reservation was set, or ended
abbrev pub reserving : MemoryState → (core : ℕ) → Option Reservation → MemoryState
reserving memory core reservation = record memory { reservations = slice_set memory.reservations core reservation }

-- What an access of a core is answered: a load, a load-reserved and an atomic operation the number, a store and a fetch
-- 0, and a store-conditional 0 where the core has reserved the bytes and else 1.
abbrev pub memory_reply : MemoryState → (core : ℕ) → Request → ℕ
memory_reply memory core (Load width addr) = memory_number memory addr width
memory_reply memory core (Store width addr value) = 0
memory_reply memory core (Lr width addr) = memory_number memory addr width
memory_reply memory core (Sc width paired addr value) = if is_reserved memory core addr width then 0 else 1
memory_reply memory core (Amo width op addr value) = memory_number memory addr width
memory_reply memory core (Fetch addr) = 0

-- The memory after an access. A store-conditional stores only where the core has reserved the bytes, and ends what it
-- has reserved in any case. A fetch changes nothing.
abbrev pub memory_after : MemoryState → (core : ℕ) → Request → MemoryState
memory_after memory core (Load width addr) = memory
memory_after memory core (Store width addr value) = written memory core addr width value
memory_after memory core (Lr width addr) = reserving memory core (Some (record { addr = addr; width = width }))
memory_after memory core (Sc width paired addr value) =
    if is_reserved memory core addr width then reserving (written memory core addr width value) core None else reserving memory core None
memory_after memory core (Amo width op addr value) =
    written memory core addr width (new_number op width (memory_number memory addr width) value)
memory_after memory core (Fetch addr) = memory
