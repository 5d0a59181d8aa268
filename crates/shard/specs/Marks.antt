-- Memory whose reservations are kept by the shards. A shard keeps a mark for each core: the bytes of the core's latest
-- load-reserved there, unless that has ended there since. A store-conditional says by itself whether it is paired.
use Rattle.std.specs.Prelude.{ℕ, ◌-◌, Bool, ◌&&◌, if◌then◌else◌, List, [], length, slice_index_or, slice_set, Option, Some, None}
use Rattle.zs_num.specs.Request.{addr_of, bank_of}
use Rattle.zs_num.specs.declared.request.Request.{Request}
use Rattle.zs_num.specs.declared.request.Request.TheVariants.{Load, Store, Lr, Sc, Amo, Fetch}
use Rattle.rv_alu.specs.Atomic.{new_number}
use Rattle.flat_memory.specs.declared.reservation.Reservation.{Reservation}
use Rattle.flat_memory.specs.FlatMemory.{after_write, is_reservation, number_in, with_number}

-- ---- one shard: its marks by core, and its bytes, of which the access is to those from a place on

-- a store-conditional stores where it is paired and the core has marked the bytes
abbrev pub does_store : (marks : List (Option Reservation)) → (core addr width : ℕ) → (paired : Bool) → Bool
does_store marks core addr width paired = paired && is_reservation (slice_index_or marks core None) addr width

unfoldable pub reply_from : (bytes : List ℕ) → (place : ℕ) → (marks : List (Option Reservation)) → (core : ℕ) → Request → ℕ
reply_from bytes place marks core (Load width addr) = number_in bytes place width
reply_from bytes place marks core (Store width addr value) = 0
reply_from bytes place marks core (Lr width addr) = number_in bytes place width
reply_from bytes place marks core (Sc width paired addr value) = if does_store marks core addr width paired then 0 else 1
reply_from bytes place marks core (Amo width op addr value) = number_in bytes place width
reply_from bytes place marks core (Fetch addr) = 0

unfoldable pub bytes_after : (bytes : List ℕ) → (place : ℕ) → (marks : List (Option Reservation)) → (core : ℕ) → Request → List ℕ
bytes_after bytes place marks core (Load width addr) = bytes
bytes_after bytes place marks core (Store width addr value) = with_number bytes place width value
bytes_after bytes place marks core (Lr width addr) = bytes
bytes_after bytes place marks core (Sc width paired addr value) =
    if does_store marks core addr width paired then with_number bytes place width value else bytes
bytes_after bytes place marks core (Amo width op addr value) =
    with_number bytes place width (new_number op width (number_in bytes place width) value)
bytes_after bytes place marks core (Fetch addr) = bytes

unfoldable pub marks_after : (marks : List (Option Reservation)) → (core : ℕ) → Request → List (Option Reservation)
marks_after marks core (Load width addr) = marks
marks_after marks core (Store width addr value) = after_write core addr marks
marks_after marks core (Lr width addr) = slice_set marks core (Some (record { addr = addr; width = width }))
marks_after marks core (Sc width paired addr value) =
    slice_set (if does_store marks core addr width paired then after_write core addr marks else marks) core None
marks_after marks core (Amo width op addr value) = after_write core addr marks
marks_after marks core (Fetch addr) = marks

-- ---- all shards

pub record MarkedMemory : Type 0 where
  -- the address of the first byte
  pub base : ℕ
  -- all bytes from there on
  pub bytes : List ℕ
  -- by shard, its marks
  pub marks : List (List (Option Reservation))

-- the marks of the shard of an access
abbrev pub marks_for : MarkedMemory → Request → List (Option Reservation)
marks_for memory request = slice_index_or memory.marks (bank_of (length memory.marks) request) []

-- what an access of a core is answered
abbrev pub marked_reply : MarkedMemory → (core : ℕ) → Request → ℕ
marked_reply memory core request =
    reply_from memory.bytes (addr_of request - memory.base) (marks_for memory request) core request

-- the memory after it
abbrev pub marked_after : MarkedMemory → (core : ℕ) → Request → MarkedMemory
marked_after memory core request = record memory {
  bytes = bytes_after memory.bytes (addr_of request - memory.base) (marks_for memory request) core request;
  marks = slice_set memory.marks (bank_of (length memory.marks) request) (marks_after (marks_for memory request) core request);
}
