-- The accesses of an instruction: which bytes each one reads or writes, and what number their replies make. Memory is
-- little-endian (RISC-V Unprivileged ISA manual, "Load and Store Instructions").
use Rattle.std.specs.Prelude.{ℕ, zero, suc, ◌+◌, ◌-◌, ◌*◌, ◌/◌, ◌%◌, ◌^◌, nat_le, nat_lt, Bool, ◌&&◌, if◌then◌else◌, List, [], ◌∷◌}
use Rattle.zs_num.specs.Request.{line_bytes, width_of}
use Rattle.zs_num.specs.declared.request.Request.{Request}
use Rattle.zs_num.specs.declared.request.Request.TheVariants.{Load, Store}
use Rattle.rv_core.specs.declared.memory_range.MemoryRange.{MemoryRange}
use Rattle.rv_core.specs.declared.progress.Reply.{Reply}

-- the number that the lowest bytes of a number make
abbrev pub low_bytes : (width number : ℕ) → ℕ
low_bytes width number = number % 2 ^ (8 * width)

-- the number without its lowest bytes
abbrev pub high_bytes : (width number : ℕ) → ℕ
high_bytes width number = number / 2 ^ (8 * width)

-- so many bytes from an address on lie in memory
abbrev pub is_in_memory : MemoryRange → (addr width : ℕ) → Bool
is_in_memory memory addr width = nat_le memory.base addr && nat_le (addr + width) (memory.base + memory.size)

-- so many bytes from an address on lie in one line
abbrev pub is_in_line : (addr width : ℕ) → Bool
is_in_line addr width = nat_le (addr % line_bytes + width) line_bytes

-- how many bytes there are from an address on to the end of its line
abbrev pub left_in_line : (addr : ℕ) → ℕ
left_in_line addr = line_bytes - addr % line_bytes

-- A load of so many bytes is one access, or two where it crosses a line, the lower line first.
unfoldable pub load_requests : (addr width : ℕ) → List Request
load_requests addr width =
    if is_in_line addr width
    then Load width addr ∷ []
    else Load (left_in_line addr) addr ∷ Load (width - left_in_line addr) (addr + left_in_line addr) ∷ []

-- A store of the lowest bytes of a number likewise: the lower line gets the lower bytes.
unfoldable pub store_requests : (addr width value : ℕ) → List Request
store_requests addr width value =
    if is_in_line addr width
    then Store width addr (low_bytes width value) ∷ []
    else
    Store (left_in_line addr) addr (low_bytes (left_in_line addr) value)
    ∷ Store (width - left_in_line addr) (addr + left_in_line addr) (low_bytes (width - left_in_line addr) (high_bytes (left_in_line addr) value))
    ∷ []

-- a load of each of so many bytes, from the lowest address on
abbrev pub byte_loads : (addr count : ℕ) → List Request
byte_loads addr zero = []
byte_loads addr (suc count) = Load 1 addr ∷ byte_loads (addr + 1) count

-- a reply to an access: of the number the lowest bytes count, as many as the access has
abbrev pub reply_to : Request → (number : ℕ) → Reply
reply_to request number = record { width = width_of request; number = low_bytes (width_of request) number }

-- the number that replies make together, the lowest bytes first
abbrev pub joined : List Reply → ℕ
joined [] = 0
joined (reply ∷ replies) = reply.number + 2 ^ (8 * reply.width) * joined replies

-- The number of so many bytes, sign-extended to 64 bits: where its highest bit is set, all bits above are.
unfoldable pub sign_extended_bytes : (width number : ℕ) → ℕ
sign_extended_bytes width number =
    if nat_lt number (2 ^ (8 * width - 1)) then number else (number + (2 ^ 64 - 2 ^ (8 * width))) % 2 ^ 64
