-- What a core asks of memory.
use Rattle.std.specs.Prelude.{ℕ, ◌/◌, ◌%◌, Bool, true, false}
use Rattle.zs_num.specs.declared.request.Request.{Request}
use Rattle.zs_num.specs.declared.request.Request.TheVariants.{Load, Store, Lr, Sc, Amo, Fetch}

-- the address of its lowest byte
abbrev pub addr_of : Request → ℕ
addr_of (Load width addr) = addr
addr_of (Store width addr value) = addr
addr_of (Lr width addr) = addr
addr_of (Sc width paired addr value) = addr
addr_of (Amo width op addr value) = addr
addr_of (Fetch addr) = addr

-- how many bytes it reads or writes; of a fetch, those of the instruction
abbrev pub width_of : Request → ℕ
width_of (Load width addr) = width
width_of (Store width addr value) = width
width_of (Lr width addr) = width
width_of (Sc width paired addr value) = width
width_of (Amo width op addr value) = width
width_of (Fetch addr) = 4

-- whether it is the fetch of an instruction
abbrev pub is_fetch : Request → Bool
is_fetch (Load width addr) = false
is_fetch (Store width addr value) = false
is_fetch (Lr width addr) = false
is_fetch (Sc width paired addr value) = false
is_fetch (Amo width op addr value) = false
is_fetch (Fetch addr) = true

-- how many bytes a cache line has
abbrev pub line_bytes : ℕ
line_bytes = 64

-- the number of the line in which an address lies
abbrev pub line_at : (addr : ℕ) → ℕ
line_at addr = addr / line_bytes

-- the number of the line in which it lies
abbrev pub line_of : Request → ℕ
line_of request = line_at (addr_of request)

-- the bank of a line: lines are dealt to the banks in turn
abbrev pub bank_of_line : (banks line : ℕ) → ℕ
bank_of_line banks line = line % banks

-- the bank that has its line
abbrev pub bank_of : (banks : ℕ) → Request → ℕ
bank_of banks request = bank_of_line banks (line_of request)
