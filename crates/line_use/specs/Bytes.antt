-- The bytes of its line that an access reads, and those that it writes.
use Rattle.std.specs.Prelude.{◌≡◌, ℕ, ◌+◌, ◌<◌, ◌%◌, ◌==◌, nat_le, nat_lt, Bool, true, false, ◌&&◌}
use Rattle.std.specs.Int.{bit_at}
use Rattle.zs_num.specs.Request.{addr_of, line_bytes, width_of}
use Rattle.zs_num.specs.declared.request.Request.{Request}
use Rattle.zs_num.specs.declared.request.Request.TheVariants.{Load, Store, Lr, Sc, Amo, Fetch}

-- It reads its bytes. A fetch reads none: instructions are those of the executable as it was loaded.
abbrev pub reads : Request → Bool
reads (Load width addr) = true
reads (Store width addr value) = false
reads (Lr width addr) = true
reads (Sc width paired addr value) = false
reads (Amo width op addr value) = true
reads (Fetch addr) = false

-- it writes them, or may: a store-conditional that fails is among these
abbrev pub writes : Request → Bool
writes (Load width addr) = false
writes (Store width addr value) = true
writes (Lr width addr) = false
writes (Sc width paired addr value) = true
writes (Amo width op addr value) = true
writes (Fetch addr) = false

-- byte i of its line is one of them
abbrev pub has_byte : Request → (i : ℕ) → Bool
has_byte request i = let first = addr_of request % line_bytes in nat_le first i && nat_lt i (first + width_of request)

-- ---- masks

-- bit i of a mask is set
abbrev pub has_bit : (mask i : ℕ) → Bool
has_bit mask i = bit_at mask i == 1

-- A mask has the bits of which the test holds, of the 64 that there are. So it is the only one.
abbrev pub HasBits : (mask : ℕ) → (ℕ → Bool) → Type 0
HasBits mask test = (i : ℕ) → i < 64 → has_bit mask i ≡ test i
