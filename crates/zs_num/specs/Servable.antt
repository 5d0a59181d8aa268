-- What a memory can be asked.
use Rattle.std.specs.Prelude.{◌≡◌, ◌⊎◌, ℕ, ◌+◌, ◌%◌, ◌≤◌, Bool, IsTrue}
use Rattle.zs_num.specs.declared.request.Request.{Request}
use Rattle.zs_num.specs.declared.request.Request.TheVariants.{Load, Store, Lr, Sc, Amo, Fetch}
use Rattle.zs_num.specs.Request.{addr_of, width_of, line_bytes}

-- an atomic access is of a word or a doubleword, and lies at a multiple of its width
abbrev pub IsNaturallyAligned : (addr width : ℕ) → Type 0
IsNaturallyAligned addr width = ((width ≡ 4) ⊎ (width ≡ 8)) × (addr % width ≡ 0)

-- a load and a store may lie anywhere, and an instruction lies at a multiple of 4
abbrev pub IsAligned : Request → Type 0
IsAligned (Load width addr) = Unit {0}
IsAligned (Store width addr value) = Unit {0}
IsAligned (Lr width addr) = IsNaturallyAligned addr width
IsAligned (Sc width paired addr value) = IsNaturallyAligned addr width
IsAligned (Amo width op addr value) = IsNaturallyAligned addr width
IsAligned (Fetch addr) = addr % 4 ≡ 0

-- only cores that have an instruction cache fetch
abbrev pub MayFetch : (l1i : Bool) → Request → Type 0
MayFetch l1i (Load width addr) = Unit {0}
MayFetch l1i (Store width addr value) = Unit {0}
MayFetch l1i (Lr width addr) = Unit {0}
MayFetch l1i (Sc width paired addr value) = Unit {0}
MayFetch l1i (Amo width op addr value) = Unit {0}
MayFetch l1i (Fetch addr) = IsTrue l1i

-- What a memory of so many bytes from a base on can be asked, where cores have instruction caches or none (`l1i`): an
-- access of 1 to 8 of its bytes, all in one line, and aligned if it is atomic or a fetch; and a fetch only where there are
-- instruction caches.
pub record IsServable (base size : ℕ) (l1i : Bool) (request : Request) : Type 0 where
  pub some : 1 ≤ width_of request
  pub few : width_of request ≤ 8
  pub begins : base ≤ addr_of request
  pub ends : addr_of request + width_of request ≤ base + size
  pub in_line : addr_of request % line_bytes + width_of request ≤ line_bytes
  pub aligned : IsAligned request
  pub fetched : MayFetch l1i request
