-- Which store-conditional is paired with which load-reserved (RISC-V Unprivileged ISA manual, "Load-Reserved/
-- Store-Conditional Instructions"): a core's pairing is the address and the width of its latest load-reserved, where it
-- made no store-conditional since.
use Rattle.std.specs.Prelude.{ℕ, ◌==◌, ◌&&◌, Bool, false, Option, Some, None}
use Rattle.zs_num.specs.declared.request.Request.{Request}
use Rattle.zs_num.specs.declared.request.Request.TheVariants.{Load, Store, Lr, Sc, Amo, Fetch}
use Rattle.zs_num.specs.declared.pairing.Pairing.{Pairing}

-- the core's pairing after it made this access
abbrev pub pairing_after : Option Pairing → Request → Option Pairing
pairing_after pairing (Load width addr) = pairing
pairing_after pairing (Store width addr value) = pairing
pairing_after pairing (Lr width addr) = Some (record { addr = addr; width = width })
pairing_after pairing (Sc width paired addr value) = None
pairing_after pairing (Amo width op addr value) = pairing
pairing_after pairing (Fetch addr) = pairing

-- whether the core's latest load-reserved was at this address and width, and no store-conditional came since
abbrev pub is_paired : Option Pairing → (addr width : ℕ) → Bool
is_paired None addr width = false
is_paired (Some pairing) addr width = (pairing.addr == addr) && (pairing.width == width)
