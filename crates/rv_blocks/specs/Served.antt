-- A load or a store that a port serves at once, as a hit.
use Rattle.std.specs.Prelude.{◌≡◌, ℕ, List, [], ◌∷◌, Option, Some}
use Rattle.zs_num.specs.declared.entry.Entry.{Entry}
use Rattle.zs_num.specs.declared.request.Request.{Request}
use Rattle.zs_num.specs.declared.request.Request.TheVariants as request
use Rattle.rv_core.specs.declared.memory_range.MemoryRange.{MemoryRange}
use Rattle.rv_core.specs.declared.single.Single.{Single}
use Rattle.rv_core.specs.declared.single.Single.TheVariants.{Load, Store}
use Rattle.rv_core.specs.Accesses.{reply_to}
use Rattle.rv_core.specs.Effect.{received, with_register}
use Rattle.rv_core.specs.Port.{IsHit}
use Rattle.rv_core.specs.Single.{access_of}
use Rattle.rv_blocks.specs.declared.slot.Slot.{Slot}
use Rattle.rv_blocks.specs.Slots.{met_by}

-- the registers behind an instruction of one access, which had this reply
abbrev pub registers_by : Single → (reply : ℕ) → (registers : List ℕ) → List ℕ
registers_by (Load addr destination) reply registers =
    with_register registers destination.rd (received destination (reply_to (request.Load destination.width addr) reply ∷ []))
registers_by (Store addr width value) reply registers = registers

-- The access of a slot that is a load or a store is one, starts then, and is a hit of the port. It leaves these registers
-- and this port.
pub record IsServed {Port : Type 0} (memory : MemoryRange) (gives : Port → (start : ℕ) → Request → Entry → Port → Type 0)
    (core_of : Port → ℕ) (logged_of : Port → Option (List Entry))
    (slot : Slot) (start : ℕ) (registers : List ℕ) (port : Port) (registers_after : List ℕ) (port_after : Port) : Type 0 where
  pub single : Single
  pub reply : ℕ
  pub met : met_by slot memory registers ≡ Some single
  pub served : IsHit gives core_of logged_of port start (access_of single) reply port_after
  pub left : registers_after ≡ registers_by single reply registers
