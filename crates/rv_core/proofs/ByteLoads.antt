-- Loads of one byte after the other.
use Rattle.std.proofs.Common.{◌≡◌, ◌<◌, ◌≤◌, ◌+◌, ◌-◌, ℕ, Bool, zero, suc, ◌∷◌, length, Option, arith, lit≤, refl, sym, ap}
use Rattle.zs_num.specs.declared.request.Request.TheVariants.{Load}
use Rattle.rv_core.specs.declared.memory_range.MemoryRange.{MemoryRange}
use Rattle.zs_num.specs.declared.pairing.Pairing.{Pairing}
use Rattle.rv_core.specs.Accesses.{byte_loads}
use Rattle.rv_core.specs.Sound.{AreServableIn, IsServableIn}
use Rattle.zs_num.specs.PairedRight.{ArePairedRight}

-- a byte of memory is in a line
pub load_served : (memory : MemoryRange) (fetching : Bool) (addr : ℕ) → memory.base ≤ addr → addr + 1 ≤ memory.base + memory.size → IsServableIn memory fetching (Load 1 addr)
load_served memory fetching addr begins ends = record {
  some = lit≤ tt;
  few = lit≤ tt;
  begins = begins;
  ends = ends;
  in_line = omega arith;
  aligned = tt;
  fetched = tt;
}

pub loads_served : (memory : MemoryRange) (fetching : Bool) (addr count : ℕ) → memory.base ≤ addr → addr + count ≤ memory.base + memory.size → AreServableIn memory fetching (byte_loads addr count)
loads_served memory fetching addr zero begins ends = tt
loads_served memory fetching addr (suc count) begins ends =
    (load_served memory fetching addr begins (omega arith), loads_served memory fetching (addr + 1) count (omega arith) (omega arith))

pub loads_length : (addr count : ℕ) → length (byte_loads addr count) ≡ count
loads_length addr zero = refl
loads_length addr (suc count) = ap suc (loads_length (addr + 1) count)

pub loads_paired : (pairing : Option Pairing) (addr count : ℕ) → ArePairedRight pairing (byte_loads addr count)
loads_paired pairing addr zero = tt
loads_paired pairing addr (suc count) = (tt, loads_paired pairing (addr + 1) count)

-- the first load, and the others
pub loads_first : (addr count : ℕ) → 0 < count → byte_loads addr count ≡ Load 1 addr ∷ byte_loads (addr + 1) (count - 1)
loads_first addr zero some = absurd (omega arith)
loads_first addr (suc count) some = let e : suc count - 1 ≡ count = omega arith in ap (λ n. Load 1 addr ∷ byte_loads (addr + 1) n) (sym e)
