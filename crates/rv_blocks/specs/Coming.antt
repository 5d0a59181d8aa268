-- How far a core has come by itself.
use Rattle.std.specs.Prelude.{◌≡◌, ◌+◌, ◌-◌, ◌≤◌, ℕ, List, Option}
use Rattle.zs_num.specs.declared.entry.Entry.{Entry}
use Rattle.zs_num.specs.declared.request.Request.{Request}
use Rattle.elf_load.specs.MemoryImage.{MemoryImage}
use Rattle.rv_core.specs.declared.memory_range.MemoryRange.{MemoryRange}
use Rattle.rv_core.specs.declared.stint.Stint.{Stint}
use Rattle.rv_core.specs.Hits.{GoesOn, Moment}
use Rattle.rv_blocks.specs.declared.hits.Left.{Left}

-- A core at an address, of whose stint so much is left.
abbrev pub moment_at : {Port : Type 0} → Stint → (registers : List ℕ) → (pc : ℕ) → (line : Option ℕ) → Left → Port → Moment Port
moment_at stint registers pc line left port = record {
  registers = registers;
  pc = pc;
  line = line;
  clock = stint.end - left.cycles;
  count = stint.end - stint.clock - left.cycles - left.waited;
  port = port;
}

-- It came from there to here. `before` and `after` are how many accesses it might make there, and may make here, and
-- `room_of` for how many a port has room at least.
pub record HasCome {Port : Type 0} (image : MemoryImage) (memory : MemoryRange) (stint : Stint)
    (gives : Port → (start : ℕ) → Request → Entry → Port → Type 0) (core_of : Port → ℕ) (logged_of : Port → Option (List Entry)) (room_of : Port → ℕ)
    (before after : ℕ) (there here : Moment Port) : Type 0 where
  pub made : ℕ
  pub few : made + after ≡ before
  pub room : room_of there.port ≤ room_of here.port + made
  pub path : GoesOn image memory stint gives core_of logged_of made there here
