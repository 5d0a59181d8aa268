-- How far a core has come by itself that tells where it went.
use Rattle.std.specs.Prelude.{◌≡◌, ◌++◌, ℕ, List, Option}
use Rattle.zs_num.specs.declared.entry.Entry.{Entry}
use Rattle.zs_num.specs.declared.request.Request.{Request}
use Rattle.elf_load.specs.MemoryImage.{MemoryImage}
use Rattle.rv_core.specs.declared.leg.Leg.{Leg}
use Rattle.rv_core.specs.declared.memory_range.MemoryRange.{MemoryRange}
use Rattle.rv_core.specs.declared.stint.Stint.{Stint}
use Rattle.rv_core.specs.Hits.{Moment}
use Rattle.rv_core.specs.Told.{going_told, told_of, EndsThere, Told}
use Rattle.rv_blocks.specs.Coming.{HasCome}

-- It came from there to here. The legs of its way, which came behind those of before, tell of it, but for what is untold.
-- Where it may make no access more, its way ends with its last one, if there is any.
pub record HasTold {Port : Type 0} (image : MemoryImage) (memory : MemoryRange) (stint : Stint)
    (gives : Port → (start : ℕ) → Request → Entry → Port → Type 0) (core_of : Port → ℕ) (logged_of : Port → Option (List Entry)) (room_of : Port → ℕ)
    (before after : ℕ) (there here : Moment Port) (legs legs_after : List Leg) (untold : List Told) : Type 0 where
  pub come : HasCome image memory stint gives core_of logged_of room_of before after there here
  pub is : told_of legs_after ++ untold ≡ told_of legs ++ going_told image memory stint gives core_of logged_of come.made there here come.path
  pub stops : after ≡ 0 → EndsThere image memory stint gives core_of logged_of come.made there here come.path
