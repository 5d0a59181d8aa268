-- What a table has, and what it is seen as: a word and a slot for each part, and a word more for each core.
use Rattle.std.specs.Prelude.{◌≡◌, ℕ, ◌+◌, ◌*◌, ◌<◌, ◌≤◌, ◌^◌, [], replicate, Vec}
use Rattle.std.specs.Vec.{vec_capacity}
use Rattle.std.specs.declared.alloc.Global.{Global}
use Rattle.atomic_table.specs.Seated.{TableId}
use Rattle.home.specs.HomeState.{HomeState}
use Rattle.l1_cache.specs.L1State.{L1State}
use Rattle.parts_table.specs.declared.rule.Opening.{Opening}
use Rattle.parts_table.specs.Access.{TableState}
use Rattle.parts_table.specs.KeptKeys.{BlocksState}
use Rattle.parts_table.specs.Rule.{HasOpened}

abbrev pub table_state_of : TableId → Opening → TableState
table_state_of table key = record { table = table; opening = key.parts.value.items; cores = key.cores; banks = key.banks; room = key.room }

-- the words and slots of so many parts
pub record HasPlaces (table : TableId) (cores banks : ℕ) : Type 0 where
  pub words : table.words ≡ 16 * (cores + banks + cores)
  pub slots : table.slots ≡ cores + banks
  pub few : 16 * (cores + banks + cores) < 2 ^ 32

-- What a table keeps: besides its words and slots it has room for all that comes back when it is closed.
pub record IsTable (t : TableState) (cores banks : ℕ) (homes : Vec HomeState Global) (l1s : Vec L1State Global) (lasts : Vec ℕ Global) (blocks : Vec BlocksState Global) : Type 0 where
  pub places : HasPlaces t.table t.cores t.banks
  pub opened : HasOpened t.opening t.cores t.banks t.room
  pub cores_are : cores ≡ t.cores
  pub banks_are : banks ≡ t.banks
  pub some_cores : 0 < t.cores
  pub few_cores : t.cores ≤ 256
  pub few_banks : t.banks < 2 ^ 16
  pub small_room : t.room < 2 ^ 32
  pub homes_room : (homes.items ≡ []) × (t.banks ≤ vec_capacity homes)
  pub l1s_room : (l1s.items ≡ []) × (t.cores ≤ vec_capacity l1s)
  pub no_lasts : lasts.items ≡ replicate t.banks 0
  pub blocks_room : (blocks.items ≡ []) × (t.cores ≤ vec_capacity blocks)
