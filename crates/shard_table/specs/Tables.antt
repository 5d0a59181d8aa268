-- What a table is seen as, and what it keeps: a word and a slot for each shard, and room for shards and logs when it is
-- closed.
use Rattle.std.specs.Prelude.{◌≡◌, ℕ, ◌*◌, ◌<◌, ◌≤◌, ◌^◌, List, [], ◌∷◌, length, Vec}
use Rattle.std.specs.Vec.{vec_capacity}
use Rattle.std.specs.declared.alloc.Global.{Global}
use Rattle.access_log.specs.Logs.{LogState}
use Rattle.atomic_table.specs.Seated.{TableId}
use Rattle.shard.specs.Served.{ShardState, resumed}
use Rattle.shard_table.specs.declared.rule.Opening.{Opening}
use Rattle.shard_table.specs.Access.{TableState}

abbrev pub table_state_of : TableId → Opening → TableState
table_state_of table key = record { table = table; shards = key.shards.value.items; cores = key.cores; room = key.room }

pub record IsTable (t : TableState) (count : ℕ) (shards : Vec ShardState Global) (logs : Vec LogState Global) : Type 0 where
  pub words : t.table.words ≡ 16 * length t.shards
  pub slots : t.table.slots ≡ length t.shards
  pub count_is : count ≡ length t.shards
  pub some : 0 < length t.shards
  pub few : 16 * length t.shards < 2 ^ 32
  pub some_cores : 0 < t.cores
  pub shards_room : (shards.items ≡ []) × (length t.shards ≤ vec_capacity shards)
  pub logs_room : (logs.items ≡ []) × (t.cores ≤ vec_capacity logs)

-- shards with these last stamps
abbrev pub resumed_all : List ShardState → List ℕ → List ShardState
resumed_all [] stamps = []
resumed_all (shard ∷ shards) [] = shard ∷ shards
resumed_all (shard ∷ shards) (stamp ∷ stamps) = resumed shard stamp ∷ resumed_all shards stamps
