-- What a core's seat keeps between two calls: it holds no shard, what it knows of accesses are those of its log, and
-- there is memory for as many as it can make.
use Rattle.std.specs.Prelude.{◌≡◌, ℕ, ◌≤◌, ◌<◌, ◌^◌, [], ◌∷◌, length, None}
use Rattle.access_log.specs.History.{latest_of}
use Rattle.access_log.specs.Logs.{LogState}
use Rattle.atomic_table.specs.Table.{Me}
use Rattle.shard.specs.Served.{ShardState}
use Rattle.shard_table.specs.declared.view.View.{View}

pub record IsSeat (me : Me ShardState View) (log : LogState) (last core : ℕ) : Type 0 where
  pub slots : me.1 ≡ []
  pub hold : me.0.hold ≡ None
  pub parts : me.0.parts ≡ record { core = core; list = log.entries } ∷ []
  pub last_is : last ≡ latest_of log.entries
  pub room : log.room ≡ me.0.room
  pub within : length log.entries ≤ log.room
  pub core_is : core < me.0.cores
  pub few_cores : me.0.cores < 2 ^ 16
  pub small_room : me.0.room < 2 ^ 32
