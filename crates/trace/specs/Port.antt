-- A port to the shards that keeps a list of its accesses.
use Rattle.std.specs.Prelude.{◌≡◌, ◌+◌, ◌≤◌, ℕ, Bool, true, List, min}
use Rattle.zs_num.specs.declared.entry.Entry.{Entry}
use Rattle.zs_num.specs.declared.request.Request.{Request}
use Rattle.shard.specs.Served.{shard_for}
use Rattle.access_log.specs.History.{AreRising, latest_of}
use Rattle.bound_core.specs.ReferenceMachine.{BoundState}
use Rattle.bound_core.specs.NumberedCores.{NumberedCore, timed_of}
use Rattle.bound_core.specs.ShardPort.{base_of, l1i_of, room_of, size_of}
use Rattle.bound_core.specs.ShardWorld.{ShardWorld, shards_serve}
use Rattle.shard.specs.Leaving.{leaving_of}
use Rattle.shard.specs.declared.leaving.Leaving.{Leaving}

pub record LoggedPortState : Type 0 where
  pub world : ShardWorld
  -- the core whose accesses follow
  pub core : ℕ
  -- the accesses so far
  pub entries : List Entry
  -- for how many more there is room
  pub room : ℕ

-- What comes of a request of the chosen core: the shard of its line serves it, the memory stays where it lies, and an
-- access takes the room of one.
pub record Gives (p : LoggedPortState) (start : ℕ) (request : Request) (e : Entry) (q : LoggedPortState) : Type 0 where
  pub given : (e, q.world) ≡ shards_serve p.world p.core start request
  pub base_stays : base_of q.world ≡ base_of p.world
  pub size_stays : size_of q.world ≡ size_of p.world
  pub l1i_stays : l1i_of q.world ≡ l1i_of p.world
  pub room : min (room_of p.world) p.room ≤ min (room_of q.world) q.room + 1

-- a bound phase on its way, with these cores and this port
abbrev pub phase_of : List NumberedCore → LoggedPortState → BoundState ShardWorld
phase_of cores port = record { cores = timed_of cores; world = port.world; entries = port.entries }

-- what it knows of the accesses so far: the latest stamp, and whether all stamps have risen
pub record KnowsItsOrder (last : ℕ) (rises : Bool) (entries : List Entry) : Type 0 where
  pub latest : last ≡ latest_of entries
  pub rising : rises ≡ true → AreRising 0 entries

-- which lines leave caches for a request of a core: caches of the shard of its line
abbrev pub leaves_shards : ShardWorld → (core : ℕ) → Request → Leaving
leaves_shards world core request = leaving_of (shard_for world.shards request).caches core request
