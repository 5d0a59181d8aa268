-- What serves the accesses of cores to shards: each access goes to the shard of its line.
use Rattle.std.specs.Prelude.{ℕ, ◌+◌, max, List, length, replicate, slice_index, slice_set}
use Rattle.zs_num.specs.declared.entry.Entry.{Entry}
use Rattle.zs_num.specs.declared.entry.Outcome.TheVariants.{Hit}
use Rattle.zs_num.specs.declared.request.Request.{Request}
use Rattle.shard.specs.Served.{ShardState, met_by, shard_after, shard_for, shard_reply}
use Rattle.zs_num.specs.Request.{bank_of}

pub record ShardWorld : Type 0 where
  -- in order of their numbers
  pub shards : List ShardState
  -- the stamp of each core's latest access
  pub stamps : List ℕ

-- before the first access of an interval, where the last stamps of the shards are 0
abbrev pub begun_world : (cores : ℕ) → List ShardState → ShardWorld
begun_world cores shards = record { shards = shards; stamps = replicate cores 0 }

-- a shard whose last stamp is 0
abbrev pub restarted : ShardState → ShardState
restarted shard = record shard { last = 0 }

-- an access that has its stamp and is not served yet
abbrev pub unserved_entry : (core stamp start : ℕ) → Request → Entry
unserved_entry core stamp start request = record { core = core; stamp = stamp; start = start; request = request; reply = 0; outcome = Hit }

-- the access of a core with this latest stamp that starts then, as the shard records it
abbrev pub recorded_by_shard : ShardState → (latest core start : ℕ) → Request → Entry
recorded_by_shard shard latest core start request = let e = unserved_entry core (max shard.last latest + 1) start request in
    record e { reply = shard_reply shard e; outcome = met_by shard e }

-- the access, and the world after it
unfoldable pub shards_serve : ShardWorld → (core start : ℕ) → Request → Entry × ShardWorld
shards_serve w core start request =
    let shard = shard_for w.shards request in
    let e = recorded_by_shard shard (slice_index w.stamps core) core start request in
    (e, record { shards = slice_set w.shards (bank_of (length w.shards) request) (shard_after shard e); stamps = slice_set w.stamps core e.stamp })
