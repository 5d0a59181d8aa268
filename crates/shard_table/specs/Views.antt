-- What a seat knows, and how that changes.
use Rattle.std.specs.Prelude.{ℕ, ◌+◌, List, [], ◌∷◌, ◌++◌, Some, None}
use Rattle.zs_num.specs.declared.entry.Entry.{Entry}
use Rattle.shard.specs.Served.{ShardState}
use Rattle.shard_table.specs.declared.view.View.{View}
use Rattle.shard_table.specs.declared.view.CoreAccesses.{CoreAccesses}
use Rattle.shard_table.specs.declared.view.ShardAccesses.{ShardAccesses}
use Rattle.shard_table.specs.declared.view.Found.{Found}

abbrev pub nothing_found : Found
nothing_found = record { shard = 0; word = 0; count = 0 }

-- no access of a core yet
abbrev pub new_part : (core : ℕ) → CoreAccesses
new_part core = record { core = core; list = [] }

-- what the first seat knows at first: it is core 0's
abbrev pub first_view : List ShardState → (cores room : ℕ) → View
first_view shards cores room = record {
  shards = shards;
  cores = cores;
  room = room;
  made = 1;
  parts = new_part 0 ∷ [];
  hold = None;
  found = nothing_found;
  notes = [];
}

-- ---- a hold

-- a shard was taken, which has served these accesses
abbrev pub holding : View → (shard : ℕ) → List Entry → View
holding v shard list = record v { hold = Some (record { shard = shard; list = list }) }

-- another core held the shard
abbrev pub refused : View → (shard word : ℕ) → View
refused v shard word = record v { found = record { shard = shard; word = word; count = v.found.count + 1 } }

-- the shard was given back after an access of the seat's core
abbrev pub given : View → CoreAccesses → ShardAccesses → Entry → View
given v part served e = record v {
  parts = record part { list = part.list ++ e ∷ [] } ∷ [];
  hold = None;
  notes = v.notes ++ record served { list = served.list ++ e ∷ [] } ∷ [];
}

-- ---- seats

-- the first seat has made a seat more
abbrev pub with_one_seat_more : View → View
with_one_seat_more v = record v { made = v.made + 1 }

-- which is the next core's
abbrev pub next_seat : View → View
next_seat v = record v { made = 0; parts = new_part v.made ∷ []; hold = None; found = nothing_found; notes = [] }

-- one seat for the cores of both
abbrev pub both : View → View → View
both v w = record v { parts = v.parts ++ w.parts; notes = v.notes ++ w.notes }

-- what is left of the other
abbrev pub spent : View
spent = record { shards = []; cores = 0; room = 0; made = 0; parts = []; hold = None; found = nothing_found; notes = [] }
