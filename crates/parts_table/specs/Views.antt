-- What a seat knows, and how that changes.
use Rattle.std.specs.Prelude.{ℕ, ◌+◌, List, [], ◌∷◌, ◌++◌, Option}
use Rattle.parts_table.specs.declared.part.TimedPart.{TimedPart}
use Rattle.parts_table.specs.declared.view.CoreAccesses.{CoreAccesses}
use Rattle.parts_table.specs.declared.view.Hold.{Hold}
use Rattle.parts_table.specs.declared.view.Made.{Made}
use Rattle.parts_table.specs.declared.view.View.{View}

-- no access of a core yet
abbrev pub new_log : (core : ℕ) → CoreAccesses
new_log core = record { core = core; list = [] }

-- what the first seat knows at first: it is core 0's
abbrev pub first_view : List (Option TimedPart) → (cores banks room : ℕ) → View
first_view opening cores banks room = record {
  opening = opening;
  cores = cores;
  banks = banks;
  room = room;
  made = 1;
  logs = new_log 0 ∷ [];
  holds = [];
}

-- ---- holds

-- a part was taken
abbrev pub holding : View → (part : ℕ) → TimedPart → View
holding v part value = record v { holds = record { part = part; value = value } ∷ v.holds }

-- a part was given back, and these accesses were published: the other parts that the seat holds are known as they are then
abbrev pub given : View → CoreAccesses → List Made → (left : List Hold) → View
given v log list left = record v { logs = record log { list = log.list ++ list } ∷ []; holds = left }

-- ---- seats

-- the first seat has made a seat more
abbrev pub with_one_seat_more : View → View
with_one_seat_more v = record v { made = v.made + 1 }

-- which is the next core's
abbrev pub next_seat : View → View
next_seat v = record v { made = 0; logs = new_log v.made ∷ []; holds = [] }

-- one seat for the cores of both
abbrev pub both : View → View → View
both v w = record v { logs = v.logs ++ w.logs }

-- what is left of the other
abbrev pub spent : View
spent = record { opening = []; cores = 0; banks = 0; room = 0; made = 0; logs = []; holds = [] }
