-- Which lines an access takes out of caches to make room. The lines that it takes from the other cores as it writes are
-- not among them.
use Rattle.std.specs.Prelude.{ℕ, ◌==◌, Bool, true, false, ◌&&◌, if◌then◌else◌, Option, Some, None, is_some}
use Rattle.std.specs.Option.{option_map}
use Rattle.zs_num.specs.Request.{is_fetch, line_of}
use Rattle.zs_num.specs.declared.entry.Outcome.{Outcome}
use Rattle.zs_num.specs.declared.entry.Outcome.TheVariants.{Hit, Upgrade, L2, Miss}
use Rattle.zs_num.specs.declared.request.Request.{Request}
use Rattle.cache_set.specs.Ways.{victim_of}
use Rattle.cache_set.specs.declared.letter.Letter.{Letter}
use Rattle.cache_set.specs.declared.letter.Letter.TheVariants.{M, E, S, I}
use Rattle.home.specs.HomeState.{HomeState, evicted_by, row_at}
use Rattle.l1_cache.specs.L1State.{L1State, copy_at, has_instructions, instruction_victim_in, letter_of, victim_in}
use Rattle.shard.specs.declared.leaving.Leaving.{Leaving}
use Rattle.shard.specs.Coherence.{Caches, fetch_holds, fetch_met_at, is_valid, is_write, l1i_lines_at, l2_victim, letter_at, met_at, on_l2, on_others, own_victim}

-- the line of a way, if there is one
abbrev pub line_in_way : {X : Type 0} → Option (ℕ × X) → Option ℕ
line_in_way way = option_map (λ w. w.0) way

-- the line that leaves the L2, and so every other cache, for an access that is met so
abbrev pub l2_leaves : Outcome → Caches → (line : ℕ) → Option ℕ
l2_leaves Hit c line = None
l2_leaves (Upgrade others) c line = None
l2_leaves (L2 others) c line = None
l2_leaves (Miss dirty) c line = line_in_way (l2_victim c line)

-- the line that leaves a core's L1 for one that it has with this letter
abbrev pub l1_leaves : Letter → Caches → (core line : ℕ) → Option ℕ
l1_leaves M c core line = None
l1_leaves E c core line = None
l1_leaves S c core line = None
l1_leaves I c core line = line_in_way (own_victim c core line)

-- the line that leaves a core's L1I for one that it holds, or not
abbrev pub l1i_leaves : (held : Bool) → Caches → (core line : ℕ) → Option ℕ
l1i_leaves true c core line = None
l1i_leaves false c core line = line_in_way (victim_of c.l1i_ways (l1i_lines_at c core line))

-- for a read or a write of a line: the core's own L1 gives up what it has to behind the L2 and the other cores
abbrev pub leaving_at : Caches → (core line : ℕ) → (write : Bool) → Leaving
leaving_at c core line write = record {
  own = l1_leaves (letter_at c core line) (on_others (met_at c core line write) write core line (on_l2 (met_at c core line write) line c)) core line;
  shared = l2_leaves (met_at c core line write) c line;
}

-- for a fetch of a line
abbrev pub fetch_leaving_at : Caches → (core line : ℕ) → Leaving
fetch_leaving_at c core line = record {
  own = l1i_leaves (fetch_holds c core line) (on_l2 (fetch_met_at c core line) line c) core line;
  shared = l2_leaves (fetch_met_at c core line) c line;
}

-- The lines that leave for an access, to make room: from the core's own L1, or from its L1I where the access is a
-- fetch, and from the L2. Where the L2's had stood in the set that the core fills, none leaves that set beside it.
unfoldable pub leaving_of : Caches → (core : ℕ) → Request → Leaving
leaving_of c core request = let line = line_of request in
    if is_fetch request then fetch_leaving_at c core line else leaving_at c core line (is_write request)

-- ---- by a home and an L1

abbrev pub is_this : Option ℕ → (line : ℕ) → Bool
is_this None line = false
is_this (Some other) line = other == line

-- The line that leaves a full set, of which `last` is the last one, behind a line that left. That one made the room if
-- it was there, and in the same set: `beside` is the last one of its set.
abbrev pub left_beside : (there : Bool) → (beside last : Option ℕ) → Option ℕ
left_beside there beside None = None
left_beside there beside (Some last) = if there && is_this beside last then None else Some last

-- the line that leaves an L1 for another, behind the one that left the L2
abbrev pub own_left : L1State → (line : ℕ) → (left : Option ℕ) → Option ℕ
own_left l1 line None = line_in_way (victim_in l1 line)
own_left l1 line (Some left) =
    left_beside (is_valid (letter_of (copy_at l1 left))) (line_in_way (victim_in l1 left)) (line_in_way (victim_in l1 line))

-- the same of an instruction cache
abbrev pub instruction_left : L1State → (line : ℕ) → (left : Option ℕ) → Option ℕ
instruction_left l1 line None = line_in_way (instruction_victim_in l1 line)
instruction_left l1 line (Some left) =
    left_beside (has_instructions l1 left) (line_in_way (instruction_victim_in l1 left)) (line_in_way (instruction_victim_in l1 line))

-- the line that leaves the L2 for another
abbrev pub home_left : HomeState → (line : ℕ) → Option ℕ
home_left home line = if is_some (row_at home line) then None else line_in_way (evicted_by home line)

-- the lines that leave where the core has the line, and where it does not
abbrev pub leaving_by : (there : Bool) → (own shared : Option ℕ) → Leaving
leaving_by true own shared = record { own = None; shared = None }
leaving_by false own shared = record { own = own; shared = shared }

abbrev pub leaving_here : HomeState → L1State → Request → Leaving
leaving_here home l1 request = let line = line_of request in let shared = home_left home line in
    if is_fetch request
    then leaving_by (has_instructions l1 line) (instruction_left l1 line shared) shared
    else leaving_by (is_valid (letter_of (copy_at l1 line))) (own_left l1 line shared) shared
