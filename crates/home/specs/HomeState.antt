-- The home of a bank's lines: the bank's part of the L2 with a directory of it, the bytes, and the marks.
use Rattle.std.specs.Prelude.{◌≤◌, ℕ, ◌+◌, ◌-◌, ◌*◌, ◌/◌, ◌==◌, Bool, true, false, not, ◌&&◌, List, [], ◌∷◌, ◌++◌, length, take, drop, Option, Some, None, unwrap_or}
use Rattle.std.specs.List.{enumerate_from, list_any}
use Rattle.std.specs.Option.{option_map_or}
use Rattle.zs_num.specs.Request.{line_at, line_bytes}
use Rattle.cache_set.specs.Ways.{kept_of, used, filled, changed, victim_of}
use Rattle.flat_memory.specs.declared.reservation.Reservation.{Reservation}
use Rattle.cache_set.specs.Lines.{set_of, in_set_of}
use Rattle.mesi_dir.specs.CoreSets.{with_core, without_core}
use Rattle.home.specs.FirstBytes.{lines_below}

-- ---- a home

-- what is kept of a line of the L2
pub record HomeLine : Type 0 where
  pub dirty : Bool
  -- the cores whose L1 has it
  pub sharers : List ℕ
  -- one core alone has it, in M or E
  pub alone : Bool
  -- the cores whose instruction cache has it
  pub fetchers : List ℕ

pub record HomeState : Type 0 where
  pub number : ℕ
  -- how many shards there are
  pub shards : ℕ
  -- where memory lies, in bytes
  pub base : ℕ
  pub size : ℕ
  pub ways : ℕ
  -- by set, the lines, the most recently used first
  pub sets : List (List (ℕ × HomeLine))
  -- the bytes of the lines in order of their numbers: of a line that a core has in M they are old
  pub bytes : List ℕ
  -- by core, the mark of its latest load-reserved here
  pub marks : List (Option Reservation)

abbrev pub nobody : HomeLine
nobody = record { dirty = false; sharers = []; alone = false; fetchers = [] }

unfoldable pub row_at : HomeState → (line : ℕ) → Option HomeLine
row_at home line = kept_of line (set_of home.shards line home.sets)

-- also of a line that the L2 does not have
abbrev pub row_of : HomeState → (line : ℕ) → HomeLine
row_of home line = unwrap_or (row_at home line) nobody

-- the line that is evicted from the L2 for this one
abbrev pub evicted_by : HomeState → (line : ℕ) → Option (ℕ × HomeLine)
evicted_by home line = victim_of home.ways (set_of home.shards line home.sets)

-- where a line's bytes stand
abbrev pub line_place : HomeState → (line : ℕ) → ℕ
line_place home line = line_bytes * (line / home.shards - lines_below home.shards home.base)

-- the home keeps the bytes of the line
abbrev pub KeepsLine : HomeState → (line : ℕ) → Type 0
KeepsLine home line = line_place home line + line_bytes ≤ length home.bytes

unfoldable pub bytes_at : HomeState → (line : ℕ) → List ℕ
bytes_at home line = take line_bytes (drop (line_place home line) home.bytes)

-- ---- the steps

abbrev pub in_row_of : (line : ℕ) → (HomeLine → HomeLine) → HomeState → HomeState
in_row_of line change home = record home {
  sets = in_set_of home.shards line (λ rows. option_map_or (λ row. changed line (change row) rows) (kept_of line rows) rows) home.sets;
}

unfoldable pub looked_up_in : (line : ℕ) → HomeState → HomeState
looked_up_in line home = record home { sets = in_set_of home.shards line (used line) home.sets }

-- a line comes in, clean, and no core has it
unfoldable pub brought_in : (line : ℕ) → HomeState → HomeState
brought_in line home = record home { sets = in_set_of home.shards line (filled home.ways line nobody) home.sets }

unfoldable pub marked_dirty_in : (line : ℕ) → HomeState → HomeState
marked_dirty_in line home = in_row_of line (λ row. record row { dirty = true }) home

-- a core has the line too; alone in E where no other has it
unfoldable pub granted_in : (line core : ℕ) → (alone : Bool) → HomeState → HomeState
granted_in line core alone home = in_row_of line (λ row. record row { sharers = with_core core row.sharers; alone = alone }) home

-- a core has the line no more
unfoldable pub dropped_in : (line core : ℕ) → HomeState → HomeState
dropped_in line core home = in_row_of line (λ row. record row { sharers = without_core core row.sharers; alone = false }) home

-- a core has the line alone, in M or E
unfoldable pub owned_in : (line core : ℕ) → HomeState → HomeState
owned_in line core home = in_row_of line (λ row. record row { sharers = core ∷ []; alone = true }) home

unfoldable pub fetched_in : (line core : ℕ) → HomeState → HomeState
fetched_in line core home = in_row_of line (λ row. record row { fetchers = with_core core row.fetchers }) home

unfoldable pub unfetched_in : (line core : ℕ) → HomeState → HomeState
unfetched_in line core home = in_row_of line (λ row. record row { fetchers = without_core core row.fetchers }) home

-- a line's bytes come home
unfoldable pub with_bytes_at : (line : ℕ) → (bytes : List ℕ) → HomeState → HomeState
with_bytes_at line bytes home = record home { bytes = take (line_place home line) home.bytes ++ (bytes ++ drop (line_place home line + line_bytes) home.bytes) }

-- ---- marks

abbrev pub is_on_line : (line : ℕ) → Option Reservation → Bool
is_on_line line None = false
is_on_line line (Some mark) = line_at mark.addr == line

-- another core's mark stands on the line
unfoldable pub is_marked_by_others : (marks : List (Option Reservation)) → (core line : ℕ) → Bool
is_marked_by_others marks core line = list_any (λ at. not (at.0 == core) && is_on_line line at.1) (enumerate_from 0 marks)
