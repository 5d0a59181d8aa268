-- How a home is laid out: the ways of the L2 in arrays, one set after the other, and the rows beside them, one way after the other.
use Rattle.std.specs.Prelude.{◌≡◌, ℕ, zero, suc, Bool, true, false, ◌+◌, ◌-◌, ◌*◌, ◌/◌, ◌%◌, ◌<◌, ◌≤◌, List, length, map, slice_index, slice_index_or, Option, Some, None, IfSome}
use Rattle.std.specs.List.{range_with_len}
use Rattle.cache_set.specs.Pieces.{sets_in}
use Rattle.cache_set.specs.Places.{AreTags, StandsAt, StandsNowhere, set_number_in}
use Rattle.flat_memory.specs.declared.reservation.Reservation.{Reservation}
use Rattle.home.specs.declared.met.Last.{Last}
use Rattle.home.specs.declared.row.Row.{Row}
use Rattle.home.specs.FirstBytes.{lines_below}
use Rattle.home.specs.HomeState.{HomeLine, HomeState}
use Rattle.home.specs.RowChunks.{unheld}
use Rattle.home.specs.Rows.{line_in}

-- where the row of the way at a place stands: way by way, where the ways stand set by set
abbrev pub row_place : (sets ways place : ℕ) → ℕ
row_place sets ways place = place % ways * sets + place / ways

-- what the rows say, by the places of their ways
unfoldable pub lines_in : (sets ways : ℕ) → List Row → List HomeLine
lines_in sets ways rows = map (λ place. line_in (slice_index_or rows (row_place sets ways place) unheld)) (range_with_len 0 (sets * ways))

abbrev pub home_view : (number shards base size sets ways : ℕ) → (ages tags : List ℕ) → List Row → (bytes : List ℕ) → (marks : List (Option Reservation)) → HomeState
home_view number shards base size sets ways ages tags rows bytes marks = record {
  number = number;
  shards = shards;
  base = base;
  size = size;
  ways = ways;
  sets = sets_in sets ways ages tags (lines_in sets ways rows);
  bytes = bytes;
  marks = marks;
}

-- the way whose row this is
abbrev pub way_place : (sets ways row : ℕ) → ℕ
way_place sets ways row = row % sets * ways + row / sets

-- a way has the line, and this is its row; or none has
abbrev pub IsFound : (shards sets ways : ℕ) → (ages tags : List ℕ) → (line : ℕ) → Option ℕ → Type 0
IsFound shards sets ways ages tags line None = StandsNowhere ways ages tags (set_number_in shards sets line) line
IsFound shards sets ways ages tags line (Some row) = StandsAt ways ages tags (set_number_in shards sets line) line (way_place sets ways row) × ((row < sets * ways) × (row ≡ row_place sets ways (way_place sets ways row)))

-- the line that was looked for last is where it was found
abbrev pub IsLast : (shards sets ways : ℕ) → (ages tags : List ℕ) → Option Last → Type 0
IsLast shards sets ways ages tags last = IfSome last (λ l. IsFound shards sets ways ages tags l.line l.row)

-- A line of memory is one of the bank's, and stands there among these that lie in memory: so many of the bank's lines lie
-- below memory, and so many are looked at.
pub record IsOwn (number shards below lines line at : ℕ) : Type 0 where
  pub dealt : line % shards ≡ number
  pub above : below ≤ line / shards
  pub place : at ≡ line / shards - below
  pub within : at < lines

-- a place is one of set n's ways
abbrev pub IsInSet : (ways n place : ℕ) → Type 0
IsInSet ways n place = (n * ways ≤ place) × (place < n * ways + ways)

-- the row of the way of set n that is meant: none, or that of the one before
abbrev pub known_row : (sets n known : ℕ) → Option ℕ
known_row sets n zero = None
known_row sets n (suc way) = Some (way * sets + n)

pub record AreKnown (number shards below sets ways : ℕ) (ages tags known : List ℕ) : Type 0 where
  -- a line stands in its set
  pub placed : (place : ℕ) → place < sets * ways → 0 < slice_index ages place → IsInSet ways (set_number_in shards sets (slice_index tags place)) place
  -- of each of the bank's lines that lie in memory it is known which way has it, or that none has
  pub found : (line at : ℕ) → IsOwn number shards below (length known) line at
      → IsFound shards sets ways ages tags line (known_row sets (set_number_in shards sets line) (slice_index known at))

-- At a line's place stands this, if it has one, and at all others what stood there.
pub record IsNoted (number shards below line value : ℕ) (known after : List ℕ) : Type 0 where
  pub long : length after ≡ length known
  pub here : (at : ℕ) → IsOwn number shards below (length known) line at → slice_index after at ≡ value
  pub others : (at : ℕ) → (IsOwn number shards below (length known) line at → ⊥) → slice_index after at ≡ slice_index known at

-- A line came into a way, and the line that this way had, if it had one, left.
pub record IsRemembered (number shards below line value : ℕ) (evicts : Bool) (had : ℕ) (known after : List ℕ) : Type 0 where
  pub between : List ℕ
  pub left : evicts ≡ true → IsNoted number shards below had 0 known between
  pub stayed : evicts ≡ false → between ≡ known
  pub came : IsNoted number shards below line value between after

pub record AreHome (number shards below base sets ways tick : ℕ) (ages tags : List ℕ) (rows : List Row) (last : Option Last) (known : List ℕ) : Type 0 where
  pub shards_are : 0 < shards
  pub sets_are : (0 < sets) × (sets ≤ 65536)
  pub below_are : below ≡ lines_below shards base
  pub ways_are : AreTags sets ways tick ages tags
  pub rows_are : length rows ≡ sets * ways
  pub last_is : IsLast shards sets ways ages tags last
  pub known_are : AreKnown number shards below sets ways ages tags known
