-- How the rows beside the ways of the L2 are laid out: by chunks of 64.
use Rattle.std.specs.Prelude.{◌≡◌, ℕ, ◌*◌, ◌≤◌, false, List, [], length, slice_index_or, slice_set}
use Rattle.home.specs.declared.row.Row.{Row}
use Rattle.home.specs.Chunks.{ArePlaced, items_in}
use Rattle.home.specs.HomeState.{HomeLine}
use Rattle.home.specs.Rows.{line_in}

-- stands where no row is
abbrev pub unheld : Row
unheld = record { sharers = record { words = [] }; fetchers = record { words = [] }; dirty = false; alone = false }

abbrev pub rows_in : (count : ℕ) → (places : List ℕ) → List Row → List Row
rows_in count places rows = items_in unheld 64 count places rows

-- every row is of a chunk
pub record AreRows (count : ℕ) (places : List ℕ) (rows : List Row) (capacity : ℕ) : Type 0 where
  pub all : count ≤ 64 * length places
  pub chunks : ArePlaced unheld 64 places rows capacity

-- the row of a way is another, which a change makes of it
pub record IsChanged (change : HomeLine → HomeLine) (rows : List Row) (way : ℕ) (rows_then : List Row) : Type 0 where
  pub row : Row
  pub put : rows_then ≡ slice_set rows way row
  pub changed : line_in row ≡ change (line_in (slice_index_or rows way unheld))
