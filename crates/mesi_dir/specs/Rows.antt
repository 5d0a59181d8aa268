-- How a directory is laid out: the lines' tags in one list, and beside each its row.
use Rattle.std.specs.Prelude.{◌≡◌, ℕ, ◌≤◌, List, length, map}
use Rattle.std.specs.List.{zip}
use Rattle.mesi_dir.specs.declared.row.DirectoryRow.{DirectoryRow}
use Rattle.mesi_dir.specs.CoreSets.{cores_in}
use Rattle.mesi_dir.specs.LineMap.{Sharing, LineMap, IsLineMap}

-- what a row says
abbrev pub sharing_in : DirectoryRow → Sharing
sharing_in row = record { sharers = cores_in row.sharers.words; owner = row.owner }

-- the map that tags and rows stand for
abbrev pub directory_view : (room cores : ℕ) (tags : List ℕ) (rows : List DirectoryRow) → LineMap
directory_view room cores tags rows = record { room = room; cores = cores; lines = zip tags (map sharing_in rows) }

pub record AreDirectoryRows (room cores : ℕ) (tags : List ℕ) (rows : List DirectoryRow) (tag_room row_room : ℕ) : Type 0 where
  pub is_map : IsLineMap (directory_view room cores tags rows)
  pub together : length rows ≡ length tags
  pub tag_rooms : room ≤ tag_room
  pub row_rooms : room ≤ row_room
