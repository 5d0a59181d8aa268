-- What the rows beside the ways of the L2 say of their lines.
use Rattle.std.specs.Prelude.{ℕ}
use Rattle.home.specs.declared.row.Row.{Row}
use Rattle.home.specs.HomeState.{HomeLine}
use Rattle.mesi_dir.specs.CoreSets.{cores_in}

abbrev pub line_in : Row → HomeLine
line_in row = record {
  dirty = row.dirty;
  sharers = cores_in row.sharers.words;
  alone = row.alone;
  fetchers = cores_in row.fetchers.words;
}

-- a line with what its row says of it
abbrev pub evicted_in : ℕ × Row → ℕ × HomeLine
evicted_in e = (e.0, line_in e.1)
