-- The text of lines.csv.
use Rattle.std.specs.Prelude.{ℕ, ◌+◌, ◌*◌, ◌==◌, nat_lt, Bool, false, if◌then◌else◌, List, [], ◌∷◌, ◌++◌, codes}
use Rattle.std.specs.Fmt.{decimal}
use Rattle.std.specs.List.{flat_map, sum_by}
use Rattle.report.specs.ReportText.{hexadecimal}
use Rattle.profile_rows.specs.declared.line_row.LineRow.{LineRow}
use Rattle.profile_rows.specs.Tallies.{capped, capped_wide}
use Rattle.profile_files.specs.Numbers.{accesses, in_hexadecimal, marked}

-- the names of the columns
unfoldable pub lines_head : List ℕ
lines_head =
    codes "line,core,loads,stores,atomics,fetches,hits,upgrades,l2hits,misses,"
    ++ (codes "cold,coherence,inclusion,eviction,invalidating,invalidated,downgrading,lost,lowered,"
    ++ codes "cycles,missing,waited,cost,read,written\n")

-- what a row cost: the cycles of accesses that did not hit, and those that their events waited
abbrev pub row_cost : LineRow → ℕ
row_cost row = row.tally.missing + row.tally.waited

-- what the rows of a line cost together, as far as 128 bits go
abbrev pub line_cost : List LineRow → ℕ
line_cost rows = capped_wide (sum_by row_cost rows)

-- the numbers behind those of the accesses
unfoldable pub line_columns : LineRow → List ℕ
line_columns row =
    row.tally.cold ∷ row.tally.coherence ∷ row.tally.inclusion ∷ row.tally.eviction
    ∷ row.tally.invalidating ∷ row.tally.invalidated ∷ row.tally.downgrades ∷ row.tally.lost ∷ row.tally.lowered
    ∷ row.tally.cycles ∷ row.tally.missing ∷ row.tally.waited ∷ capped_wide (row_cost row) ∷ []

-- the address of a line's first byte, as far as 64 bits go, and the core
unfoldable pub line_place : LineRow → List ℕ
line_place row = in_hexadecimal (capped (row.line * 64)) ++ (codes "," ++ decimal row.core)

-- which bytes of a line: 16 hexadecimal digits
unfoldable pub mask : ℕ → List ℕ
mask bytes = codes ",0x" ++ hexadecimal 16 bytes

-- the line of a core and a line
unfoldable pub line_row : LineRow → List ℕ
line_row row =
    line_place row ++ (marked (codes ",") (accesses row.tally) ++ (marked (codes ",") (line_columns row)
    ++ (mask row.read ++ (mask row.written ++ codes "\n"))))

-- ---- the order of the lines

-- whether rows are of this line, by the first of them
abbrev pub is_of_line : ℕ → List LineRow → Bool
is_of_line line [] = false
is_of_line line (row ∷ rows) = row.line == line

-- a row before rows that are grouped: it joins the first ones, if they are of its line
abbrev pub joined : LineRow → List (List LineRow) → List (List LineRow)
joined row [] = (row ∷ []) ∷ []
joined row (group ∷ groups) = if is_of_line row.line group then (row ∷ group) ∷ groups else (row ∷ []) ∷ group ∷ groups

-- rows that follow each other and are of one line, grouped
abbrev pub by_line : List LineRow → List (List LineRow)
by_line [] = []
by_line (row ∷ rows) = joined row (by_line rows)

-- lines in order with another one at its place: behind those that cost more
abbrev pub placed : List LineRow → List (List LineRow) → List (List LineRow)
placed group [] = group ∷ []
placed group (other ∷ others) =
    if nat_lt (line_cost group) (line_cost other) then other ∷ placed group others else group ∷ other ∷ others

-- The lines that cost most come first, and those that cost the same as they came: the lesser line first, where the rows
-- came by lines.
abbrev pub by_cost : List (List LineRow) → List (List LineRow)
by_cost [] = []
by_cost (group ∷ groups) = placed group (by_cost groups)

unfoldable pub lines_text : List LineRow → List ℕ
lines_text rows = lines_head ++ flat_map (flat_map line_row) (by_cost (by_line rows))
